use Rattle.std.proofs.Common.{ap, arith}
use Rattle.elf32_read.specs.Refusals.{is_dynamic}
use Rattle.elf32_read.specs.declared.headers.FileHeader.{FileHeader}
use Rattle.elf32_read.proofs.HeaderSearch.{found, nowhere, none_before, one_more}
use Rattle.elf32_read.proofs.rules.first_dynamic.Goals as goal

pub loop-index-init : goal.loop-index-init
loop-index-init c = none_before c.args.file.now is_dynamic

pub returns-then-is_dynamic : goal.returns-then-is_dynamic
returns-then-is_dynamic c =
    let count = ap (λ (h : FileHeader). h.e_phnum) c.requires.is in
    found c.args.file.now is_dynamic c.loop-index.index c.program_header.result c.is_dynamic.result
    (omega arith) c.program_header.ensures c.is_dynamic.ensures c.if-is_dynamic.true c.loop-index.invariant

pub loop-index-preserved : goal.loop-index-preserved
loop-index-preserved c =
    one_more c.args.file.now is_dynamic c.loop-index.index c.program_header.result c.is_dynamic.result
    c.program_header.ensures c.is_dynamic.ensures c.if-is_dynamic.false c.loop-index.invariant

pub returns : goal.returns
returns c =
    let count = ap (λ (h : FileHeader). h.e_phnum) c.requires.is in
    nowhere c.args.file.now is_dynamic c.loop-index.index (omega arith) c.loop-index.invariant
