use Rattle.std.proofs.Common.{ap, arith}
use Rattle.elf32_read.specs.Refusals.{has_wrong_sizes}
use Rattle.elf32_read.specs.declared.headers.FileHeader.{FileHeader}
use Rattle.elf32_read.proofs.HeaderSearch.{found, nowhere, none_before, one_more}
use Rattle.elf32_read.proofs.rules.first_of_wrong_sizes.Goals as goal

pub loop-index-init : goal.loop-index-init
loop-index-init c = none_before c.args.file.now has_wrong_sizes

pub returns-then-has_wrong_sizes : goal.returns-then-has_wrong_sizes
returns-then-has_wrong_sizes c =
    let count = ap (λ (h : FileHeader). h.e_phnum) c.requires.is in
    found c.args.file.now has_wrong_sizes c.loop-index.index c.program_header.result c.has_wrong_sizes.result
    (omega arith) c.program_header.ensures c.has_wrong_sizes.ensures c.if-has_wrong_sizes.true c.loop-index.invariant

pub loop-index-preserved : goal.loop-index-preserved
loop-index-preserved c =
    one_more c.args.file.now has_wrong_sizes c.loop-index.index c.program_header.result c.has_wrong_sizes.result
    c.program_header.ensures c.has_wrong_sizes.ensures c.if-has_wrong_sizes.false c.loop-index.invariant

pub returns : goal.returns
returns c =
    let count = ap (λ (h : FileHeader). h.e_phnum) c.requires.is in
    nowhere c.args.file.now has_wrong_sizes c.loop-index.index (omega arith) c.loop-index.invariant
