use Rattle.std.proofs.Common.{rules}
use Rattle.std.specs.Prelude.{IfErr}
use Rattle.rewrite_verify.specs.Refusals.{Fits}
use Rattle.rewrite_verify.proofs.FileLemmas.{only_memory}
use Rattle.rewrite_verify.proofs.verifying.verify.Goals as goal

pub returns-in_err-rewritten-clause-only : goal.returns-in_err-rewritten-clause-only
returns-in_err-rewritten-clause-only c = λ plan image rewriting is.
    let original = c.args.original.now in
    let e = c.args.elf.now in
    let fits : IfErr c.from_residual.result (Fits original e) = search rules in
    only_memory original e plan image c.from_residual.result c.image_law.ensures.one rewriting is
    fits

pub returns-in_err-judge_file-clause-only : goal.returns-in_err-judge_file-clause-only
returns-in_err-judge_file-clause-only c = λ plan image rewriting is.
    let original = c.args.original.now in
    let e = c.args.elf.now in
    let fits : IfErr c.from_residual-in_err-judge_file.result (Fits original e) = search rules in
    only_memory original e plan image c.from_residual-in_err-judge_file.result
    c.image_law.ensures.one rewriting is fits
