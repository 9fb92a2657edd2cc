use Rattle.std.proofs.Common.{◌∙◌, subst}
use Rattle.std.specs.Prelude.{IsSome}
use Rattle.templates.specs.Code.{code_of}
use Rattle.batch_plan.proofs.RunLemmas.{run_word}
use Rattle.batch_plan.proofs.batches.with_run.Goals as goal

pub run_scratches-entry-requires : goal.run_scratches-entry-requires
run_scratches-entry-requires c = record {
  code_word =
      subst (λ ws. IsSome (code_of ws c.args.entry.address))
      (c.code.ensures.value ∙ c.graph.ensures.value)
      (run_word (code_of c.code.result.now) c.args.entry.address c.longest_run-run.result.words
      (c.longest_run-run.ensures.longest.run c.if-run-eq0.false));
}
