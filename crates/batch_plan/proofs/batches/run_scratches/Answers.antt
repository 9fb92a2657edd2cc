use Rattle.std.proofs.Common.{inl, inr}
use Rattle.templates.specs.Code.{code_of}
use Rattle.batch_plan.proofs.ScratchLemmas.{run_choice}
use Rattle.batch_plan.proofs.batches.run_scratches.Goals as goal

pub returns : goal.returns
returns c = record {
  value =
      run_choice (code_of c.args.live.now) c.args.address c.args.base c.all_dead_at-dead.result
      c.difference-others.result c.choose.result
      (λ i r at nz lt. c.all_dead_at-dead.ensures.members i r at nz lt)
      (λ r lt. (
        λ m e. ((c.difference-others.ensures r lt).0 m).1 ((c.with.ensures r lt).1 (inr e)),
        λ out. (c.difference-others.ensures r lt).1 (
          c.all.ensures r lt,
          λ m.
              elim ((c.with.ensures r lt).0 m) [
                | inl none ↦ c.empty.ensures r none
                | inr same ↦ out same
              ],
        ),
      ))
      c.choose.ensures.value;
}
