use Rattle.std.proofs.Common.{sym, ◌∙◌}
use Rattle.templates.specs.Code.{code_of}
use Rattle.templates.proofs.ExpandLemmas.{reach_step, never_missing}
use Rattle.templates.proofs.batches.reach_of_run.Goals as goal
use Rattle.templates.proofs.batches.reach_of_run.Goals.{in-Some, in_default}

pub loop-k-preserved : goal.loop-k-preserved
loop-k-preserved c =
    let code = code_of c.args.code.now in
    elim c.match-behind.branch [
      | in-Some w ↦ w.reach-is
          ∙ reach_step code c.args.address c.args.count c.loop-k.k c.loop-k.reach w.with-reach.result w.in-Some.i c.requires.run
          c.loop-k.auto.k c.loop-k-test.true (sym c.behind.ensures.value ∙ w.in-Some.is) c.loop-k.invariant w.with-reach.ensures.value
      | in_default w ↦ absurd (never_missing code c.args.address c.args.count c.loop-k.k c.requires.run c.loop-k-test.true
          (sym c.behind.ensures.value ∙ w.in_default.is))
    ]
