use Rattle.std.proofs.Common.{sym, refl, ◌∙◌, subst, take}
use Rattle.one_memory.specs.Contained.{AreContained}
use Rattle.time_machine.specs.Stand.{original_in, picks_in}
use Rattle.time_machine.proofs.checkpoints.Checkpoint.of.Goals as goal

pub returns-clause-of_run : goal.returns-clause-of_run
returns-clause-of_run c = λ r at.
    let contained = subst AreContained (sym at.state) (c.contained_law.ensures (original_in r) r.program (take c.args.position (picks_in r)) refl) in
    record {
      original = c.in_ok-copy.ensures.original ∙ at.original;
      state = c.in_ok-copy.ensures.state contained ∙ at.state;
      within = at.within;
    }
