-- One list more.
use Rattle.std.proofs.Common.{inl, inr, subst, sym, arith}
use Rattle.std.proofs.lemmas.Bool.Decides.{eqb_tells}
use Rattle.lane_law.specs.dsm_protocol.Queue.{wires_of}
use Rattle.smp_sim.specs.CoreSteps.{TakeAway}
use Rattle.smp_sim.proofs.steps.all_take_away.Goals as goal

pub loop-from-preserved : goal.loop-from-preserved
loop-from-preserved c = λ j below. elim (eqb_tells j c.loop-from.from) [
  | inl t ↦ subst (λ k. TakeAway (wires_of c.args.lists.now c.args.count k c.args.node)) (sym t.1)
      (c.takes_away_first.ensures c.if-not-takes_away_first.false)
  | inr t ↦ c.loop-from.invariant j (let other = t.1 in omega (arith, other, below))
]
