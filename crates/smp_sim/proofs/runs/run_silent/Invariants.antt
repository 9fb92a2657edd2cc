use Rattle.std.proofs.Common.{ℕ, List}
use Rattle.smp_sim.specs.CoreParts.{IsCore, parts_of}
use Rattle.smp_sim.proofs.TurnsInUse.{AreOnTheWay}
use Rattle.smp_sim.proofs.runs.run_silent.Given as goal

abbrev pub invariant-loop-turn : goal.invariant-loop-turn
invariant-loop-turn l = (out : List ℕ) → IsCore (parts_of l.work l.fn.nodes.items l.lists out)
    → AreOnTheWay l.work l.lists l.fn.nodes.items out l.events l._turn l.fn.order l.order
    l.nodes.items l.used
