use Rattle.state_table.specs.Fill.{IsFilled}
use Rattle.state_table.proofs.states.fill.Given as goal

abbrev pub invariant-loop-place : goal.invariant-loop-place
invariant-loop-place l = IsFilled l.initial.bytes l.bytes l.start l.place l.byte
