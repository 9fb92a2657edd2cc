-- The first of the nodes below.
use Rattle.replay.specs.Way.{IsFirstBelow}
use Rattle.replay.proofs.cursor.Cursors.first.Given as goal

abbrev pub invariant-loop-node : goal.invariant-loop-node
invariant-loop-node l = IsFirstBelow l.self l.node l.first
