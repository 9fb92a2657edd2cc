use Rattle.std.proofs.Common.{◌≡◌, ℕ, ◌<◌, false}
use Rattle.std.specs.Prelude.{is_some}
use Rattle.event_text.specs.node_machine.NodeState.{node_of}
use Rattle.recorded_run.proofs.nodes.first_wait.Given as goal

-- the node waits for none of the blocks so far
abbrev pub invariant-loop-block : goal.invariant-loop-block
invariant-loop-block l = (b : ℕ) → b < l.block → is_some ((node_of l.node).wait b) ≡ false
