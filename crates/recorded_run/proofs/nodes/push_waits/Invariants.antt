use Rattle.std.proofs.Common.{◌≡◌, ◌++◌}
use Rattle.event_text.specs.node_machine.NodeState.{node_of}
use Rattle.recorded_run.specs.Nodes.{wait_lines}
use Rattle.recorded_run.proofs.nodes.push_waits.Given as goal

-- the lines of the blocks so far
abbrev pub invariant-loop-block : goal.invariant-loop-block
invariant-loop-block l =
    l.out.items ≡ l.initial.out.items ++ wait_lines l.layout (node_of l.node) l.block
