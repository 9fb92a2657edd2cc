use Rattle.std.proofs.Common.{◌≡◌, ◌++◌}
use Rattle.event_text.specs.replay.dsm_core.CoreParts.{core_of}
use Rattle.recorded_run.specs.Nodes.{entry_in, state_lines}
use Rattle.recorded_run.proofs.nodes.push_block.Given as goal

-- the lines of the nodes so far
abbrev pub invariant-loop-node : goal.invariant-loop-node
invariant-loop-node l =
    l.out.items ≡ l.initial.out.items
    ++ state_lines l.fn.core.layout (core_of l.fn.core) (entry_in l.fn.core.layout (core_of l.fn.core) l.fn.block) l.fn.block l.node
