-- Helps the code alone: a node while one of its lanes is in use.
use Rattle.std.specs.Prelude.{ℕ, Bool, List, Option}
use Rattle.home_directory.specs.dsm_messages.declared.messages.Post.{Post}
use Rattle.node_machine.specs.node_words.declared.exec_state.ExecState.{ExecState}
use Rattle.lane_model.specs.node_model.Node.{Node}
use Rattle.node_machine.specs.declared.protocol_state.ProtocolState.{ProtocolState}
use Rattle.node_machine.specs.NodeState.{with_parts}
use Rattle.node_machine.specs.ProtocolState.{turn_by}
use Rattle.lane_model.specs.Turns.{Asked}
use Rattle.lane_machine.specs.declared.lane_protocol.LaneProtocol.{LaneProtocol}
use Rattle.lane_machine.specs.Waits.{wait_among, all_waits}

-- the node with what it has of blocks, its counts, and the waits of all its lanes, as they are
-- stored here
abbrev pub stood : Node → ExecState → ProtocolState → List LaneProtocol → Node
stood n b d places =
    record (with_parts n b d) { wait = wait_among (all_waits d places) }

abbrev pub asked_by : Node → List Post → Option ℕ → (again : Bool) → Asked
asked_by n posts p again = record { turn = turn_by n posts p; again = again }
