-- By the lane that lets none in, and by the first messages.
use Rattle.std.proofs.Common.{ℕ, List, inl, inr}
use Rattle.home_directory.specs.dsm_messages.declared.messages.Wire.{Wire}
use Rattle.lane_model.specs.Nodes.{LaneNode, LaneWork}
use Rattle.lane_law.specs.dsm_protocol.Queue.{wires_of}
use Rattle.lane_machine.specs.SmpNodes.{node_in}
use Rattle.lane_machine.specs.SmpNodes.{HoldsBeside}
use Rattle.smp_sim.specs.CoreSteps.{IsShut, TakeAway}
use Rattle.smp_sim.proofs.runs.is_shut.Goals as goal

shut_by : (w : LaneWork) (x : LaneNode) (k : ℕ) (ws : List Wire) → HoldsBeside w x k → TakeAway ws
    → IsShut w x k ws
shut_by w x k ws holds (inl none) = inl none
shut_by w x k ws holds (inr lowers) = inr (lowers, holds)

pub returns : goal.returns
returns c = λ yes w is many from below.
    let x = node_in w c.args.number c.args.node.now in
    shut_by w x c.args.lane (wires_of c.args.lists.now c.args.count from c.args.number)
    (c.holds_beside.ensures c.if-not-holds_beside.false w c.args.number is many)
    (c.all_take_away.ensures yes from below)
