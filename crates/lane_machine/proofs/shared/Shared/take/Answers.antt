-- The stored node is the one that is seen.
use Rattle.std.proofs.Common.{subst}
use Rattle.lane_model.specs.Nodes.{LaneWork, LaneNode}
use Rattle.lane_model.specs.Turns.{take_turn}
use Rattle.lane_machine.specs.declared.stored.StoredShared.{StoredShared}
use Rattle.lane_machine.specs.Stored.{AreLanes, HaveLanes, AllWaitFor}
use Rattle.lane_machine.proofs.shared.Shared.take.Goals as goal

pub returns-clause-node : goal.returns-clause-node
returns-clause-node c = subst (λ (f : StoredShared). (w : LaneWork) (x : LaneNode) → AreLanes w c.args.lanes.now f
    → HaveLanes c.args.lanes.now f x → HaveLanes c.take.new.lanes c.take.new.shared (take_turn w x c.args.from c.args.wire).node)
    c.self.view_is c.take.ensures.node

pub returns-clause-lanes : goal.returns-clause-lanes
returns-clause-lanes c = subst (λ (f : StoredShared). (w : LaneWork) → AreLanes w c.args.lanes.now f
    → AreLanes w c.take.new.lanes c.take.new.shared) c.self.view_is c.take.ensures.lanes

pub returns-clause-waits : goal.returns-clause-waits
returns-clause-waits c = subst (λ (f : StoredShared). (w : LaneWork) → AreLanes w c.args.lanes.now f
    → AllWaitFor c.args.lanes.now f → AllWaitFor c.take.new.lanes c.take.new.shared) c.self.view_is c.take.ensures.waits
