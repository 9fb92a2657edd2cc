-- By the lane's call.
use Rattle.std.proofs.Common.{refl}
use Rattle.lane_machine.proofs.node.SmpNode.leave_lane.Goals as goal

pub leave_use-requires-clause-number : goal.leave_use-requires-clause-number
leave_use-requires-clause-number c =
    c.requires.place c.index_mut.result.now c.index_mut.ensures.value

pub returns-clause-back : goal.returns-clause-back
returns-clause-back c = record {
  before = c.index_mut.result.now;
  after = c.leave_use.new.self;
  is_before = c.index_mut.ensures.value;
  put_back = c.leave_use.ensures.back;
  lanes = refl;
}
