-- By the lane's call.
use Rattle.std.proofs.Common.{refl}
use Rattle.lane_machine.proofs.node.SmpNode.put_lane_back.Goals as goal

pub put_back-requires : goal.put_back-requires
put_back-requires c = record {
  number = c.requires.place c.index_mut.result.now c.index_mut.ensures.value;
}

pub returns : goal.returns
returns c = record {
  before = c.index_mut.result.now;
  after = c.put_back.new.self;
  is_before = c.index_mut.ensures.value;
  put_back = c.put_back.ensures.back;
  lanes = refl;
}
