-- By the lane's call: put back, it is as it was.
use Rattle.std.proofs.Common.{◌∙◌, ap, set, sym}
use Rattle.std.proofs.lemmas.List.{get_or-set_same, set-get_or, set-set}
use Rattle.lane_machine.proofs.node.SmpNode.enter_lane.Goals as goal

pub enter_use-requires : goal.enter_use-requires
enter_use-requires c = record {
  number = c.requires.place c.index_mut.result.now c.index_mut.ensures.value;
  none = c.requires.none;
  free = c.requires.free c.index_mut.result.now.number;
}

pub returns : goal.returns
returns c =
    let xs = c.args.self.now.lanes.items in
    let k = c.args.lane in
    let l = c.index_mut.result.now in
    let m = c.enter_use.new.self in
    record {
      back = record {
        before = m;
        after = l;
        is_before = sym (get_or-set_same xs k m m c.requires.lane);
        put_back = c.enter_use.ensures.back;
        lanes = sym (set-set xs k m l ∙ ap (set xs k) c.index_mut.ensures.value
            ∙ set-get_or xs k l);
      };
    }
