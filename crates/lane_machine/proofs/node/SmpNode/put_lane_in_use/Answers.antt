-- By the lane's call: put back, it is as it was.
use Rattle.std.proofs.Common.{◌∙◌, ap, set, sym}
use Rattle.std.proofs.lemmas.List.{get_or-set_same, set-get_or, set-set}
use Rattle.lane_machine.proofs.node.SmpNode.put_lane_in_use.Goals as goal

pub put_in_use-requires : goal.put_in_use-requires
put_in_use-requires c = record {
  number = c.requires.place c.index_mut.result.now c.index_mut.ensures.value;
}

pub returns : goal.returns
returns c =
    let xs = c.args.self.now.lanes.items in
    let k = c.args.lane in
    let l = c.index_mut.result.now in
    let m = c.put_in_use.new.self in
    record {
      before = m;
      after = l;
      is_before = sym (get_or-set_same xs k m m c.requires.lane);
      put_back = c.put_in_use.ensures.back;
      lanes = sym (set-set xs k m l ∙ ap (set xs k) c.index_mut.ensures.value ∙ set-get_or xs k l);
    }
