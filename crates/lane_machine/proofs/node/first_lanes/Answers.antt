-- One lane more.
use Rattle.std.proofs.Common.{◌≡◌, ◌≤◌, ◌*◌, ◌+◌, ap, refl, sym, subst}
use Rattle.lane_machine.specs.SmpNodes.{lane_work}
use Rattle.lane_machine.specs.SmpNodes.{AreFirstLanes}
use Rattle.lane_machine.proofs.FirstNodes.{first_lane}
use Rattle.lane_machine.proofs.node.first_lanes.Goals as goal

pub loop-lane-preserved : goal.loop-lane-preserved
loop-lane-preserved c =
    let w = lane_work c.args.work.now in
    let l = c.in_ok-first.first in
    let k = c.loop-lane.lane in
    let is = c.push_reserved.ensures.items in
    let e = c.in_ok-first.ensures in
    let processors : w.work.layout.nodes * w.lanes ≡ c.nodes.result * c.args.work.now.lanes =
    ap (λ z. z * w.lanes) (sym c.nodes.ensures.nodes) in
    let more = first_lane w c.args.me c.loop-lane.lanes.items l k c.loop-lane.invariant.first
    (record { image = e.image; budget = e.budget; number = e.number })
    (e.opening w refl refl processors) in
    record {
      len = (subst (AreFirstLanes w c.args.me (k + 1)) (sym is) more).count;
      room = subst (λ z. c.args.work.now.lanes ≤ z) (sym c.push_reserved.ensures.capacity)
          c.loop-lane.invariant.room;
      first = subst (AreFirstLanes w c.args.me (k + 1)) (sym is) more;
    }
