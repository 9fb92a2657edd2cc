-- By what is true of places at the start.
use Rattle.std.proofs.Common.{ap, sym, subst, length, arith}
use Rattle.lane_machine.specs.declared.lane_protocol.LaneProtocol.{LaneProtocol}
use Rattle.lane_machine.proofs.FirstPlaces.{AreFirst, IsFirst, one_longer, first_more, first_kept, first_reserved, first_at, first_among, first_apart}
use Rattle.lane_machine.proofs.shared.first_places.Goals as goal

pub loop-lane-preserved : goal.loop-lane-preserved
loop-lane-preserved c =
    let l = c.args.layout.now in
    let ps = c.loop-lane.places.items in
    let h = c.loop-lane.invariant in
    let p : LaneProtocol = record { reservation = c.new.result; waits = c.in_ok-new.field-0; pool = c.in_ok-new-2.field-0 } in
    let is : IsFirst l p = record { reservation = c.new.ensures; waits = c.in_ok-new.ensures; pool = c.in_ok-new-2.ensures } in
    let items = c.push_reserved.ensures.items in
    let longer = ap length items in
    let one = one_longer ps p in
    let len = h.len in
    let room = h.room in
    let capacity = c.push_reserved.ensures.capacity in
    record {
      len = omega (arith, longer, one, len);
      room = omega (arith, room, capacity);
      first = subst (AreFirst l) (sym items) (first_more l ps p is h.first);
    }

pub returns-clause-kept : goal.returns-clause-kept
returns-clause-kept c = first_kept c.args.layout.now c.loop-lane.places.items c.loop-lane.invariant.first

pub returns-clause-reserved : goal.returns-clause-reserved
returns-clause-reserved c = first_reserved c.args.layout.now c.loop-lane.places.items c.loop-lane.invariant.first

pub returns-clause-waits : goal.returns-clause-waits
returns-clause-waits c = first_at c.args.layout.now c.loop-lane.places.items c.loop-lane.invariant.first

pub returns-clause-empty : goal.returns-clause-empty
returns-clause-empty c = first_among c.args.layout.now c.loop-lane.places.items c.loop-lane.invariant.first

pub returns-clause-apart : goal.returns-clause-apart
returns-clause-apart c = first_apart c.args.layout.now c.loop-lane.places.items c.loop-lane.invariant.first
