-- What was the lane's is in use then.
use Rattle.lane_machine.specs.declared.stored.StoredLane.{StoredLane}
use Rattle.lane_machine.proofs.InUseLemmas.{put_in_use_is, shared_then, use_is, use_lane, use_low}
use Rattle.lane_machine.proofs.stored.StoredLane.put_in_use.Goals as goal

pub returns : goal.returns
returns c =
    let l = c.args.self.now in
    let f = c.args.shared.now in
    let p = c.index_mut-place.result.now in
    let x1 = c.deref_mut.result.now in
    let x2 = c.deref_mut-2.result.now in
    let left = c.move_state.new.to in
    let s = c.swap_reservation.new.self in
    let r = c.swap_reservation.new.other in
    let at = c.index_mut-place.ensures.value in
    let first = c.deref_mut.ensures.value in
    let moved = c.deref_mut-2.ensures.value in
    let local = c.swap_reservation.ensures.local in
    let other = c.swap_reservation.ensures.other in
    let m : StoredLane = record l { lane = c.move_state.new.from } in
    let g = shared_then l f p x1 x2 left s r at first moved local other in
    let low = c.requires.number in
    let back = put_in_use_is l f p x1 x2 left s r at first moved local other m.lane
    c.move_state.ensures low in
    record {
      back = back;
      lane = use_lane m g l f back c.requires.lane;
      shared = use_is m g l f back (use_low m g l f back low) c.requires.shared;
    }
