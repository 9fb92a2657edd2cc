-- What was the lane's is in use then.
use Rattle.lane_machine.specs.declared.stored.StoredLane.{StoredLane}
use Rattle.lane_machine.proofs.InUseLemmas.{enter_use_is, shared_entered, use_is, use_lane, use_low}
use Rattle.lane_machine.proofs.stored.StoredLane.enter_use.Goals as goal

pub returns : goal.returns
returns c =
    let l = c.args.self.now in
    let f = c.args.shared.now in
    let x1 = c.deref_mut.result.now in
    let left = c.move_state.new.to in
    let first = c.deref_mut.ensures.value in
    let none = c.requires.none in
    let low = c.requires.number in
    let m : StoredLane = record l { lane = c.move_state.new.from } in
    let g = shared_entered l f x1 left first none low in
    let back = enter_use_is l f x1 left first none low m.lane c.move_state.ensures c.requires.free in
    record {
      back = back;
      lane = use_lane m g l f back c.requires.lane;
      shared = use_is m g l f back (use_low m g l f back low) c.requires.shared;
    }
