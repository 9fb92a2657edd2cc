-- What was in use is the lane's then.
use Rattle.std.proofs.Common.{◌∙◌, ap}
use Rattle.node_machine.specs.node_words.declared.exec_state.ExecState.{ExecState}
use Rattle.lane_machine.specs.declared.stored.StoredLane.{StoredLane}
use Rattle.lane_machine.proofs.InUseLemmas.{back_is, back_lane, leave_use_is, shared_left}
use Rattle.lane_machine.proofs.stored.StoredLane.leave_use.Goals as goal

pub returns : goal.returns
returns c =
    let l = c.args.self.now in
    let f = c.args.shared.now in
    let p = c.index_mut.result.now in
    let x1 = c.deref_mut.result.now in
    let left = c.move_state.new.from in
    let at = c.index_mut.ensures.value in
    let first = c.deref_mut.ensures.value in
    let none = c.requires.none in
    let low = c.requires.number in
    let m : StoredLane = record l { lane = c.move_state.new.to } in
    let g = shared_left l f x1 left first none low p at c.end.new.self c.end.ensures in
    let back = leave_use_is l f x1 left first none low p at c.end.new.self c.end.ensures m.lane
    c.move_state.ensures in
    record {
      back = back;
      none = ap (λ (x : ExecState). x.local.reservation) first ∙ none;
      lane = back_lane l f m g back c.requires.lane;
      shared = back_is l f m g back low c.requires.shared;
    }
