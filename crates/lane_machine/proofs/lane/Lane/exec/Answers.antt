-- A turn, part by part.
use Rattle.std.proofs.Common.{◌≡◌, ap, sym, subst}
use Rattle.lane_model.specs.Turns.{LaneTurn, word_turn}
use Rattle.lane_machine.specs.declared.stored.StoredLane.{StoredLane}
use Rattle.lane_machine.specs.declared.stored.StoredShared.{StoredShared}
use Rattle.lane_machine.specs.Stored.{lane_turn, with_lane, work_of, HasLane}
use Rattle.lane_machine.proofs.lane.Lane.exec.Goals as goal

pub returns-clause-node : goal.returns-clause-node
returns-clause-node c x h =
    let l = c.self.inside.inner in
    let after = lane_turn (with_lane x c.exec.new.self c.exec.new.shared) c.exec.new.sends.items c.exec.result.output in
    let turn : word_turn (work_of c.args.self.now c.args.shared.now) x c.args.self.now.number ≡ after =
    subst (λ (k : StoredLane). HasLane k c.args.shared.now x → word_turn (work_of k c.args.shared.now) x k.number ≡ after) c.self.view_is
    (subst (λ (f : StoredShared). HasLane l f x → word_turn (work_of l f) x l.number ≡ after) c.shared.view_is (c.exec.ensures.turn x)) h in
    sym (ap (λ (t : LaneTurn). t.node) turn)

pub returns-clause-sends : goal.returns-clause-sends
returns-clause-sends c x h =
    let l = c.self.inside.inner in
    let after = lane_turn (with_lane x c.exec.new.self c.exec.new.shared) c.exec.new.sends.items c.exec.result.output in
    let turn : word_turn (work_of c.args.self.now c.args.shared.now) x c.args.self.now.number ≡ after =
    subst (λ (k : StoredLane). HasLane k c.args.shared.now x → word_turn (work_of k c.args.shared.now) x k.number ≡ after) c.self.view_is
    (subst (λ (f : StoredShared). HasLane l f x → word_turn (work_of l f) x l.number ≡ after) c.shared.view_is (c.exec.ensures.turn x)) h in
    sym (ap (λ (t : LaneTurn). t.sends) turn)

pub returns-clause-output : goal.returns-clause-output
returns-clause-output c x h =
    let l = c.self.inside.inner in
    let after = lane_turn (with_lane x c.exec.new.self c.exec.new.shared) c.exec.new.sends.items c.exec.result.output in
    let turn : word_turn (work_of c.args.self.now c.args.shared.now) x c.args.self.now.number ≡ after =
    subst (λ (k : StoredLane). HasLane k c.args.shared.now x → word_turn (work_of k c.args.shared.now) x k.number ≡ after) c.self.view_is
    (subst (λ (f : StoredShared). HasLane l f x → word_turn (work_of l f) x l.number ≡ after) c.shared.view_is (c.exec.ensures.turn x)) h in
    sym (ap (λ (t : LaneTurn). t.printed) turn)
