-- The turn of what is stored.
use Rattle.std.proofs.Common.{◌≡◌, [], None, subst}
use Rattle.lane_model.specs.Nodes.{LaneNode}
use Rattle.lane_model.specs.Turns.{word_turn}
use Rattle.lane_machine.specs.declared.stored.StoredLane.{StoredLane}
use Rattle.lane_machine.specs.declared.stored.StoredShared.{StoredShared}
use Rattle.lane_machine.specs.Stored.{lane_turn, with_lane, work_of, HasLane}
use Rattle.lane_machine.specs.InUse.{ArePutBack}
use Rattle.lane_machine.proofs.lane.Lane.exec_in_use.Goals as goal

pub returns-clause-turn : goal.returns-clause-turn
returns-clause-turn c = λ yes l m f g s.
    let o = c.self.inside.inner in
    subst (λ (k : StoredLane). ArePutBack k c.args.shared.now l f
    → ArePutBack c.exec_in_use.new.self c.exec_in_use.new.shared m g → (x : LaneNode) → HasLane l f x
    → word_turn (work_of l f) x l.number ≡ lane_turn (with_lane x m g) [] None) c.self.view_is
    (subst (λ (p : StoredShared). ArePutBack o p l f
    → ArePutBack c.exec_in_use.new.self c.exec_in_use.new.shared m g → (x : LaneNode) → HasLane l f x
    → word_turn (work_of l f) x l.number ≡ lane_turn (with_lane x m g) [] None) c.shared.view_is
    (c.exec_in_use.ensures.turn yes l m f g)) s

pub returns-clause-ended : goal.returns-clause-ended
returns-clause-ended c = λ yes l m f g s.
    let o = c.self.inside.inner in
    subst (λ (k : StoredLane). ArePutBack k c.args.shared.now l f
    → ArePutBack c.exec_in_use.new.self c.exec_in_use.new.shared m g → (x : LaneNode) → HasLane l f x
    → HasLane m g (with_lane x m g)) c.self.view_is
    (subst (λ (p : StoredShared). ArePutBack o p l f
    → ArePutBack c.exec_in_use.new.self c.exec_in_use.new.shared m g → (x : LaneNode) → HasLane l f x
    → HasLane m g (with_lane x m g)) c.shared.view_is (c.exec_in_use.ensures.ended yes l m f g)) s
