-- The node's turn.
use Rattle.std.proofs.Common.{◌∙◌, List, sym, subst}
use Rattle.std.specs.Vec.{with_items}
use Rattle.lane_model.specs.Turns.{take_turn}
use Rattle.lane_machine.specs.declared.stored.StoredLane.{StoredLane}
use Rattle.lane_machine.specs.Stored.{AllHeld, AllWaitFor, AreLanes, HaveLanes}
use Rattle.lane_machine.specs.declared.node.SmpNode.{SmpNode}
use Rattle.lane_machine.specs.SmpNodes.{node_in}
use Rattle.lane_machine.proofs.NodeLemmas.{have_lanes, lanes_placed, taken_then, taken_turn}
use Rattle.lane_machine.proofs.node.SmpNode.take.Goals as goal

pub returns-clause-is_node : goal.returns-clause-is_node
returns-clause-is_node c = λ w is.
    let x = c.args.self.now in
    let ws = c.take.new.lanes in
    let f = c.take.new.self in
    let y : SmpNode = record { lanes = with_items x.lanes ws; shared = f } in
    let e = c.take.ensures in
    let x0 = node_in w 0 x in
    let given = c.deref_mut.ensures.value in
    let before = subst (λ (ls : List StoredLane). AreLanes w ls x.shared) (sym given) is.lanes in
    let after = e.lanes w before in
    let placed = lanes_placed x.lanes ws (after.count ∙ sym is.lanes.count) in
    let lanes = subst (λ (ls : List StoredLane). AreLanes w ls f) (sym placed) after in
    let have = subst (λ (ls : List StoredLane). HaveLanes ls x.shared x0) (sym given)
    (have_lanes w x x c.args.from c.args.wire is is.lanes 0) in
    taken_then w x y c.args.from c.args.wire is lanes
    (subst (λ (ls : List StoredLane). AllWaitFor ls f) (sym placed) (e.waits w before
    (subst (λ (ls : List StoredLane). AllWaitFor ls x.shared) (sym given) is.waits)))
    (subst (λ (ls : List StoredLane). AllHeld ls f) (sym placed) e.held)
    (subst (λ (ls : List StoredLane). HaveLanes ls f (take_turn w x0 c.args.from c.args.wire).node)
    (sym placed) (e.node w x0 before have))

pub returns-clause-turn : goal.returns-clause-turn
returns-clause-turn c = λ w i is.
    let x = c.args.self.now in
    let ws = c.take.new.lanes in
    let f = c.take.new.self in
    let y : SmpNode = record { lanes = with_items x.lanes ws; shared = f } in
    let e = c.take.ensures in
    let x0 = node_in w i x in
    let given = c.deref_mut.ensures.value in
    let before = subst (λ (ls : List StoredLane). AreLanes w ls x.shared) (sym given) is.lanes in
    let after = e.lanes w before in
    let placed = lanes_placed x.lanes ws (after.count ∙ sym is.lanes.count) in
    let lanes = subst (λ (ls : List StoredLane). AreLanes w ls f) (sym placed) after in
    let have = subst (λ (ls : List StoredLane). HaveLanes ls x.shared x0) (sym given)
    (have_lanes w x x c.args.from c.args.wire is is.lanes i) in
    taken_turn w x y c.args.from c.args.wire is lanes i c.take.new.sends.items c.take.result.output
    (subst (λ (ls : List StoredLane). HaveLanes ls f (take_turn w x0 c.args.from c.args.wire).node)
    (sym placed) (e.node w x0 before have)) (e.sends w x0 before have) e.output
