-- The lane's turn is the node's.
use Rattle.std.proofs.Common.{refl}
use Rattle.std.specs.Vec.{with_item}
use Rattle.lane_machine.specs.declared.node.SmpNode.{SmpNode}
use Rattle.lane_machine.specs.SmpNodes.{node_in}
use Rattle.lane_machine.proofs.NodeLemmas.{goes_on, has_lane, node_then, turn_after}
use Rattle.lane_machine.proofs.node.SmpNode.exec.Goals as goal

pub exec-requires-clause-goes_on : goal.exec-requires-clause-goes_on
exec-requires-clause-goes_on c =
    let x = c.args.self.now in
    let l = c.index_mut.result.now in
    goes_on c.requires.node.0 x c.args.lane l l x c.requires.node.1 c.requires.lane
    c.index_mut.ensures.value c.requires.may

pub returns-clause-is_node : goal.returns-clause-is_node
returns-clause-is_node c = λ w is.
    let x = c.args.self.now in
    let k = c.args.lane in
    let l = c.index_mut.result.now in
    let m = c.exec.new.self in
    let y : SmpNode = record { lanes = with_item x.lanes k m; shared = c.exec.new.shared } in
    let e = c.exec.ensures in
    node_then w x k l m y is c.requires.lane c.index_mut.ensures.value refl e.number e.work e.waits
    e.held e.more e.others e.ended e.node

pub returns-clause-turn : goal.returns-clause-turn
returns-clause-turn c = λ w i is.
    let x = c.args.self.now in
    let k = c.args.lane in
    let l = c.index_mut.result.now in
    let m = c.exec.new.self in
    let y : SmpNode = record { lanes = with_item x.lanes k m; shared = c.exec.new.shared } in
    let e = c.exec.ensures in
    let at = c.index_mut.ensures.value in
    let x0 = node_in w i x in
    let has = has_lane w x k l m y is c.requires.lane at i in
    turn_after w x k l m y is c.requires.lane at refl e.number i c.exec.new.sends.items
    c.exec.result.output (e.node x0 has) (e.sends x0 has) (e.output x0 has)
