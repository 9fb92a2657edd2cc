-- By the first message, and by the node.
use Rattle.std.proofs.Common.{◌≡◌, ◌≢◌, ◌<◌, ◌∷◌, [], ◌∙◌, refl, ap, sym, subst}
use Rattle.lane_law.specs.dsm_protocol.Queue.{wires_of}
use Rattle.lane_model.specs.Nodes.{LaneNode, opening_node}
use Rattle.lane_model.specs.Core.{may_take_first}
use Rattle.lane_machine.specs.SmpNodes.{lane_work, node_in}
use Rattle.smp_sim.specs.CoreParts.{core_with}
use Rattle.smp_sim.proofs.CoreSteps.{node_at, read_at}
use Rattle.smp_sim.proofs.steps.can_take.Goals as goal

pub returns-in-Some : goal.returns-in-Some
returns-in-Some c =
    let w = lane_work c.args.work.now in
    let i = c.args.node in
    let j = c.args.from in
    let ns = c.args.nodes.now in
    let qs = c.args.lists.now in
    let n = c.nodes-count.ensures.nodes in
    let x = c.index-nodes-node.result in
    let is = c.index-nodes-node.is in
    let wire = c.in-Some.wire.now in
    let rest = c.in-Some.ensures.value.0 in
    let front = subst (λ z. wires_of qs z j i ≡ wire ∷ rest) n c.in-Some.ensures.value.1 in
    let bi = subst (λ z. i < z) n c.if-node-count.false in
    let bj = subst (λ z. j < z) n c.if-from-count.false in
    let below = subst (λ z. i < z) (sym c.requires.stored.count) bi in
    let node = node_at w ns i x c.requires.stored.each below is in
    let some : wires_of qs w.work.layout.nodes j i ≢ [] =
    (λ none. absurd (let bad : wire ∷ rest ≡ [] = sym front ∙ none in cc)) in
    let may = c.can_take.ensures.value w i wire rest node refl
    ∙ ap (λ (z : LaneNode). may_take_first w z (wire ∷ rest))
    (sym (read_at (node_in w i) ns i x (opening_node w i) below is))
    ∙ ap (may_take_first w ((core_with w ns qs).nodes i)) (sym front) in
    record { value = (λ t. (bi, bj, some, sym may ∙ t), λ allowed. may ∙ allowed.3) }
