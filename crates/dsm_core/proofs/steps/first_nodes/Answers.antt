-- One node more.
use Rattle.std.proofs.Common.{◌≤◌, ◌∷◌, [], ◌+◌, map, get_or, length, ap, ◌∙◌, sym, subst}
use Rattle.std.proofs.lemmas.List.{length-append}
use Rattle.run_order.specs.node_model.Node.{opening_node}
use Rattle.node_machine.specs.NodeState.{node_of, work_of as work_at}
use Rattle.dsm_core.specs.CoreParts.{work_in}
use Rattle.dsm_core.proofs.CoreSteps.{first_more}
use Rattle.dsm_core.proofs.steps.first_nodes.Goals as goal

pub loop-me-preserved : goal.loop-me-preserved
loop-me-preserved c =
    let work = work_in c.args.work.now in
    let ns = c.loop-me.nodes.items in
    let x = c.in_ok-node.node in
    let me = c.loop-me.me in
    let is = c.push_reserved.ensures.items in
    let runs = c.in_ok-node.ensures.work in
    let opens = c.in_ok-node.ensures.opening ∙ ap (λ z. opening_node z me) runs in
    record {
      len = ap length is ∙ length-append ns (x ∷ []) ∙ ap (λ z. z + 1) c.loop-me.invariant.len;
      room = subst (λ z. c.nodes-count.result ≤ z) (sym c.push_reserved.ensures.capacity)
          c.loop-me.invariant.room;
      first = λ i. ap (λ z. get_or (map node_of z) i (opening_node work i)) is
          ∙ first_more node_of ns x (opening_node work) me c.loop-me.invariant.len
          c.loop-me.invariant.first opens i;
      works = λ i. ap (λ z. get_or (map work_at z) i work) is
          ∙ first_more work_at ns x (λ k. work) me c.loop-me.invariant.len
          c.loop-me.invariant.works runs i;
    }
