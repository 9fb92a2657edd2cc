-- By the node's standing, where there is a message.
use Rattle.std.proofs.Common.{◌≢◌, ◌<◌, [], ◌∙◌, sym, ap, subst}
use Rattle.run_order.specs.node_model.Core.{may_take}
use Rattle.rewriting_law.specs.dsm_protocol.Queue.{wires_of}
use Rattle.dsm_core.proofs.steps.can_take.Goals as goal

pub returns : goal.returns
returns c = record {
  value = λ work e have.
      let lists = c.args.lists.now in
      let s = c.may_take.ensures ∙ ap may_take (c.standing.ensures.value work lists have) in
      let node = subst (λ z. c.args.node < z) (sym e) c.if-node-count.false in
      let from = subst (λ z. c.args.from < z) (sym e) c.if-from-count.false in
      let some = subst (λ z. wires_of lists z c.args.from c.args.node ≢ []) (sym e)
      (c.has_wire.ensures.value.0 c.if-not-has_wire.false) in
      (λ t. (node, from, sym s ∙ t, some), λ may. s ∙ may.2);
}
