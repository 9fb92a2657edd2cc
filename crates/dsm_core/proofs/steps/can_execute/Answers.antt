-- By the node's standing.
use Rattle.std.proofs.Common.{◌<◌, ◌∙◌, sym, ap, subst}
use Rattle.run_order.specs.node_model.Core.{may_execute}
use Rattle.dsm_core.proofs.steps.can_execute.Goals as goal

pub returns : goal.returns
returns c = record {
  value = λ work lists e have.
      let s = c.may_execute.ensures ∙ ap may_execute (c.standing.ensures.value work lists have) in
      let node = subst (λ z. c.args.node < z) (sym e) c.if-node-count.false in
      (λ t. (node, sym s ∙ t), λ may. s ∙ may.1);
}
