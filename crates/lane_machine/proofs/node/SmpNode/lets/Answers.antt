-- By the lane's standing.
use Rattle.std.proofs.Common.{ap, ◌∙◌}
use Rattle.lane_model.specs.node_model.Core.{may_take}
use Rattle.lane_machine.proofs.node.SmpNode.lets.Goals as goal

pub returns : goal.returns
returns c = record {
  value = λ w i is. c.may_take.ensures ∙ ap may_take (c.standing.ensures.value w i is);
}
