-- By the lane's phase.
use Rattle.std.proofs.Common.{ap, sym, ◌∙◌}
use Rattle.lane_model.specs.node_model.Node.{can_execute}
use Rattle.lane_model.specs.Nodes.{LanePart}
use Rattle.lane_machine.specs.declared.stored.StoredLane.{StoredLane}
use Rattle.lane_machine.specs.Stored.{part_of}
use Rattle.lane_machine.specs.SmpNodes.{node_in}
use Rattle.lane_machine.proofs.NodeLemmas.{part_at}
use Rattle.lane_machine.proofs.LanesTold.{may_is}
use Rattle.lane_machine.proofs.node.SmpNode.can_execute.Goals as goal

pub returns : goal.returns
returns c = record {
  value = λ w i is.
      let x = c.args.self.now in
      let k = c.args.lane in
      let l = c.index.result.now in
      let y = node_in w i x in
      c.may_execute.ensures
      ∙ ap (λ (z : StoredLane). can_execute (part_of z).phase) c.index.ensures
      ∙ ap (λ (p : LanePart). can_execute p.phase) (sym (part_at w i x k l c.requires.lane))
      ∙ sym (may_is w y k (y.lanes k).phase);
}
