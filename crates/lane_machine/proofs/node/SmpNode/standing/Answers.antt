-- The lane that was read is that of the node.
use Rattle.std.proofs.Common.{ap, ◌∙◌, sym}
use Rattle.lane_machine.specs.declared.stored.StoredLane.{StoredLane}
use Rattle.lane_machine.specs.Stored.{part_of}
use Rattle.lane_machine.specs.SmpNodes.{node_in}
use Rattle.lane_machine.proofs.NodeLemmas.{part_at}
use Rattle.lane_machine.proofs.node.SmpNode.standing.Goals as goal

pub returns : goal.returns
returns c = record {
  value = λ w i is.
      let x = c.args.self.now in
      let k = c.args.lane in
      let l = c.index.result.now in
      let at = c.index.ensures in
      c.standing.ensures.value w (node_in w i x) k
      (sym (ap (λ (z : StoredLane). z.state.image.now) at ∙ (is.lanes.each k l c.requires.lane).image))
      (part_at w i x k l c.requires.lane ∙ ap part_of (sym at));
}
