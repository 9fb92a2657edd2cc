-- The lane that was read is that of the node.
use Rattle.std.proofs.Common.{ap, ◌∙◌, sym}
use Rattle.lane_model.specs.node_model.Node.{end_of}
use Rattle.lane_model.specs.Nodes.{LanePart}
use Rattle.lane_machine.specs.Stored.{part_of}
use Rattle.lane_machine.proofs.NodeLemmas.{part_at}
use Rattle.lane_machine.proofs.node.SmpNode.end.Goals as goal

pub returns : goal.returns
returns c = record {
  value = λ w i is.
      let x = c.args.self.now in
      let k = c.args.lane in
      let l = c.index.result.now in
      c.end.ensures.value ∙ ap (λ (p : LanePart). end_of p.phase)
      (sym (part_at w i x k l c.requires.lane ∙ ap part_of (sym c.index.ensures)));
}
