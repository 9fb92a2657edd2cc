-- By what they share, and by how many have ended.
use Rattle.std.proofs.Common.{refl, sym}
use Rattle.lane_machine.specs.SmpNodes.{node_in}
use Rattle.lane_machine.proofs.NodeLemmas.{have_parts}
use Rattle.lane_machine.proofs.node.SmpNode.over.Goals as goal

pub returns : goal.returns
returns c = record {
  value = λ w i is.
      let x = c.args.self.now in
      c.over.ensures.value w (node_in w i x) (sym is.lanes.layout) (sym is.lanes.places) refl
      (is.ended (node_in w i x) (have_parts w i x));
}
