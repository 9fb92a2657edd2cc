-- With more room it stands for the same.
use Rattle.std.proofs.Common.{ap}
use Rattle.lane_model.specs.Nodes.{Shared}
use Rattle.node_machine.specs.node_words.declared.exec_state.ExecState.{ExecState}
use Rattle.node_machine.specs.node_words.node_memory.Shelf.{ground_of}
use Rattle.lane_machine.specs.SmpNodes.{node_in}
use Rattle.lane_machine.proofs.NodeLemmas.{same_node}
use Rattle.lane_machine.proofs.node.SmpNode.room.Goals as goal

pub returns-clause-is_node : goal.returns-clause-is_node
returns-clause-is_node c = λ w is.
    same_node w c.args.self.now c.room.new.self is c.room.ensures.places
    (ap (λ (b : ExecState). ground_of b.local) c.room.ensures.body) c.room.ensures.ended

pub returns-clause-node : goal.returns-clause-node
returns-clause-node c = λ w i.
    ap (λ (s : Shared). record { lanes = (node_in w i c.args.self.now).lanes; shared = s })
    c.room.ensures.shared
