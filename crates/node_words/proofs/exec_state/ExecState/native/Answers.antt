use Rattle.std.proofs.Common.{subst}
use Rattle.node_memory.specs.exec_map.Contents.{program_of}
use Rattle.node_memory.specs.rv32_step.declared.Demand.{Demand}
use Rattle.node_memory.specs.node_model.Node.{native}
use Rattle.node_memory.specs.Shelf.{ground_of, local_of}
use Rattle.node_words.specs.Kept.{Does, lane_of}
use Rattle.node_words.proofs.exec_state.ExecState.native.Goals as goal

pub returns-clause-does : goal.returns-clause-does
returns-clause-does c =
    let b = c.args.self.now in
    subst
    (λ (d : Demand). Does (native (program_of b.local.program) c.args.place c.args.at (lane_of b.lane c.args.at) (local_of b.local) d) (ground_of b.local) c.args.at c.meet.new.self.lane c.meet.new.self.local c.meet.result)
    c.demand.ensures c.meet.ensures.does
