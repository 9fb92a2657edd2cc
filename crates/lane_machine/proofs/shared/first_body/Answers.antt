-- What words see, in its box.
use Rattle.std.proofs.Common.{◌∙◌, ap}
use Rattle.node_machine.specs.node_words.declared.exec_state.ExecState.{ExecState}
use Rattle.node_machine.specs.node_words.node_memory.Shelf.{local_of}
use Rattle.lane_machine.proofs.shared.first_body.Goals as goal

pub returns-clause-local : goal.returns-clause-local
returns-clause-local c work program layout =
    ap (λ (b : ExecState). local_of b.local) c.in_ok-new.ensures.ok ∙ c.in_ok-first_local.ensures.local work program layout
