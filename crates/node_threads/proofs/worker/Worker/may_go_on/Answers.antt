-- By what the node may do next.
use Rattle.std.proofs.Common.{ap, sym, ◌∙◌}
use Rattle.dsm_protocol.specs.node_model.Core.{may_execute}
use Rattle.node_threads.proofs.worker.Worker.may_go_on.Goals as goal

pub returns-clause-may : goal.returns-clause-may
returns-clause-may c = λ yes. ap may_execute (sym c.standing.ensures.value)
    ∙ sym c.may_execute.ensures ∙ yes
