use Rattle.lossy_sim.proofs.Ending.{ends}
use Rattle.lossy_sim.proofs.Standing.{opening_stands, turns_stand}
use Rattle.lossy_sim.specs.WithLoss.{opening_state}
use Rattle.node_model.specs.Core.{opening_core}
use Rattle.lossy_sim.proofs.loss_law.Goals as goal

pub returns-clause-core_run : goal.returns-clause-core_run
returns-clause-core_run c = λ work order loss turns last follows. (turns_stand work 1
    (opening_state work order loss) turns last (opening_core work)
    (opening_stands work order loss) follows).0

pub returns-clause-stands : goal.returns-clause-stands
returns-clause-stands c = λ work order loss turns last follows. (turns_stand work 1
    (opening_state work order loss) turns last (opening_core work)
    (opening_stands work order loss) follows).1

pub returns-clause-ends : goal.returns-clause-ends
returns-clause-ends c = λ work order loss turns last rewritten follows. ends work
    c.progress_law.ensures.goes_on c.progress_law.ensures.short rewritten order loss turns last follows
    (turns_stand work 1 (opening_state work order loss) turns last (opening_core work)
    (opening_stands work order loss) follows).0
