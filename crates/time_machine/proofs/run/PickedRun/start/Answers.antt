use Rattle.time_machine.proofs.Started.{opened, started}
use Rattle.time_machine.proofs.run.PickedRun.start.Goals as goal

pub returns-clause-original : goal.returns-clause-original
returns-clause-original c =
    let i = c.self.inside in
    let n = c.new.ensures in
    rw (← c.self.view_is) (started c.new.result i.program.now i.layout.now i.nodes n.program n.layout n.nodes)

pub returns-clause-state : goal.returns-clause-state
returns-clause-state c =
    let i = c.self.inside in
    let n = c.new.ensures in
    let all = started c.new.result i.program.now i.layout.now i.nodes n.program n.layout n.nodes in
    rw (← c.self.view_is) (opened c.new.result _ n.opening all)
