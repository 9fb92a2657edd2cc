use Rattle.std.proofs.Common.{subst, arith}
use Rattle.time_machine.specs.Hits.{IsLatest}
use Rattle.time_machine.proofs.machine.TimeMachine.back_to_stop.Goals as goal

pub returns-in_ok-go_to-in-None-clause-ends : goal.returns-in_ok-go_to-in-None-clause-ends
returns-in_ok-go_to-in-None-clause-ends c =
    let i = c.self.inside in
    let none = subst (IsLatest i.run c.args.stops.now 0 i.position) c.in-None.is c.in_ok-latest.ensures in
    (c.in_ok-go_to-in-None.ensures.ok, rw (← c.self.view_is) (λ k high. none k (omega arith) high))
