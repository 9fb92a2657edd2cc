use Rattle.std.proofs.Common.{refl}
use Rattle.recorded_run.proofs.Along.{comes_at_start, walks_at_start}
use Rattle.recorded_run.proofs.walk.Walk.new.Goals as goal

pub returns-clause-start : goal.returns-clause-start
returns-clause-start c = walks_at_start _ c.in_ok-new.ensures.start refl refl

pub returns-clause-along : goal.returns-clause-along
returns-clause-along c =
    let t = c.in_ok-new.ensures in
    record { work_is = t.work; plan_is = t.plan; rec_is = t.rec }

pub returns-clause-comes : goal.returns-clause-comes
returns-clause-comes c = λ k. comes_at_start k
