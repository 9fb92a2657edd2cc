-- A take more.
use Rattle.std.proofs.Common.{refl}
use Rattle.run_trace.specs.declared.tracer.Tracer.{Tracer}
use Rattle.run_trace.specs.Tracing.{IsSame}
use Rattle.run_costs.specs.declared.counting.Counting.{Counting}
use Rattle.run_costs.proofs.Counted.{running_of, take_counted}
use Rattle.run_costs.proofs.counting.Counting.take.Goals as goal

pub make-requires-clause-running : goal.make-requires-clause-running
make-requires-clause-running c =
    let h = c.requires.counted.2 in
    running_of c.args.self.now.tracer c.requires.counted.1 h.traced

pub returns-clause-counted : goal.returns-clause-counted
returns-clause-counted c = λ symbols seen h.
    let s = c.args.self.now in
    let t = s.tracer in
    let e = c.in_ok-make.ensures in
    let u : Tracer = record { replayer = c.make.new.self; plan = t.plan; kinds = t.kinds } in
    let d : Counting = record { tracer = u; labels = s.labels; visits = s.visits; tally = s.tally } in
    let same : IsSame t u = record { work = e.same.work; plan = refl; rec_is = e.same.rec_is; kinds = refl } in
    take_counted symbols s d seen h same refl refl refl c.args.node c.args.from _ (e.made h.traced.before h.traced.made)

pub returns-clause-same : goal.returns-clause-same
returns-clause-same c =
    let e = c.in_ok-make.ensures.same in
    record { work = e.work; plan = refl; rec_is = e.rec_is; kinds = refl }
