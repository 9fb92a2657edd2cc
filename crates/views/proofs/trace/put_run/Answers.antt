use Rattle.std.proofs.Common.{◌∙◌}
use Rattle.prepared_run.specs.Ready.{work_for}
use Rattle.views.proofs.Lines.{tells_by, whole_by}
use Rattle.views.proofs.trace.put_run.Goals as goal

pub put_events-requires-clause-whole : goal.put_events-requires-clause-whole
put_events-requires-clause-whole g c =
    tells_by c.in_ok-tracer.tracer (work_for c.args.run.now.prepared) c.args.run.now.kept
    (c.in_ok-tracer.ensures.work ∙ c.work.ensures.value) c.in_ok-tracer.ensures.rec c.requires.whole

pub returns-clause-ok : goal.returns-clause-ok
returns-clause-ok g c = λ trace whole.
    let run = c.args.run.now in
    c.put_events.ensures.ok trace
    (whole_by c.in_ok-tracer.tracer (work_for run.prepared) run.prepared.rewritten.plan run.kept trace
    (c.in_ok-tracer.ensures.work ∙ c.work.ensures.value) (c.in_ok-tracer.ensures.plan ∙ c.plan-plan.ensures.value)
    c.in_ok-tracer.ensures.rec whole)

pub returns-clause-failure : goal.returns-clause-failure
returns-clause-failure g c = λ trace whole.
    let run = c.args.run.now in
    c.put_events.ensures.failure trace
    (whole_by c.in_ok-tracer.tracer (work_for run.prepared) run.prepared.rewritten.plan run.kept trace
    (c.in_ok-tracer.ensures.work ∙ c.work.ensures.value) (c.in_ok-tracer.ensures.plan ∙ c.plan-plan.ensures.value)
    c.in_ok-tracer.ensures.rec whole)
