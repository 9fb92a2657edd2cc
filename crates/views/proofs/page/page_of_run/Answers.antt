use Rattle.std.proofs.Common.{◌++◌, ap, ◌∙◌}
use Rattle.block_view.specs.event_text.Shown.{shown}
use Rattle.prepared_run.specs.Ready.{work_for}
use Rattle.page_view.specs.Page.{page_text, text_of}
use Rattle.views.proofs.Lines.{tells_by, whole_by}
use Rattle.views.proofs.page.page_of_run.Goals as goal

pub shown_events-requires-clause-whole : goal.shown_events-requires-clause-whole
shown_events-requires-clause-whole c =
    tells_by c.in_ok-tracer.tracer (work_for c.args.run.now.prepared) c.args.run.now.kept
    (c.in_ok-tracer.ensures.work ∙ c.work.ensures.value) c.in_ok-tracer.ensures.rec c.requires.whole

pub returns : goal.returns
returns c = λ trace whole.
    let run = c.args.run.now in
    let elf = run.prepared.program in
    let layout = run.prepared.layout in
    let to = c.args.selection.to in
    let all = whole_by c.in_ok-tracer.tracer (work_for run.prepared) run.prepared.rewritten.plan run.kept trace
    (c.in_ok-tracer.ensures.work ∙ c.work.ensures.value) (c.in_ok-tracer.ensures.plan ∙ c.plan-plan.ensures.value)
    c.in_ok-tracer.ensures.rec whole in
    c.in_ok-push_page.ensures
    ∙ ap (λ l. l ++ text_of elf layout to c.in_ok-shown.shown) c.new-page.ensures.items
    ∙ ap (text_of elf layout to) (c.in_ok-shown.ensures trace all)
    ∙ ap (λ o. page_text elf layout to (shown o trace)) c.about.ensures
