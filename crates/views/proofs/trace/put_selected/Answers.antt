use Rattle.std.proofs.Common.{◌≡◌, ap, subst, sym, ◌∙◌}
use Rattle.std.specs.Prelude.{false, IfErr, IfSome, OnOk}
use Rattle.std.specs.Option.{option_map_or}
use Rattle.dsm_io.specs.Causes.{Appends}
use Rattle.dsm_io.specs.States.{SinkState}
use Rattle.block_view.specs.event_text.declared.shown.EventFilter.{EventFilter}
use Rattle.block_view.specs.event_text.Shown.{head, trace_text}
use Rattle.text_output.specs.Failures.{FailsAs, IsLike, IsNever}
use Rattle.views.specs.Trace.{selected_text}
use Rattle.views.proofs.Passed.{no_words}
use Rattle.views.proofs.trace.put_selected.Goals as goal

pub put_run-requires-clause-words : goal.put_run-requires-clause-words
put_run-requires-clause-words g c =
    subst (λ o. IfSome o (λ (x : EventFilter). x.words ≡ false)) (sym c.options.ensures ∙ c.in-Some.is)
    (no_words c.args.run.now.prepared.layout c.args.selection c.args.selection.address)

pub returns-in-Some-clause-ok : goal.returns-in-Some-clause-ok
returns-in-Some-clause-ok g c = λ trace whole.
    let before : SinkState = g.O.Sink.state c.args.out.now in
    let now : SinkState = g.O.Sink.state c.put_run.new.out in
    let elf = c.args.run.now.prepared.program in
    let layout = c.args.run.now.prepared.layout in
    let same : trace_text elf c.in-Some.options trace ≡ selected_text elf layout c.args.selection trace =
    ap (λ o. option_map_or (λ x. trace_text elf x trace) o head) (sym c.in-Some.is ∙ c.options.ensures) in
    subst (λ t. OnOk c.put_run.result (Appends before.taken now.taken t)) same (c.put_run.ensures.ok trace whole)

pub returns-in-Some-clause-failure : goal.returns-in-Some-clause-failure
returns-in-Some-clause-failure g c = λ trace whole.
    let before : SinkState = g.O.Sink.state c.args.out.now in
    let now : SinkState = g.O.Sink.state c.put_run.new.out in
    let elf = c.args.run.now.prepared.program in
    let layout = c.args.run.now.prepared.layout in
    let same : trace_text elf c.in-Some.options trace ≡ selected_text elf layout c.args.selection trace =
    ap (λ o. option_map_or (λ x. trace_text elf x trace) o head) (sym c.in-Some.is ∙ c.options.ensures) in
    subst (λ t. IfErr c.put_run.result (FailsAs (IsLike t) IsNever IsNever before now)) same
    (c.put_run.ensures.failure trace whole)

pub returns-in-None-clause-ok : goal.returns-in-None-clause-ok
returns-in-None-clause-ok g c = λ trace whole.
    let before : SinkState = g.O.Sink.state c.args.out.now in
    let now : SinkState = g.O.Sink.state c.put_head.new.out in
    let elf = c.args.run.now.prepared.program in
    let layout = c.args.run.now.prepared.layout in
    let same : head ≡ selected_text elf layout c.args.selection trace =
    ap (λ o. option_map_or (λ x. trace_text elf x trace) o head) (sym c.in-None.is ∙ c.options.ensures) in
    subst (λ t. OnOk c.put_head.result (Appends before.taken now.taken t)) same c.put_head.ensures.ok

pub returns-in-None-clause-failure : goal.returns-in-None-clause-failure
returns-in-None-clause-failure g c = λ trace whole.
    let before : SinkState = g.O.Sink.state c.args.out.now in
    let now : SinkState = g.O.Sink.state c.put_head.new.out in
    let elf = c.args.run.now.prepared.program in
    let layout = c.args.run.now.prepared.layout in
    let same : head ≡ selected_text elf layout c.args.selection trace =
    ap (λ o. option_map_or (λ x. trace_text elf x trace) o head) (sym c.in-None.is ∙ c.options.ensures) in
    subst (λ t. IfErr c.put_head.result (FailsAs (IsLike t) IsNever IsNever before now)) same
    c.put_head.ensures.failure
