use Rattle.std.proofs.Common.{ap, inl, refl}
use Rattle.std.proofs.lemmas.Result.{err_from_is_err_and}
use Rattle.block_layout.specs.Layout.{Shape}
use Rattle.dsm_io.specs.Causes.{Appends}
use Rattle.dsm_io.specs.States.{SinkState}
use Rattle.run_trace.specs.Trace.{IsTraceOf, trace_of}
use Rattle.judged_files.specs.Executables.{IsUnread}
use Rattle.text_output.specs.Failures.{FailsAs, IsLike, IsNever, Puts}
use Rattle.judged_files.specs.Given.{bytes_of}
use Rattle.prepared_run.specs.Ready.{work_for}
use Rattle.prepared_run.specs.Replays.{IsBadReplayLayout}
use Rattle.judged_files.specs.declared.refusal.Subject.TheVariants.{Executable}
use Rattle.text_output.proofs.Pieces.{never}
use Rattle.prepared_run.proofs.ReplayLemmas.{replay_refused}
use Rattle.views.specs.Failures.{FailsAsRun, IsTextOfTrace}
use Rattle.views.specs.Trace.{selected_text}
use Rattle.views.proofs.Runs.{refused_run, text_of_trace, unput_run}
use Rattle.views.proofs.Viewed.{err_as, on_ok_as}
use Rattle.views.proofs.trace.put_trace.Goals as goal

pub returns-in_err-elf-clause-failure : goal.returns-in_err-elf-clause-failure
returns-in_err-elf-clause-failure g c =
    let inputs = bytes_of c.args.inputs.now in
    let state : SinkState = g.O.Sink.state c.args.out.now in
    let e = err_from_is_err_and c.from_residual.result c.from_residual.ensures.1 in
    rw (e.1, e.2) (refused_run (IsTextOfTrace inputs c.args.selection) inputs state c.in_err-elf.field-0.0
    (replay_refused inputs (IsUnread Executable inputs.executable) IsNever c.in_err-elf.field-0.0
    (λ line h. inl (inl h)) (never (IsBadReplayLayout inputs)) c.in_err-elf.ensures.refused))

pub returns-in_err-run-clause-failure : goal.returns-in_err-run-clause-failure
returns-in_err-run-clause-failure g c =
    let inputs = bytes_of c.args.inputs.now in
    let state : SinkState = g.O.Sink.state c.args.out.now in
    let e = err_from_is_err_and c.from_residual-in_err-run.result c.from_residual-in_err-run.ensures.1 in
    rw (e.1, e.2) (refused_run (IsTextOfTrace inputs c.args.selection) inputs state c.in_err-run.field-0.0
    c.in_err-run.ensures.refused)

pub put_selected-requires-clause-record : goal.put_selected-requires-clause-record
put_selected-requires-clause-record g c = c.in_ok-run.ensures.asked.text.is_record

pub put_selected-requires-clause-nodes : goal.put_selected-requires-clause-nodes
put_selected-requires-clause-nodes g c = ap (λ (s : Shape). s.nodes) c.in_ok-run.ensures.asked.laid_out.layout_is

pub returns-clause-ok : goal.returns-clause-ok
returns-clause-ok g c =
    let inputs = bytes_of c.args.inputs.now in
    let before : SinkState = g.O.Sink.state c.args.out.now in
    let now : SinkState = g.O.Sink.state c.put_selected.new.out in
    let run = c.in_ok-run.run' in
    let work = work_for run.prepared in
    let plan = run.prepared.rewritten.plan in
    let elf = run.prepared.program in
    let whole = c.in_ok-run.ensures.whole in
    let s = c.args.selection in
    let trace = trace_of work plan whole.0 in
    let text = selected_text elf work.layout s trace in
    let is = text_of_trace inputs s run.kept elf plan work whole.0 c.in_ok-run.ensures.asked whole.1 in
    let one : IsTraceOf work plan run.kept trace = record { told = whole.0; whole = whole.1; trace_is = refl } in
    on_ok_as (Appends before.taken now.taken text) (Puts (IsTextOfTrace inputs s) 0 before now) c.put_selected.result
    (λ put. (text, is, put)) (c.put_selected.ensures.ok trace one)

pub returns-clause-failure : goal.returns-clause-failure
returns-clause-failure g c =
    let inputs = bytes_of c.args.inputs.now in
    let before : SinkState = g.O.Sink.state c.args.out.now in
    let now : SinkState = g.O.Sink.state c.put_selected.new.out in
    let run = c.in_ok-run.run' in
    let work = work_for run.prepared in
    let plan = run.prepared.rewritten.plan in
    let elf = run.prepared.program in
    let whole = c.in_ok-run.ensures.whole in
    let s = c.args.selection in
    let trace = trace_of work plan whole.0 in
    let text = selected_text elf work.layout s trace in
    let is = text_of_trace inputs s run.kept elf plan work whole.0 c.in_ok-run.ensures.asked whole.1 in
    let one : IsTraceOf work plan run.kept trace = record { told = whole.0; whole = whole.1; trace_is = refl } in
    err_as (FailsAs (IsLike text) IsNever IsNever before now) (FailsAsRun (IsTextOfTrace inputs s) inputs before now)
    c.put_selected.result (unput_run (IsTextOfTrace inputs s) inputs text (λ status. is) before now)
    (c.put_selected.ensures.failure trace one)
