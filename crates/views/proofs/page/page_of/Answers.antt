use Rattle.std.proofs.Common.{ap, inl, refl}
use Rattle.std.proofs.lemmas.Result.{err_from_is_err_and}
use Rattle.block_layout.specs.Layout.{Shape}
use Rattle.run_trace.specs.Trace.{IsTraceOf, trace_of}
use Rattle.judged_files.specs.Executables.{IsUnread}
use Rattle.text_output.specs.Failures.{IsNever}
use Rattle.judged_files.specs.Given.{bytes_of}
use Rattle.prepared_run.specs.Ready.{work_for}
use Rattle.prepared_run.specs.Replays.{IsBadReplayLayout}
use Rattle.judged_files.specs.declared.refusal.Subject.TheVariants.{Executable}
use Rattle.text_output.proofs.Pieces.{never}
use Rattle.prepared_run.proofs.ReplayLemmas.{replay_refused}
use Rattle.views.proofs.page.page_of.Goals as goal

pub returns-in_err-elf-clause-failure : goal.returns-in_err-elf-clause-failure
returns-in_err-elf-clause-failure c =
    let inputs = bytes_of c.args.inputs.now in
    let e = err_from_is_err_and c.from_residual.result c.from_residual.ensures.1 in
    rw (e.1, e.2) (replay_refused inputs (IsUnread Executable inputs.executable) IsNever c.in_err-elf.field-0.0
    (λ line h. inl (inl h)) (never (IsBadReplayLayout inputs)) c.in_err-elf.ensures.refused)

pub page_of_run-requires-clause-record : goal.page_of_run-requires-clause-record
page_of_run-requires-clause-record c = c.in_ok-run.ensures.asked.text.is_record

pub page_of_run-requires-clause-nodes : goal.page_of_run-requires-clause-nodes
page_of_run-requires-clause-nodes c = ap (λ (s : Shape). s.nodes) c.in_ok-run.ensures.asked.laid_out.layout_is

pub returns-clause-ok : goal.returns-clause-ok
returns-clause-ok c =
    let run = c.in_ok-run.run' in
    let work = work_for run.prepared in
    let plan = run.prepared.rewritten.plan in
    let whole = c.in_ok-run.ensures.whole in
    let trace = trace_of work plan whole.0 in
    let one : IsTraceOf work plan run.kept trace = record { told = whole.0; whole = whole.1; trace_is = refl } in
    record {
      kept = run.kept;
      elf = run.prepared.program;
      plan = plan;
      work = work;
      asked = c.in_ok-run.ensures.asked;
      trace = trace;
      is_trace = one;
      text_is = c.in_ok-page.ensures trace one;
    }
