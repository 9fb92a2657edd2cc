use Rattle.std.proofs.Common.{inl, subst}
use Rattle.std.proofs.lemmas.Result.{err_from_is_err_and}
use Rattle.dsm_core.specs.CoreParts.{outcome_of}
use Rattle.command_line.specs.Commands.{Run}
use Rattle.command_line.specs.Meaning.{run_of}
use Rattle.node_model.specs.Outcome.{Outcome}
use Rattle.dsm_io.specs.States.{SinkState, FilesState}
use Rattle.commands.specs.Answers.{AreLeft, AreWritten}
use Rattle.judged_files.specs.Executables.{IsUnread}
use Rattle.judged_files.specs.declared.refusal.Subject.TheVariants.{Executable}
use Rattle.commands.specs.Headline.{IsText, IsOutcomeRecorded, held_by}
use Rattle.text_output.specs.Failures.{FailsAs, IsNever}
use Rattle.prepared_run.specs.Ready.{work_for}
use Rattle.prepared_run.specs.Outcomes.{IsTextOfOutcome, told}
use Rattle.commands.specs.Failures.{IsOwnRecorded, AreKept}
use Rattle.judged_files.specs.Given.{bytes_of}
use Rattle.judged_files.specs.Refusals.{IsRunRefused, IsBadRunLayout}
use Rattle.text_output.proofs.Pieces.{never, refused_first}
use Rattle.commands.proofs.AnswerLemmas.{err_as, plain_fails, plain_failure}
use Rattle.commands.proofs.Pieces.{outcome_put, outcome_fails}
use Rattle.commands.proofs.Recorded.{recorded, record_written, written_left, record_fails, names_record, record_left, record_kept, put_kept, always, always_err}
use Rattle.commands.proofs.run.run.Goals as goal

pub returns-in_err-elf-clause-failure : goal.returns-in_err-elf-clause-failure
returns-in_err-elf-clause-failure g c =
    let a = run_of c.args.arguments.now in
    let inputs = bytes_of c.args.inputs.now in
    let state : SinkState = g.O.Sink.state c.args.out.now in
    let files : FilesState = g.F.Files.state c.args.files.now in
    let e = err_from_is_err_and c.from_residual.result c.from_residual.ensures.1 in
    rw (e.1, e.2) (plain_fails (Run a) inputs files files state state c.in_err-elf.field-0.0
    (refused_first (IsText (Run a) files inputs)
    (IsUnread Executable inputs.executable) IsNever (IsRunRefused inputs) (IsBadRunLayout inputs a.execution.nodes) state
    c.in_err-elf.field-0.0 (λ line h. inl (inl (inl h))) (never (IsBadRunLayout inputs a.execution.nodes)) c.in_err-elf.ensures.refused))

pub returns-in_err-prepared-clause-failure : goal.returns-in_err-prepared-clause-failure
returns-in_err-prepared-clause-failure g c =
    let a = run_of c.args.arguments.now in
    let inputs = bytes_of c.args.inputs.now in
    let state : SinkState = g.O.Sink.state c.args.out.now in
    let files : FilesState = g.F.Files.state c.args.files.now in
    let e = err_from_is_err_and c.from_residual-in_err-prepared.result c.from_residual-in_err-prepared.ensures.1 in
    rw (e.1, e.2) (plain_fails (Run a) inputs files files state state c.in_err-prepared.field-0.0
    (refused_first (IsText (Run a) files inputs)
    (IsRunRefused inputs) (IsBadRunLayout inputs a.execution.nodes) (IsRunRefused inputs) (IsBadRunLayout inputs a.execution.nodes) state
    c.in_err-prepared.field-0.0 (λ line h. h) (λ line h. h) c.in_err-prepared.ensures.refused))

pub returns-in_err-outcome-clause-failure : goal.returns-in_err-outcome-clause-failure
returns-in_err-outcome-clause-failure g c =
    let a = run_of c.args.arguments.now in
    let inputs = bytes_of c.args.inputs.now in
    let state : SinkState = g.O.Sink.state c.args.out.now in
    let files : FilesState = g.F.Files.state c.args.files.now in
    let files_now : FilesState = g.F.Files.state c.execute.new.files in
    let e = err_from_is_err_and c.from_residual-in_err-outcome.result
    c.from_residual-in_err-outcome.ensures.1 in
    rw (e.1, e.2) (record_fails a inputs (work_for c.in_ok-prepared.prepared) files files_now state
    c.in_err-outcome.field-0.0 c.in_ok-prepared.ensures.runs c.in_err-outcome.ensures.made
    c.in_err-outcome.ensures.failure)

pub returns-in_err-outcome-clause-kept : goal.returns-in_err-outcome-clause-kept
returns-in_err-outcome-clause-kept g c =
    let a = run_of c.args.arguments.now in
    let inputs = bytes_of c.args.inputs.now in
    let files : FilesState = g.F.Files.state c.args.files.now in
    let files_now : FilesState = g.F.Files.state c.execute.new.files in
    let e = err_from_is_err_and c.from_residual-in_err-outcome.result
    c.from_residual-in_err-outcome.ensures.1 in
    rw (e.1, e.2) (record_kept a.record_file files files_now
    c.in_err-outcome.field-0.0 c.in_err-outcome.ensures.failure)

pub returns-in_err-outcome-clause-left : goal.returns-in_err-outcome-clause-left
returns-in_err-outcome-clause-left g c =
    let a = run_of c.args.arguments.now in
    let inputs = bytes_of c.args.inputs.now in
    let files : FilesState = g.F.Files.state c.args.files.now in
    let files_now : FilesState = g.F.Files.state c.execute.new.files in
    let left : AreLeft (Run a) inputs files files_now =
    record_left a inputs files files_now c.in_err-outcome.field-0.0
    c.in_err-outcome.ensures.failure in
    always_err (λ f. AreLeft (Run a) inputs files files_now)
    c.from_residual-in_err-outcome.result (λ f. left)

pub returns-clause-ok : goal.returns-clause-ok
returns-clause-ok g c =
    let a = run_of c.args.arguments.now in
    let inputs = bytes_of c.args.inputs.now in
    let o : Outcome = outcome_of c.in_ok-outcome.outcome in
    let held = held_by (g.F.Files.state c.execute.new.files) a.record_file in
    let is : IsOutcomeRecorded inputs a.execution.nodes a.execution.budget held o =
    recorded inputs a.execution.nodes a.execution.budget (work_for c.in_ok-prepared.prepared) held o
    c.in_ok-prepared.ensures.runs (subst (λ b. IsOwnRecorded b (work_for c.in_ok-prepared.prepared)
    held o) c.in_ok-prepared.ensures.batches c.in_ok-outcome.ensures.outcome) in
    outcome_put (IsOutcomeRecorded inputs a.execution.nodes a.execution.budget held) a.execution.brief o
    (g.O.Sink.state c.args.out.now) (g.O.Sink.state c.put_told.new.out) c.put_told.result is
    c.put_told.ensures.ok

pub returns-clause-failure : goal.returns-clause-failure
returns-clause-failure g c =
    let a = run_of c.args.arguments.now in
    let inputs = bytes_of c.args.inputs.now in
    let state : SinkState = g.O.Sink.state c.args.out.now in
    let now : SinkState = g.O.Sink.state c.put_told.new.out in
    let files : FilesState = g.F.Files.state c.args.files.now in
    let files_now : FilesState = g.F.Files.state c.execute.new.files in
    let o : Outcome = outcome_of c.in_ok-outcome.outcome in
    let held = held_by (g.F.Files.state c.execute.new.files) a.record_file in
    let is : IsOutcomeRecorded inputs a.execution.nodes a.execution.budget held o =
    recorded inputs a.execution.nodes a.execution.budget (work_for c.in_ok-prepared.prepared) held o
    c.in_ok-prepared.ensures.runs (subst (λ b. IsOwnRecorded b (work_for c.in_ok-prepared.prepared)
    held o) c.in_ok-prepared.ensures.batches c.in_ok-outcome.ensures.outcome) in
    plain_failure (Run a) inputs files files_now state now c.put_told.result
    (outcome_fails (IsOutcomeRecorded inputs a.execution.nodes a.execution.budget held) a.execution.brief
    (IsRunRefused inputs) (IsBadRunLayout inputs a.execution.nodes) o state now c.put_told.result
    is c.put_told.ensures.failure)

pub returns-clause-kept : goal.returns-clause-kept
returns-clause-kept g c =
    let a = run_of c.args.arguments.now in
    let inputs = bytes_of c.args.inputs.now in
    let state : SinkState = g.O.Sink.state c.args.out.now in
    let now : SinkState = g.O.Sink.state c.put_told.new.out in
    let files : FilesState = g.F.Files.state c.args.files.now in
    let files_now : FilesState = g.F.Files.state c.execute.new.files in
    let o : Outcome = outcome_of c.in_ok-outcome.outcome in
    err_as (FailsAs (IsTextOfOutcome (told a.execution.brief o)) IsNever IsNever state now)
    (AreKept files files_now) c.put_told.result
    (put_kept (IsTextOfOutcome (told a.execution.brief o)) state now files files_now)
    c.put_told.ensures.failure

pub returns-clause-written : goal.returns-clause-written
returns-clause-written g c =
    let a = run_of c.args.arguments.now in
    let inputs = bytes_of c.args.inputs.now in
    let files_now : FilesState = g.F.Files.state c.execute.new.files in
    let o : Outcome = outcome_of c.in_ok-outcome.outcome in
    let held = held_by (g.F.Files.state c.execute.new.files) a.record_file in
    let is : IsOutcomeRecorded inputs a.execution.nodes a.execution.budget held o =
    recorded inputs a.execution.nodes a.execution.budget (work_for c.in_ok-prepared.prepared) held o
    c.in_ok-prepared.ensures.runs (subst (λ b. IsOwnRecorded b (work_for c.in_ok-prepared.prepared)
    held o) c.in_ok-prepared.ensures.batches c.in_ok-outcome.ensures.outcome) in
    let written : AreWritten (Run a) inputs files_now =
    record_written a inputs files_now o is in
    always (λ status. AreWritten (Run a) inputs files_now) c.put_told.result (λ status. written)

pub returns-clause-left : goal.returns-clause-left
returns-clause-left g c =
    let a = run_of c.args.arguments.now in
    let inputs = bytes_of c.args.inputs.now in
    let files : FilesState = g.F.Files.state c.args.files.now in
    let files_now : FilesState = g.F.Files.state c.execute.new.files in
    let o : Outcome = outcome_of c.in_ok-outcome.outcome in
    let held = held_by (g.F.Files.state c.execute.new.files) a.record_file in
    let is : IsOutcomeRecorded inputs a.execution.nodes a.execution.budget held o =
    recorded inputs a.execution.nodes a.execution.budget (work_for c.in_ok-prepared.prepared) held o
    c.in_ok-prepared.ensures.runs (subst (λ b. IsOwnRecorded b (work_for c.in_ok-prepared.prepared)
    held o) c.in_ok-prepared.ensures.batches c.in_ok-outcome.ensures.outcome) in
    let written : AreWritten (Run a) inputs files_now =
    record_written a inputs files_now o is in
    always_err (λ f. AreLeft (Run a) inputs files files_now)
    c.put_told.result (λ f. written_left a inputs files files_now written)

pub returns-clause-others : goal.returns-clause-others
returns-clause-others g c = λ name unwritten.
    c.execute.ensures.others name (λ e. unwritten (names_record (run_of c.args.arguments.now) name e))

pub returns-in_err-outcome-clause-others : goal.returns-in_err-outcome-clause-others
returns-in_err-outcome-clause-others g c = λ name unwritten.
    c.execute.ensures.others name (λ e. unwritten (names_record (run_of c.args.arguments.now) name e))
