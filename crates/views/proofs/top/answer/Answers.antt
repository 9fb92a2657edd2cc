use Rattle.std.proofs.Common.{◌≡◌, ℕ, List, ap, refl, subst, sym}
use Rattle.std.specs.Prelude.{Contains}
use Rattle.std.proofs.lemmas.Result.{err_from_is_err_and}
use Rattle.command_line.specs.Meaning.{file_name}
use Rattle.command_line.specs.Views.{Help, Code, Cost, Trace, Blocks, Page, Speedup, Time, code_of, meaning_of_view, reads, recorded_of, time_of}
use Rattle.dsm_io.specs.Causes.{Appends}
use Rattle.dsm_io.specs.States.{SinkState, FilesState}
use Rattle.text_output.specs.Failures.{FailsAs, IsNever, IsPutFailure, Puts}
use Rattle.judged_files.specs.Given.{bytes_of, contents_of}
use Rattle.judged_files.specs.Refusals.{IsBadRunLayout, IsRunRefused}
use Rattle.views.specs.Answers.{AreLeft}
use Rattle.views.specs.Code.{IsCodeless}
use Rattle.views.specs.Failures.{FailsAsRun, IsFailure, IsSuccess, IsTextOfBlocks, IsTextOfCode, IsTextOfTime, IsTextOfTrace, AreKept, IsPageFailure, IsPageWritten}
use Rattle.views.specs.Headline.{usage, AreTold, AreWritten}
use Rattle.views.specs.Inputs.{AreInputs, IsInputFailure, code_files, names_of, run_files, time_files}
use Rattle.views.specs.SpeedupEnds.{IsSpeedupFailure, IsSpeedupWritten}
use Rattle.views.specs.declared.trace.Selection.{Selection}
use Rattle.views.proofs.Coded as coding
use Rattle.views.proofs.Coded.{code_fails, code_succeeds}
use Rattle.views.proofs.RunCosted.{writes_nothing}
use Rattle.views.proofs.Inputs.{not_long, unread_fails, unread_no_refusal}
use Rattle.views.proofs.Runs.{blocks_of_run, blocks_writes_none, run_fails, run_succeeds, trace_of_run, trace_writes_none}
use Rattle.views.proofs.Sped.{speedup_fails, speedup_kept, speedup_left, speedup_longer, speedup_succeeds, speedup_written}
use Rattle.views.proofs.Timed as timing
use Rattle.views.proofs.Viewed.{err_as, help_fails, help_succeeds, on_ok_as}
use Rattle.views.proofs.Written.{asked_for, err_all, nothing_left, nothing_written, ok_all, page_fails, page_kept, page_left, page_longer, page_succeeds, page_written}
use Rattle.views.proofs.top.answer.Goals as goal

pub returns-in-Help-clause-ok : goal.returns-in-Help-clause-ok
unfolding usage
returns-in-Help-clause-ok g c =
    let files : FilesState = g.F.Files.state c.args.files.now in
    let before : SinkState = g.O.Sink.state c.args.out.now in
    let now : SinkState = g.O.Sink.state c.put.new.out in
    let text = c.as_bytes.result.now in
    let is : text ≡ usage = c.as_bytes.ensures.value in
    rw c.in-Help.is
    (on_ok_as (Appends before.taken now.taken text) (IsSuccess Help files before now) c.put.result
    (λ put. help_succeeds files before now text is put) c.put.ensures.ok)

pub returns-in-Help-clause-failure : goal.returns-in-Help-clause-failure
unfolding usage
returns-in-Help-clause-failure g c =
    let files : FilesState = g.F.Files.state c.args.files.now in
    let before : SinkState = g.O.Sink.state c.args.out.now in
    let now : SinkState = g.O.Sink.state c.put.new.out in
    let text = c.as_bytes.result.now in
    let is : text ≡ usage = c.as_bytes.ensures.value in
    rw c.in-Help.is
    (err_as (IsPutFailure before now text) (IsFailure Help files files before now) c.put.result
    (λ f h. help_fails files files before now text f is h) c.put.ensures.failure)

pub returns-in_ok-read-in-Code-clause-ok : goal.returns-in_ok-read-in-Code-clause-ok
returns-in_ok-read-in-Code-clause-ok g c =
    let files : FilesState = g.F.Files.state c.args.files.now in
    let before : SinkState = g.O.Sink.state c.args.out.now in
    let now : SinkState = g.O.Sink.state c.put_code.new.out in
    let a = code_of c.in-Code.arguments in
    let inputs = bytes_of c.lend.result in
    let held : AreInputs files (code_files a) inputs =
    subst (λ n. AreInputs files n inputs) c.code_files.ensures
    (subst (AreInputs files (names_of c.code_files.result)) (sym c.lend.ensures.value)
    c.in_ok-read-in-Code.ensures.ok) in
    rw c.in-Code.is
    (on_ok_as (Puts (IsTextOfCode inputs) 0 before now) (IsSuccess (Code a) files before now) c.put_code.result
    (code_succeeds a files before now inputs held) c.put_code.ensures.ok)

pub returns-in_ok-read-in-Code-clause-failure : goal.returns-in_ok-read-in-Code-clause-failure
returns-in_ok-read-in-Code-clause-failure g c =
    let files : FilesState = g.F.Files.state c.args.files.now in
    let files_now : FilesState = g.F.Files.state c.read_inputs.new.files in
    let before : SinkState = g.O.Sink.state c.args.out.now in
    let now : SinkState = g.O.Sink.state c.put_code.new.out in
    let a = code_of c.in-Code.arguments in
    let inputs = bytes_of c.lend.result in
    let held : AreInputs files (code_files a) inputs =
    subst (λ n. AreInputs files n inputs) c.code_files.ensures
    (subst (AreInputs files (names_of c.code_files.result)) (sym c.lend.ensures.value)
    c.in_ok-read-in-Code.ensures.ok) in
    rw c.in-Code.is (err_as (FailsAs (IsTextOfCode inputs) (IsCodeless inputs) IsNever before now)
    (IsFailure (Code a) files files_now before now) c.put_code.result
    (λ f h. code_fails a files files_now before now inputs f held h) c.put_code.ensures.failure)

pub returns-in_ok-read-in-Code-clause-longer : goal.returns-in_ok-read-in-Code-clause-longer
returns-in_ok-read-in-Code-clause-longer g c = λ name content among is long.
    let files : FilesState = g.F.Files.state c.args.files.now in
    let a = code_of c.in-Code.arguments in
    let inputs = contents_of c.in_ok-read-in-Code.read in
    let held : AreInputs files (code_files a) inputs =
    subst (λ n. AreInputs files n inputs) c.code_files.ensures c.in_ok-read-in-Code.ensures.ok in
    absurd (not_long (Code a) (code_files a) files inputs name content (coding.reads_are a) held
    (subst (λ x. Contains (reads (meaning_of_view x)) name) c.in-Code.is among) is long)

pub returns-in_err-read-in-Code-clause-failure : goal.returns-in_err-read-in-Code-clause-failure
returns-in_err-read-in-Code-clause-failure g c =
    let files : FilesState = g.F.Files.state c.args.files.now in
    let files_now : FilesState = g.F.Files.state c.read_inputs.new.files in
    let state : SinkState = g.O.Sink.state c.args.out.now in
    let a = code_of c.in-Code.arguments in
    let p = err_from_is_err_and c.from_residual.result c.from_residual.ensures.1 in
    rw (c.in-Code.is, p.1, p.2) (unread_fails (Code a) (code_files a) (coding.reads_are a) files files_now state
    c.in_err-read-in-Code.field-0.0
    (subst (λ n. IsInputFailure n files files_now c.in_err-read-in-Code.field-0.0)
    c.code_files.ensures c.in_err-read-in-Code.ensures.failure))

pub returns-in_err-read-in-Code-clause-longer : goal.returns-in_err-read-in-Code-clause-longer
returns-in_err-read-in-Code-clause-longer g c = λ name content among is long.
    let files : FilesState = g.F.Files.state c.args.files.now in
    let files_now : FilesState = g.F.Files.state c.read_inputs.new.files in
    let p = err_from_is_err_and c.from_residual.result c.from_residual.ensures.1 in
    rw (p.1, p.2) (unread_no_refusal (names_of c.code_files.result) files files_now
    c.in_err-read-in-Code.field-0.0 c.in_err-read-in-Code.ensures.failure)

pub returns-in_ok-read-in-Code-clause-written : goal.returns-in_ok-read-in-Code-clause-written
returns-in_ok-read-in-Code-clause-written g c =
    let files : FilesState = g.F.Files.state c.args.files.now in
    let files_now : FilesState = g.F.Files.state c.read_inputs.new.files in
    let a = code_of c.in-Code.arguments in
    rw c.in-Code.is (ok_all ((contents : List ℕ → List ℕ) → AreTold (Code a) files contents
    → AreWritten (Code a) contents files_now) c.put_code.result
    (λ contents told. nothing_written (Code a) contents files_now (coding.writes_none a)))

pub returns-in_ok-read-in-Code-clause-left : goal.returns-in_ok-read-in-Code-clause-left
returns-in_ok-read-in-Code-clause-left g c =
    let files : FilesState = g.F.Files.state c.args.files.now in
    let files_now : FilesState = g.F.Files.state c.read_inputs.new.files in
    let a = code_of c.in-Code.arguments in
    rw c.in-Code.is (err_all (λ f. (contents : List ℕ → List ℕ) → AreTold (Code a) files contents
    → AreLeft (Code a) contents files files_now) c.put_code.result
    (λ f contents told. nothing_left (Code a) contents files files_now (coding.writes_none a)))

pub returns-in_err-read-in-Code-clause-left : goal.returns-in_err-read-in-Code-clause-left
returns-in_err-read-in-Code-clause-left g c =
    let files : FilesState = g.F.Files.state c.args.files.now in
    let files_now : FilesState = g.F.Files.state c.read_inputs.new.files in
    let a = code_of c.in-Code.arguments in
    let p = err_from_is_err_and c.from_residual.result c.from_residual.ensures.1 in
    rw (c.in-Code.is, p.1)
    (λ contents told. nothing_left (Code a) contents files files_now (coding.writes_none a))

pub returns-in-Cost-clause-ok : goal.returns-in-Cost-clause-ok
returns-in-Cost-clause-ok g c = rw c.in-Cost.is c.show_cost.ensures.ok

pub returns-in-Cost-clause-failure : goal.returns-in-Cost-clause-failure
returns-in-Cost-clause-failure g c = rw c.in-Cost.is c.show_cost.ensures.failure

pub returns-in-Cost-clause-longer : goal.returns-in-Cost-clause-longer
returns-in-Cost-clause-longer g c = λ name content among is long.
    c.show_cost.ensures.longer name content
    (subst (λ x. Contains (reads (meaning_of_view x)) name) c.in-Cost.is among) is long

pub returns-in-Cost-clause-written : goal.returns-in-Cost-clause-written
returns-in-Cost-clause-written g c =
    let files : FilesState = g.F.Files.state c.args.files.now in
    let files_now : FilesState = g.F.Files.state c.show_cost.new.files in
    let a = code_of c.in-Cost.arguments in
    let r = file_name c.in-Cost.record_file in
    rw c.in-Cost.is (ok_all ((contents : List ℕ → List ℕ) → AreTold (Cost a r) files contents
    → AreWritten (Cost a r) contents files_now) c.show_cost.result
    (λ contents told. nothing_written (Cost a r) contents files_now (writes_nothing a r)))

pub returns-in-Cost-clause-left : goal.returns-in-Cost-clause-left
returns-in-Cost-clause-left g c =
    let files : FilesState = g.F.Files.state c.args.files.now in
    let files_now : FilesState = g.F.Files.state c.show_cost.new.files in
    let a = code_of c.in-Cost.arguments in
    let r = file_name c.in-Cost.record_file in
    rw c.in-Cost.is (err_all (λ f. (contents : List ℕ → List ℕ) → AreTold (Cost a r) files contents
    → AreLeft (Cost a r) contents files files_now) c.show_cost.result
    (λ f contents told. nothing_left (Cost a r) contents files files_now (writes_nothing a r)))

pub returns-in_ok-read-in-Trace-clause-ok : goal.returns-in_ok-read-in-Trace-clause-ok
returns-in_ok-read-in-Trace-clause-ok g c =
    let files : FilesState = g.F.Files.state c.args.files.now in
    let before : SinkState = g.O.Sink.state c.args.out.now in
    let now : SinkState = g.O.Sink.state c.put_trace.new.out in
    let a = c.in-Trace in
    let run = recorded_of a.run' in
    let s : Selection = record { from = a.from; to = a.to; address = a.block; node = a.node } in
    let inputs = bytes_of c.lend-in-Trace.result in
    let held : AreInputs files (run_files run) inputs =
    subst (λ n. AreInputs files n inputs) c.run_files.ensures
    (subst (AreInputs files (names_of c.run_files.result)) (sym c.lend-in-Trace.ensures.value)
    c.in_ok-read-in-Trace.ensures.ok) in
    rw c.in-Trace.is
    (on_ok_as (Puts (IsTextOfTrace inputs s) 0 before now) (IsSuccess (Trace run a.from a.to a.block a.node) files before now) c.put_trace.result
    (run_succeeds (Trace run a.from a.to a.block a.node) run
    (λ i. IsTextOfTrace i s) (trace_of_run run a.from a.to a.block a.node) files before now inputs held) c.put_trace.ensures.ok)

pub returns-in_ok-read-in-Trace-clause-failure : goal.returns-in_ok-read-in-Trace-clause-failure
returns-in_ok-read-in-Trace-clause-failure g c =
    let files : FilesState = g.F.Files.state c.args.files.now in
    let files_now : FilesState = g.F.Files.state c.read_inputs-in-Trace.new.files in
    let before : SinkState = g.O.Sink.state c.args.out.now in
    let now : SinkState = g.O.Sink.state c.put_trace.new.out in
    let a = c.in-Trace in
    let run = recorded_of a.run' in
    let s : Selection = record { from = a.from; to = a.to; address = a.block; node = a.node } in
    let inputs = bytes_of c.lend-in-Trace.result in
    let held : AreInputs files (run_files run) inputs =
    subst (λ n. AreInputs files n inputs) c.run_files.ensures
    (subst (AreInputs files (names_of c.run_files.result)) (sym c.lend-in-Trace.ensures.value)
    c.in_ok-read-in-Trace.ensures.ok) in
    rw c.in-Trace.is (err_as (FailsAsRun (IsTextOfTrace inputs s) inputs before now)
    (IsFailure (Trace run a.from a.to a.block a.node) files files_now before now) c.put_trace.result
    (λ f h. run_fails (Trace run a.from a.to a.block a.node) run
    (λ i. IsTextOfTrace i s) (trace_of_run run a.from a.to a.block a.node) files files_now before now
    inputs f held h) c.put_trace.ensures.failure)

pub returns-in_ok-read-in-Trace-clause-longer : goal.returns-in_ok-read-in-Trace-clause-longer
returns-in_ok-read-in-Trace-clause-longer g c = λ name content among is long.
    let files : FilesState = g.F.Files.state c.args.files.now in
    let a = c.in-Trace in
    let run = recorded_of a.run' in
    let s : Selection = record { from = a.from; to = a.to; address = a.block; node = a.node } in
    let inputs = contents_of c.in_ok-read-in-Trace.read in
    let held : AreInputs files (run_files run) inputs =
    subst (λ n. AreInputs files n inputs) c.run_files.ensures c.in_ok-read-in-Trace.ensures.ok in
    absurd (not_long (Trace run a.from a.to a.block a.node) (run_files run) files inputs name content ((trace_of_run run a.from a.to a.block a.node).reads_are) held
    (subst (λ x. Contains (reads (meaning_of_view x)) name) c.in-Trace.is among) is long)

pub returns-in_err-read-in-Trace-clause-failure : goal.returns-in_err-read-in-Trace-clause-failure
returns-in_err-read-in-Trace-clause-failure g c =
    let files : FilesState = g.F.Files.state c.args.files.now in
    let files_now : FilesState = g.F.Files.state c.read_inputs-in-Trace.new.files in
    let state : SinkState = g.O.Sink.state c.args.out.now in
    let a = c.in-Trace in
    let run = recorded_of a.run' in
    let s : Selection = record { from = a.from; to = a.to; address = a.block; node = a.node } in
    let p = err_from_is_err_and c.from_residual-in_err-read-in-Trace.result c.from_residual-in_err-read-in-Trace.ensures.1 in
    rw (c.in-Trace.is, p.1, p.2) (unread_fails (Trace run a.from a.to a.block a.node) (run_files run) ((trace_of_run run a.from a.to a.block a.node).reads_are) files files_now state
    c.in_err-read-in-Trace.field-0.0
    (subst (λ n. IsInputFailure n files files_now c.in_err-read-in-Trace.field-0.0)
    c.run_files.ensures c.in_err-read-in-Trace.ensures.failure))

pub returns-in_err-read-in-Trace-clause-longer : goal.returns-in_err-read-in-Trace-clause-longer
returns-in_err-read-in-Trace-clause-longer g c = λ name content among is long.
    let files : FilesState = g.F.Files.state c.args.files.now in
    let files_now : FilesState = g.F.Files.state c.read_inputs-in-Trace.new.files in
    let p = err_from_is_err_and c.from_residual-in_err-read-in-Trace.result c.from_residual-in_err-read-in-Trace.ensures.1 in
    rw (p.1, p.2) (unread_no_refusal (names_of c.run_files.result) files files_now
    c.in_err-read-in-Trace.field-0.0 c.in_err-read-in-Trace.ensures.failure)

pub returns-in_ok-read-in-Trace-clause-written : goal.returns-in_ok-read-in-Trace-clause-written
returns-in_ok-read-in-Trace-clause-written g c =
    let files : FilesState = g.F.Files.state c.args.files.now in
    let files_now : FilesState = g.F.Files.state c.read_inputs-in-Trace.new.files in
    let a = c.in-Trace in
    let run = recorded_of a.run' in
    let s : Selection = record { from = a.from; to = a.to; address = a.block; node = a.node } in
    rw c.in-Trace.is (ok_all ((contents : List ℕ → List ℕ) → AreTold (Trace run a.from a.to a.block a.node) files contents
    → AreWritten (Trace run a.from a.to a.block a.node) contents files_now) c.put_trace.result
    (λ contents told. nothing_written (Trace run a.from a.to a.block a.node) contents files_now (trace_writes_none run a.from a.to a.block a.node)))

pub returns-in_ok-read-in-Trace-clause-left : goal.returns-in_ok-read-in-Trace-clause-left
returns-in_ok-read-in-Trace-clause-left g c =
    let files : FilesState = g.F.Files.state c.args.files.now in
    let files_now : FilesState = g.F.Files.state c.read_inputs-in-Trace.new.files in
    let a = c.in-Trace in
    let run = recorded_of a.run' in
    let s : Selection = record { from = a.from; to = a.to; address = a.block; node = a.node } in
    rw c.in-Trace.is (err_all (λ f. (contents : List ℕ → List ℕ) → AreTold (Trace run a.from a.to a.block a.node) files contents
    → AreLeft (Trace run a.from a.to a.block a.node) contents files files_now) c.put_trace.result
    (λ f contents told. nothing_left (Trace run a.from a.to a.block a.node) contents files files_now (trace_writes_none run a.from a.to a.block a.node)))

pub returns-in_err-read-in-Trace-clause-left : goal.returns-in_err-read-in-Trace-clause-left
returns-in_err-read-in-Trace-clause-left g c =
    let files : FilesState = g.F.Files.state c.args.files.now in
    let files_now : FilesState = g.F.Files.state c.read_inputs-in-Trace.new.files in
    let a = c.in-Trace in
    let run = recorded_of a.run' in
    let s : Selection = record { from = a.from; to = a.to; address = a.block; node = a.node } in
    let p = err_from_is_err_and c.from_residual-in_err-read-in-Trace.result c.from_residual-in_err-read-in-Trace.ensures.1 in
    rw (c.in-Trace.is, p.1)
    (λ contents told. nothing_left (Trace run a.from a.to a.block a.node) contents files files_now (trace_writes_none run a.from a.to a.block a.node))

pub returns-in_ok-read-in-Blocks-clause-ok : goal.returns-in_ok-read-in-Blocks-clause-ok
returns-in_ok-read-in-Blocks-clause-ok g c =
    let files : FilesState = g.F.Files.state c.args.files.now in
    let before : SinkState = g.O.Sink.state c.args.out.now in
    let now : SinkState = g.O.Sink.state c.put_blocks.new.out in
    let run = recorded_of c.in-Blocks.run' in
    let inputs = bytes_of c.lend-in-Blocks.result in
    let held : AreInputs files (run_files run) inputs =
    subst (λ n. AreInputs files n inputs) c.run_files-in-Blocks.ensures
    (subst (AreInputs files (names_of c.run_files-in-Blocks.result)) (sym c.lend-in-Blocks.ensures.value)
    c.in_ok-read-in-Blocks.ensures.ok) in
    rw c.in-Blocks.is
    (on_ok_as (Puts (IsTextOfBlocks inputs) 0 before now) (IsSuccess (Blocks run) files before now) c.put_blocks.result
    (run_succeeds (Blocks run) run IsTextOfBlocks (blocks_of_run run) files before now inputs held) c.put_blocks.ensures.ok)

pub returns-in_ok-read-in-Blocks-clause-failure : goal.returns-in_ok-read-in-Blocks-clause-failure
returns-in_ok-read-in-Blocks-clause-failure g c =
    let files : FilesState = g.F.Files.state c.args.files.now in
    let files_now : FilesState = g.F.Files.state c.read_inputs-in-Blocks.new.files in
    let before : SinkState = g.O.Sink.state c.args.out.now in
    let now : SinkState = g.O.Sink.state c.put_blocks.new.out in
    let run = recorded_of c.in-Blocks.run' in
    let inputs = bytes_of c.lend-in-Blocks.result in
    let held : AreInputs files (run_files run) inputs =
    subst (λ n. AreInputs files n inputs) c.run_files-in-Blocks.ensures
    (subst (AreInputs files (names_of c.run_files-in-Blocks.result)) (sym c.lend-in-Blocks.ensures.value)
    c.in_ok-read-in-Blocks.ensures.ok) in
    rw c.in-Blocks.is (err_as (FailsAsRun (IsTextOfBlocks inputs) inputs before now)
    (IsFailure (Blocks run) files files_now before now) c.put_blocks.result
    (λ f h. run_fails (Blocks run) run IsTextOfBlocks (blocks_of_run run) files files_now before now inputs
    f held h) c.put_blocks.ensures.failure)

pub returns-in_ok-read-in-Blocks-clause-longer : goal.returns-in_ok-read-in-Blocks-clause-longer
returns-in_ok-read-in-Blocks-clause-longer g c = λ name content among is long.
    let files : FilesState = g.F.Files.state c.args.files.now in
    let run = recorded_of c.in-Blocks.run' in
    let inputs = contents_of c.in_ok-read-in-Blocks.read in
    let held : AreInputs files (run_files run) inputs =
    subst (λ n. AreInputs files n inputs) c.run_files-in-Blocks.ensures c.in_ok-read-in-Blocks.ensures.ok in
    absurd (not_long (Blocks run) (run_files run) files inputs name content ((blocks_of_run run).reads_are) held
    (subst (λ x. Contains (reads (meaning_of_view x)) name) c.in-Blocks.is among) is long)

pub returns-in_err-read-in-Blocks-clause-failure : goal.returns-in_err-read-in-Blocks-clause-failure
returns-in_err-read-in-Blocks-clause-failure g c =
    let files : FilesState = g.F.Files.state c.args.files.now in
    let files_now : FilesState = g.F.Files.state c.read_inputs-in-Blocks.new.files in
    let state : SinkState = g.O.Sink.state c.args.out.now in
    let run = recorded_of c.in-Blocks.run' in
    let p = err_from_is_err_and c.from_residual-in_err-read-in-Blocks.result c.from_residual-in_err-read-in-Blocks.ensures.1 in
    rw (c.in-Blocks.is, p.1, p.2) (unread_fails (Blocks run) (run_files run) ((blocks_of_run run).reads_are) files files_now state
    c.in_err-read-in-Blocks.field-0.0
    (subst (λ n. IsInputFailure n files files_now c.in_err-read-in-Blocks.field-0.0)
    c.run_files-in-Blocks.ensures c.in_err-read-in-Blocks.ensures.failure))

pub returns-in_err-read-in-Blocks-clause-longer : goal.returns-in_err-read-in-Blocks-clause-longer
returns-in_err-read-in-Blocks-clause-longer g c = λ name content among is long.
    let files : FilesState = g.F.Files.state c.args.files.now in
    let files_now : FilesState = g.F.Files.state c.read_inputs-in-Blocks.new.files in
    let p = err_from_is_err_and c.from_residual-in_err-read-in-Blocks.result c.from_residual-in_err-read-in-Blocks.ensures.1 in
    rw (p.1, p.2) (unread_no_refusal (names_of c.run_files-in-Blocks.result) files files_now
    c.in_err-read-in-Blocks.field-0.0 c.in_err-read-in-Blocks.ensures.failure)

pub returns-in_ok-read-in-Blocks-clause-written : goal.returns-in_ok-read-in-Blocks-clause-written
returns-in_ok-read-in-Blocks-clause-written g c =
    let files : FilesState = g.F.Files.state c.args.files.now in
    let files_now : FilesState = g.F.Files.state c.read_inputs-in-Blocks.new.files in
    let run = recorded_of c.in-Blocks.run' in
    rw c.in-Blocks.is (ok_all ((contents : List ℕ → List ℕ) → AreTold (Blocks run) files contents
    → AreWritten (Blocks run) contents files_now) c.put_blocks.result
    (λ contents told. nothing_written (Blocks run) contents files_now (blocks_writes_none run)))

pub returns-in_ok-read-in-Blocks-clause-left : goal.returns-in_ok-read-in-Blocks-clause-left
returns-in_ok-read-in-Blocks-clause-left g c =
    let files : FilesState = g.F.Files.state c.args.files.now in
    let files_now : FilesState = g.F.Files.state c.read_inputs-in-Blocks.new.files in
    let run = recorded_of c.in-Blocks.run' in
    rw c.in-Blocks.is (err_all (λ f. (contents : List ℕ → List ℕ) → AreTold (Blocks run) files contents
    → AreLeft (Blocks run) contents files files_now) c.put_blocks.result
    (λ f contents told. nothing_left (Blocks run) contents files files_now (blocks_writes_none run)))

pub returns-in_err-read-in-Blocks-clause-left : goal.returns-in_err-read-in-Blocks-clause-left
returns-in_err-read-in-Blocks-clause-left g c =
    let files : FilesState = g.F.Files.state c.args.files.now in
    let files_now : FilesState = g.F.Files.state c.read_inputs-in-Blocks.new.files in
    let run = recorded_of c.in-Blocks.run' in
    let p = err_from_is_err_and c.from_residual-in_err-read-in-Blocks.result c.from_residual-in_err-read-in-Blocks.ensures.1 in
    rw (c.in-Blocks.is, p.1)
    (λ contents told. nothing_left (Blocks run) contents files files_now (blocks_writes_none run))

pub returns-in-Page-clause-ok : goal.returns-in-Page-clause-ok
returns-in-Page-clause-ok g c =
    let files : FilesState = g.F.Files.state c.args.files.now in
    let state : SinkState = g.O.Sink.state c.args.out.now in
    let a = c.in-Page in
    rw c.in-Page.is (ok_all (IsSuccess (Page (recorded_of a.run') a.output.now a.from a.to) files state state) c.write_page.result
    (page_succeeds (recorded_of a.run') a.output.now a.from a.to files state))

pub returns-in-Page-clause-failure : goal.returns-in-Page-clause-failure
returns-in-Page-clause-failure g c =
    let files : FilesState = g.F.Files.state c.args.files.now in
    let files_now : FilesState = g.F.Files.state c.write_page.new.files in
    let state : SinkState = g.O.Sink.state c.args.out.now in
    let a = c.in-Page in
    rw c.in-Page.is (err_as (IsPageFailure (recorded_of a.run') a.output.now (asked_for a.from a.to) files files_now)
    (IsFailure (Page (recorded_of a.run') a.output.now a.from a.to) files files_now state state) c.write_page.result
    (λ f h. page_fails (recorded_of a.run') a.output.now a.from a.to files files_now state f h) c.write_page.ensures.failure)

pub returns-in-Page-clause-longer : goal.returns-in-Page-clause-longer
returns-in-Page-clause-longer g c = λ name content among is long.
    let files : FilesState = g.F.Files.state c.args.files.now in
    let files_now : FilesState = g.F.Files.state c.write_page.new.files in
    let a = c.in-Page in
    page_longer (recorded_of a.run') a.output.now a.from a.to files files_now c.write_page.result name content
    c.write_page.ensures.ok c.write_page.ensures.failure
    (subst (λ x. Contains (reads (meaning_of_view x)) name) c.in-Page.is among) is long

pub returns-in-Page-clause-kept : goal.returns-in-Page-clause-kept
returns-in-Page-clause-kept g c =
    let files : FilesState = g.F.Files.state c.args.files.now in
    let files_now : FilesState = g.F.Files.state c.write_page.new.files in
    let a = c.in-Page in
    err_as (IsPageFailure (recorded_of a.run') a.output.now (asked_for a.from a.to) files files_now) (AreKept files files_now)
    c.write_page.result (λ f h. page_kept (recorded_of a.run') a.output.now (asked_for a.from a.to) files files_now f h)
    c.write_page.ensures.failure

pub returns-in-Page-clause-written : goal.returns-in-Page-clause-written
returns-in-Page-clause-written g c =
    let files : FilesState = g.F.Files.state c.args.files.now in
    let files_now : FilesState = g.F.Files.state c.write_page.new.files in
    let a = c.in-Page in
    rw c.in-Page.is (on_ok_as (IsPageWritten (recorded_of a.run') a.output.now (asked_for a.from a.to) files files_now)
    ((contents : List ℕ → List ℕ) → AreTold (Page (recorded_of a.run') a.output.now a.from a.to) files contents → AreWritten (Page (recorded_of a.run') a.output.now a.from a.to) contents files_now)
    c.write_page.result (λ h. page_written (recorded_of a.run') a.output.now a.from a.to files files_now h) c.write_page.ensures.ok)

pub returns-in-Page-clause-left : goal.returns-in-Page-clause-left
returns-in-Page-clause-left g c =
    let files : FilesState = g.F.Files.state c.args.files.now in
    let files_now : FilesState = g.F.Files.state c.write_page.new.files in
    let a = c.in-Page in
    rw c.in-Page.is (err_as (IsPageFailure (recorded_of a.run') a.output.now (asked_for a.from a.to) files files_now)
    (λ f. (contents : List ℕ → List ℕ) → AreTold (Page (recorded_of a.run') a.output.now a.from a.to) files contents → AreLeft (Page (recorded_of a.run') a.output.now a.from a.to) contents files files_now)
    c.write_page.result (λ f h contents told. page_left (recorded_of a.run') a.output.now a.from a.to files files_now f h contents)
    c.write_page.ensures.failure)

pub returns-in-Help-clause-written : goal.returns-in-Help-clause-written
returns-in-Help-clause-written g c =
    let files : FilesState = g.F.Files.state c.args.files.now in
    let files_now : FilesState = g.F.Files.state c.args.files.now in
    rw c.in-Help.is (ok_all ((contents : List ℕ → List ℕ) → AreTold (Help) files contents
    → AreWritten (Help) contents files_now) c.put.result
    (λ contents told. nothing_written (Help) contents files_now refl))

pub returns-in-Help-clause-left : goal.returns-in-Help-clause-left
returns-in-Help-clause-left g c =
    let files : FilesState = g.F.Files.state c.args.files.now in
    let files_now : FilesState = g.F.Files.state c.args.files.now in
    rw c.in-Help.is (err_all (λ f. (contents : List ℕ → List ℕ) → AreTold (Help) files contents
    → AreLeft (Help) contents files files_now) c.put.result
    (λ f contents told. nothing_left (Help) contents files files_now refl))

pub returns-in_ok-read-in-Time-clause-ok : goal.returns-in_ok-read-in-Time-clause-ok
returns-in_ok-read-in-Time-clause-ok g c =
    let files : FilesState = g.F.Files.state c.args.files.now in
    let before : SinkState = g.O.Sink.state c.args.out.now in
    let now : SinkState = g.O.Sink.state c.put_time.new.out in
    let a = time_of c.in-Time.arguments in
    let inputs = bytes_of c.lend-in-Time.result in
    let held : AreInputs files (time_files a) inputs =
    subst (λ n. AreInputs files n inputs) c.time_files.ensures
    (subst (AreInputs files (names_of c.time_files.result)) (sym c.lend-in-Time.ensures.value)
    c.in_ok-read-in-Time.ensures.ok) in
    rw c.in-Time.is
    (on_ok_as (Puts (IsTextOfTime inputs a) 0 before now) (IsSuccess (Time a) files before now) c.put_time.result
    (timing.time_succeeds a files before now inputs held) c.put_time.ensures.ok)

pub returns-in_ok-read-in-Time-clause-failure : goal.returns-in_ok-read-in-Time-clause-failure
returns-in_ok-read-in-Time-clause-failure g c =
    let files : FilesState = g.F.Files.state c.args.files.now in
    let files_now : FilesState = g.F.Files.state c.read_inputs-in-Time.new.files in
    let before : SinkState = g.O.Sink.state c.args.out.now in
    let now : SinkState = g.O.Sink.state c.put_time.new.out in
    let a = time_of c.in-Time.arguments in
    let inputs = bytes_of c.lend-in-Time.result in
    let held : AreInputs files (time_files a) inputs =
    subst (λ n. AreInputs files n inputs) c.time_files.ensures
    (subst (AreInputs files (names_of c.time_files.result)) (sym c.lend-in-Time.ensures.value)
    c.in_ok-read-in-Time.ensures.ok) in
    rw c.in-Time.is
    (err_as (FailsAs (IsTextOfTime inputs a) (IsRunRefused inputs) (IsBadRunLayout inputs a.nodes) before now)
    (IsFailure (Time a) files files_now before now) c.put_time.result
    (λ f h. timing.time_fails a files files_now before now inputs f held h) c.put_time.ensures.failure)

pub returns-in_ok-read-in-Time-clause-longer : goal.returns-in_ok-read-in-Time-clause-longer
returns-in_ok-read-in-Time-clause-longer g c = λ name content among is long.
    let files : FilesState = g.F.Files.state c.args.files.now in
    let a = time_of c.in-Time.arguments in
    let inputs = contents_of c.in_ok-read-in-Time.read in
    let held : AreInputs files (time_files a) inputs =
    subst (λ n. AreInputs files n inputs) c.time_files.ensures c.in_ok-read-in-Time.ensures.ok in
    absurd (not_long (Time a) (time_files a) files inputs name content (timing.reads_are a) held
    (subst (λ x. Contains (reads (meaning_of_view x)) name) c.in-Time.is among) is long)

pub returns-in_err-read-in-Time-clause-failure : goal.returns-in_err-read-in-Time-clause-failure
returns-in_err-read-in-Time-clause-failure g c =
    let files : FilesState = g.F.Files.state c.args.files.now in
    let files_now : FilesState = g.F.Files.state c.read_inputs-in-Time.new.files in
    let state : SinkState = g.O.Sink.state c.args.out.now in
    let a = time_of c.in-Time.arguments in
    let p = err_from_is_err_and c.from_residual-in_err-read-in-Time.result c.from_residual-in_err-read-in-Time.ensures.1 in
    rw (c.in-Time.is, p.1, p.2) (unread_fails (Time a) (time_files a) (timing.reads_are a) files files_now state
    c.in_err-read-in-Time.field-0.0
    (subst (λ n. IsInputFailure n files files_now c.in_err-read-in-Time.field-0.0)
    c.time_files.ensures c.in_err-read-in-Time.ensures.failure))

pub returns-in_err-read-in-Time-clause-longer : goal.returns-in_err-read-in-Time-clause-longer
returns-in_err-read-in-Time-clause-longer g c = λ name content among is long.
    let files : FilesState = g.F.Files.state c.args.files.now in
    let files_now : FilesState = g.F.Files.state c.read_inputs-in-Time.new.files in
    let p = err_from_is_err_and c.from_residual-in_err-read-in-Time.result c.from_residual-in_err-read-in-Time.ensures.1 in
    rw (p.1, p.2) (unread_no_refusal (names_of c.time_files.result) files files_now
    c.in_err-read-in-Time.field-0.0 c.in_err-read-in-Time.ensures.failure)

pub returns-in_ok-read-in-Time-clause-written : goal.returns-in_ok-read-in-Time-clause-written
returns-in_ok-read-in-Time-clause-written g c =
    let files : FilesState = g.F.Files.state c.args.files.now in
    let files_now : FilesState = g.F.Files.state c.read_inputs-in-Time.new.files in
    let a = time_of c.in-Time.arguments in
    rw c.in-Time.is (ok_all ((contents : List ℕ → List ℕ) → AreTold (Time a) files contents
    → AreWritten (Time a) contents files_now) c.put_time.result
    (λ contents told. nothing_written (Time a) contents files_now (timing.writes_none a)))

pub returns-in_ok-read-in-Time-clause-left : goal.returns-in_ok-read-in-Time-clause-left
returns-in_ok-read-in-Time-clause-left g c =
    let files : FilesState = g.F.Files.state c.args.files.now in
    let files_now : FilesState = g.F.Files.state c.read_inputs-in-Time.new.files in
    let a = time_of c.in-Time.arguments in
    rw c.in-Time.is (err_all (λ f. (contents : List ℕ → List ℕ) → AreTold (Time a) files contents
    → AreLeft (Time a) contents files files_now) c.put_time.result
    (λ f contents told. nothing_left (Time a) contents files files_now (timing.writes_none a)))

pub returns-in_err-read-in-Time-clause-left : goal.returns-in_err-read-in-Time-clause-left
returns-in_err-read-in-Time-clause-left g c =
    let files : FilesState = g.F.Files.state c.args.files.now in
    let files_now : FilesState = g.F.Files.state c.read_inputs-in-Time.new.files in
    let a = time_of c.in-Time.arguments in
    let p = err_from_is_err_and c.from_residual-in_err-read-in-Time.result c.from_residual-in_err-read-in-Time.ensures.1 in
    rw (c.in-Time.is, p.1)
    (λ contents told. nothing_left (Time a) contents files files_now (timing.writes_none a))

pub returns-in-Speedup-clause-ok : goal.returns-in-Speedup-clause-ok
returns-in-Speedup-clause-ok g c =
    let files : FilesState = g.F.Files.state c.args.files.now in
    let state : SinkState = g.O.Sink.state c.args.out.now in
    let a = c.in-Speedup in
    rw c.in-Speedup.is (ok_all (IsSuccess (Speedup (time_of a.arguments) a.output.now) files state state) c.write_speedup.result
    (speedup_succeeds (time_of a.arguments) a.output.now files state))

pub returns-in-Speedup-clause-failure : goal.returns-in-Speedup-clause-failure
returns-in-Speedup-clause-failure g c =
    let files : FilesState = g.F.Files.state c.args.files.now in
    let files_now : FilesState = g.F.Files.state c.write_speedup.new.files in
    let state : SinkState = g.O.Sink.state c.args.out.now in
    let a = c.in-Speedup in
    rw c.in-Speedup.is (err_as (IsSpeedupFailure (time_of a.arguments) a.output.now files files_now)
    (IsFailure (Speedup (time_of a.arguments) a.output.now) files files_now state state) c.write_speedup.result
    (λ f h. speedup_fails (time_of a.arguments) a.output.now files files_now state f h) c.write_speedup.ensures.failure)

pub returns-in-Speedup-clause-longer : goal.returns-in-Speedup-clause-longer
returns-in-Speedup-clause-longer g c = λ name content among is long.
    let files : FilesState = g.F.Files.state c.args.files.now in
    let files_now : FilesState = g.F.Files.state c.write_speedup.new.files in
    let a = c.in-Speedup in
    speedup_longer (time_of a.arguments) a.output.now files files_now c.write_speedup.result name content
    c.write_speedup.ensures.ok c.write_speedup.ensures.failure
    (subst (λ x. Contains (reads (meaning_of_view x)) name) c.in-Speedup.is among) is long

pub returns-in-Speedup-clause-kept : goal.returns-in-Speedup-clause-kept
returns-in-Speedup-clause-kept g c =
    let files : FilesState = g.F.Files.state c.args.files.now in
    let files_now : FilesState = g.F.Files.state c.write_speedup.new.files in
    let a = c.in-Speedup in
    err_as (IsSpeedupFailure (time_of a.arguments) a.output.now files files_now) (AreKept files files_now)
    c.write_speedup.result (λ f h. speedup_kept (time_of a.arguments) a.output.now files files_now f h)
    c.write_speedup.ensures.failure

pub returns-in-Speedup-clause-written : goal.returns-in-Speedup-clause-written
returns-in-Speedup-clause-written g c =
    let files : FilesState = g.F.Files.state c.args.files.now in
    let files_now : FilesState = g.F.Files.state c.write_speedup.new.files in
    let a = c.in-Speedup in
    rw c.in-Speedup.is (on_ok_as (IsSpeedupWritten (time_of a.arguments) a.output.now files files_now)
    ((contents : List ℕ → List ℕ) → AreTold (Speedup (time_of a.arguments) a.output.now) files contents → AreWritten (Speedup (time_of a.arguments) a.output.now) contents files_now)
    c.write_speedup.result (λ h. speedup_written (time_of a.arguments) a.output.now files files_now h) c.write_speedup.ensures.ok)

pub returns-in-Speedup-clause-left : goal.returns-in-Speedup-clause-left
returns-in-Speedup-clause-left g c =
    let files : FilesState = g.F.Files.state c.args.files.now in
    let files_now : FilesState = g.F.Files.state c.write_speedup.new.files in
    let a = c.in-Speedup in
    rw c.in-Speedup.is (err_as (IsSpeedupFailure (time_of a.arguments) a.output.now files files_now)
    (λ f. (contents : List ℕ → List ℕ) → AreTold (Speedup (time_of a.arguments) a.output.now) files contents → AreLeft (Speedup (time_of a.arguments) a.output.now) contents files files_now)
    c.write_speedup.result (λ f h contents told. speedup_left (time_of a.arguments) a.output.now files files_now f h contents)
    c.write_speedup.ensures.failure)

pub unreachable-requires : goal.unreachable-requires
unreachable-requires g c = c.requires _ _ (ap meaning_of_view c.in-Gdb.is)
