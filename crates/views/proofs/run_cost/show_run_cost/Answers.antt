use Rattle.std.proofs.Common.{◌≡◌, ◌∙◌, Some, ap, sym, subst}
use Rattle.std.proofs.lemmas.Result.{err_from_is_err_and}
use Rattle.command_line.specs.Views.{Cost, code_of}
use Rattle.dsm_io.specs.States.{SinkState, FilesState}
use Rattle.text_output.specs.Failures.{Puts}
use Rattle.judged_files.specs.Given.{bytes_of, contents_of}
use Rattle.views.specs.Failures.{FailsAsRun, IsFailure, IsSuccess}
use Rattle.views.specs.Inputs.{AreInputs, IsInputFailure, names_of, run_files}
use Rattle.views.specs.RunCost.{IsTextOfRunCost, run_of}
use Rattle.views.proofs.RunCosted.{cost_of_run}
use Rattle.views.proofs.Inputs.{not_long, unread_fails, unread_no_refusal}
use Rattle.views.proofs.Runs.{run_fails, run_succeeds}
use Rattle.views.proofs.Viewed.{err_as, on_ok_as}
use Rattle.views.proofs.run_cost.show_run_cost.Goals as goal

pub returns-clause-ok : goal.returns-clause-ok
returns-clause-ok g c =
    let files : FilesState = g.F.Files.state c.args.files.now in
    let before : SinkState = g.O.Sink.state c.args.out.now in
    let now : SinkState = g.O.Sink.state c.put_run_cost.new.out in
    let a = code_of c.args.arguments.now in
    let r = c.args.record_file.now in
    let run = run_of a r in
    let inputs = bytes_of c.lend.result in
    let named : names_of c.run_files.result ≡ run_files run =
    c.run_files.ensures ∙ ap run_files c.run_of-run.ensures in
    let held : AreInputs files (run_files run) inputs =
    subst (λ n. AreInputs files n inputs) named
    (subst (AreInputs files (names_of c.run_files.result)) (sym c.lend.ensures.value) c.in_ok-read.ensures.ok) in
    on_ok_as (Puts (IsTextOfRunCost inputs) 0 before now) (IsSuccess (Cost a (Some r)) files before now)
    c.put_run_cost.result
    (run_succeeds (Cost a (Some r)) run IsTextOfRunCost (cost_of_run a r) files before now inputs held)
    c.put_run_cost.ensures.ok

pub returns-clause-failure : goal.returns-clause-failure
returns-clause-failure g c =
    let files : FilesState = g.F.Files.state c.args.files.now in
    let files_now : FilesState = g.F.Files.state c.read_inputs.new.files in
    let before : SinkState = g.O.Sink.state c.args.out.now in
    let now : SinkState = g.O.Sink.state c.put_run_cost.new.out in
    let a = code_of c.args.arguments.now in
    let r = c.args.record_file.now in
    let run = run_of a r in
    let inputs = bytes_of c.lend.result in
    let named : names_of c.run_files.result ≡ run_files run =
    c.run_files.ensures ∙ ap run_files c.run_of-run.ensures in
    let held : AreInputs files (run_files run) inputs =
    subst (λ n. AreInputs files n inputs) named
    (subst (AreInputs files (names_of c.run_files.result)) (sym c.lend.ensures.value) c.in_ok-read.ensures.ok) in
    err_as (FailsAsRun (IsTextOfRunCost inputs) inputs before now)
    (IsFailure (Cost a (Some r)) files files_now before now) c.put_run_cost.result
    (λ f h. run_fails (Cost a (Some r)) run IsTextOfRunCost (cost_of_run a r) files files_now before now inputs
    f held h) c.put_run_cost.ensures.failure

pub returns-clause-longer : goal.returns-clause-longer
returns-clause-longer g c = λ name content among is long.
    let files : FilesState = g.F.Files.state c.args.files.now in
    let a = code_of c.args.arguments.now in
    let r = c.args.record_file.now in
    let run = run_of a r in
    let inputs = contents_of c.in_ok-read.read in
    let named : names_of c.run_files.result ≡ run_files run =
    c.run_files.ensures ∙ ap run_files c.run_of-run.ensures in
    let held : AreInputs files (run_files run) inputs =
    subst (λ n. AreInputs files n inputs) named c.in_ok-read.ensures.ok in
    absurd (not_long (Cost a (Some r)) (run_files run) files inputs name content ((cost_of_run a r).reads_are) held
    among is long)

pub returns-in_err-read-clause-failure : goal.returns-in_err-read-clause-failure
returns-in_err-read-clause-failure g c =
    let files : FilesState = g.F.Files.state c.args.files.now in
    let files_now : FilesState = g.F.Files.state c.read_inputs.new.files in
    let state : SinkState = g.O.Sink.state c.args.out.now in
    let a = code_of c.args.arguments.now in
    let r = c.args.record_file.now in
    let run = run_of a r in
    let named : names_of c.run_files.result ≡ run_files run =
    c.run_files.ensures ∙ ap run_files c.run_of-run.ensures in
    let p = err_from_is_err_and c.from_residual.result c.from_residual.ensures.1 in
    rw (p.1, p.2) (unread_fails (Cost a (Some r)) (run_files run) ((cost_of_run a r).reads_are) files files_now state
    c.in_err-read.field-0.0
    (subst (λ n. IsInputFailure n files files_now c.in_err-read.field-0.0) named c.in_err-read.ensures.failure))

pub returns-in_err-read-clause-longer : goal.returns-in_err-read-clause-longer
returns-in_err-read-clause-longer g c = λ name content among is long.
    let files : FilesState = g.F.Files.state c.args.files.now in
    let files_now : FilesState = g.F.Files.state c.read_inputs.new.files in
    let p = err_from_is_err_and c.from_residual.result c.from_residual.ensures.1 in
    rw (p.1, p.2) (unread_no_refusal (names_of c.run_files.result) files files_now c.in_err-read.field-0.0
    c.in_err-read.ensures.failure)
