use Rattle.std.proofs.Common.{sym, subst}
use Rattle.std.proofs.lemmas.Result.{err_from_is_err_and}
use Rattle.command_line.specs.Views.{Cost, code_of}
use Rattle.std.specs.Prelude.{None}
use Rattle.dsm_io.specs.States.{SinkState, FilesState}
use Rattle.text_output.specs.Failures.{FailsAs, IsNever, Puts}
use Rattle.judged_files.specs.Given.{bytes_of, contents_of}
use Rattle.views.specs.Code.{IsCodeless}
use Rattle.views.specs.Cost.{IsTextOfCost}
use Rattle.views.specs.Failures.{IsFailure, IsSuccess}
use Rattle.views.specs.Inputs.{AreInputs, IsInputFailure, code_files, names_of}
use Rattle.views.proofs.Costed.{cost_fails, cost_succeeds, reads_are}
use Rattle.views.proofs.Inputs.{not_long, unread_fails, unread_no_refusal}
use Rattle.views.proofs.Viewed.{err_as, on_ok_as}
use Rattle.views.proofs.cost.show_code_cost.Goals as goal

pub returns-clause-ok : goal.returns-clause-ok
returns-clause-ok g c =
    let files : FilesState = g.F.Files.state c.args.files.now in
    let before : SinkState = g.O.Sink.state c.args.out.now in
    let now : SinkState = g.O.Sink.state c.put_cost.new.out in
    let a = code_of c.args.arguments.now in
    let inputs = bytes_of c.lend.result in
    let held : AreInputs files (code_files a) inputs =
    subst (λ n. AreInputs files n inputs) c.code_files.ensures
    (subst (AreInputs files (names_of c.code_files.result)) (sym c.lend.ensures.value) c.in_ok-read.ensures.ok) in
    on_ok_as (Puts (IsTextOfCost inputs) 0 before now) (IsSuccess (Cost a None) files before now) c.put_cost.result
    (cost_succeeds a files before now inputs held) c.put_cost.ensures.ok

pub returns-clause-failure : goal.returns-clause-failure
returns-clause-failure g c =
    let files : FilesState = g.F.Files.state c.args.files.now in
    let files_now : FilesState = g.F.Files.state c.read_inputs.new.files in
    let before : SinkState = g.O.Sink.state c.args.out.now in
    let now : SinkState = g.O.Sink.state c.put_cost.new.out in
    let a = code_of c.args.arguments.now in
    let inputs = bytes_of c.lend.result in
    let held : AreInputs files (code_files a) inputs =
    subst (λ n. AreInputs files n inputs) c.code_files.ensures
    (subst (AreInputs files (names_of c.code_files.result)) (sym c.lend.ensures.value) c.in_ok-read.ensures.ok) in
    err_as (FailsAs (IsTextOfCost inputs) (IsCodeless inputs) IsNever before now)
    (IsFailure (Cost a None) files files_now before now) c.put_cost.result
    (λ f h. cost_fails a files files_now before now inputs f held h) c.put_cost.ensures.failure

pub returns-clause-longer : goal.returns-clause-longer
returns-clause-longer g c = λ name content among is long.
    let files : FilesState = g.F.Files.state c.args.files.now in
    let a = code_of c.args.arguments.now in
    let inputs = contents_of c.in_ok-read.read in
    let held : AreInputs files (code_files a) inputs =
    subst (λ n. AreInputs files n inputs) c.code_files.ensures c.in_ok-read.ensures.ok in
    absurd (not_long (Cost a None) (code_files a) files inputs name content (reads_are a) held among is long)

pub returns-in_err-read-clause-failure : goal.returns-in_err-read-clause-failure
returns-in_err-read-clause-failure g c =
    let files : FilesState = g.F.Files.state c.args.files.now in
    let files_now : FilesState = g.F.Files.state c.read_inputs.new.files in
    let state : SinkState = g.O.Sink.state c.args.out.now in
    let a = code_of c.args.arguments.now in
    let p = err_from_is_err_and c.from_residual.result c.from_residual.ensures.1 in
    rw (p.1, p.2) (unread_fails (Cost a None) (code_files a) (reads_are a) files files_now state c.in_err-read.field-0.0
    (subst (λ n. IsInputFailure n files files_now c.in_err-read.field-0.0)
    c.code_files.ensures c.in_err-read.ensures.failure))

pub returns-in_err-read-clause-longer : goal.returns-in_err-read-clause-longer
returns-in_err-read-clause-longer g c = λ name content among is long.
    let files : FilesState = g.F.Files.state c.args.files.now in
    let files_now : FilesState = g.F.Files.state c.read_inputs.new.files in
    let p = err_from_is_err_and c.from_residual.result c.from_residual.ensures.1 in
    rw (p.1, p.2) (unread_no_refusal (names_of c.code_files.result) files files_now c.in_err-read.field-0.0
    c.in_err-read.ensures.failure)
