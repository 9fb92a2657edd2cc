use Rattle.std.proofs.Common.{◌≡◌, inl, inr, subst, sym, ◌∙◌}
use Rattle.std.specs.Prelude.{IfSome}
use Rattle.std.proofs.lemmas.Result.{err_from_is_err_and}
use Rattle.dsm_io.specs.States.{FilesState}
use Rattle.text_output.specs.Failures.{IsWriteFailure}
use Rattle.judged_files.specs.Given.{bytes_of}
use Rattle.command_line.specs.Views.{recorded_of}
use Rattle.views.specs.Failures.{IsPageFailure, IsPageWritten}
use Rattle.views.specs.Inputs.{AreInputs, IsInputFailure, names_of, run_files}
use Rattle.views.specs.Page.{IsPageText}
use Rattle.views.proofs.Viewed.{err_as, on_ok_as}
use Rattle.views.proofs.Written.{was_unwritten, was_written}
use Rattle.views.proofs.page.write_page.Goals as goal

pub returns-in_err-read-clause-failure : goal.returns-in_err-read-clause-failure
returns-in_err-read-clause-failure g c =
    let p = err_from_is_err_and c.from_residual.result c.from_residual.ensures.1 in
    let files : FilesState = g.F.Files.state c.args.files.now in
    let now : FilesState = g.F.Files.state c.read_inputs.new.files in
    rw (p.1, p.2) (inl (
      c.read_inputs.ensures.contents,
      inl (subst (λ n. IsInputFailure n files now c.in_err-read.field-0.0) c.run_files.ensures
          c.in_err-read.ensures.failure),
    ))

pub returns-in_err-page-clause-failure : goal.returns-in_err-page-clause-failure
returns-in_err-page-clause-failure g c =
    let files : FilesState = g.F.Files.state c.args.files.now in
    let run = recorded_of c.args.run.now in
    let inputs = bytes_of c.lend.result in
    let held : AreInputs files (run_files run) inputs =
    subst (λ n. AreInputs files n inputs) c.run_files.ensures
    (subst (AreInputs files (names_of c.run_files.result)) (sym c.lend.ensures.value)
    c.in_ok-read.ensures.ok) in
    let p = err_from_is_err_and c.from_residual-in_err-page.result c.from_residual-in_err-page.ensures.1 in
    rw (p.1, p.2) (inl (
      c.in_ok-read.ensures.contents,
      inr (record { inputs = inputs; are_inputs = held; refusal = c.in_err-page.ensures.failure }),
    ))

pub returns-clause-ok : goal.returns-clause-ok
returns-clause-ok g c =
    let files : FilesState = g.F.Files.state c.args.files.now in
    let now : FilesState = g.F.Files.state c.write_file.new.files in
    let a = c.args in
    let run = recorded_of c.args.run.now in
    let inputs = bytes_of c.lend.result in
    let held : AreInputs files (run_files run) inputs =
    subst (λ n. AreInputs files n inputs) c.run_files.ensures
    (subst (AreInputs files (names_of c.run_files.result)) (sym c.lend.ensures.value)
    c.in_ok-read.ensures.ok) in
    let bytes = c.deref.result.now in
    let is : IsPageText inputs a.selection bytes =
    subst (IsPageText inputs a.selection) (sym c.deref.ensures.value) c.in_ok-page.ensures.ok in
    on_ok_as (IfSome (now.held a.output.now) (λ content. content ≡ bytes))
    (IsPageWritten run a.output.now a.selection files now) c.write_file.result
    (λ h. was_written run a.output.now a.selection files now inputs bytes held is h)
    c.write_file.ensures.holds

pub returns-clause-failure : goal.returns-clause-failure
returns-clause-failure g c =
    let files : FilesState = g.F.Files.state c.args.files.now in
    let between : FilesState = g.F.Files.state c.read_inputs.new.files in
    let now : FilesState = g.F.Files.state c.write_file.new.files in
    let a = c.args in
    let run = recorded_of c.args.run.now in
    let inputs = bytes_of c.lend.result in
    let held : AreInputs files (run_files run) inputs =
    subst (λ n. AreInputs files n inputs) c.run_files.ensures
    (subst (AreInputs files (names_of c.run_files.result)) (sym c.lend.ensures.value)
    c.in_ok-read.ensures.ok) in
    let bytes = c.deref.result.now in
    let is : IsPageText inputs a.selection bytes =
    subst (IsPageText inputs a.selection) (sym c.deref.ensures.value) c.in_ok-page.ensures.ok in
    err_as (IsWriteFailure between now a.output.now)
    (IsPageFailure run a.output.now a.selection files now) c.write_file.result
    (λ f h. was_unwritten run a.output.now a.selection files between now inputs bytes f held is
    c.in_ok-read.ensures.contents c.in_ok-read.ensures.writes h) c.write_file.ensures.failure

pub returns-clause-others : goal.returns-clause-others
returns-clause-others g c = λ n other. c.write_file.ensures.others n other ∙ c.in_ok-read.ensures.contents n
