use Rattle.std.proofs.Common.{inl, inr, refl, subst, sym}
use Rattle.std.proofs.lemmas.Result.{err_from_is_err_and}
use Rattle.dsm_io.specs.States.{FilesState}
use Rattle.judged_files.specs.Given.{bytes_of}
use Rattle.command_line.specs.Views.{recorded_of}
use Rattle.views.specs.Debugger.{streams, HasShown}
use Rattle.views.specs.Failures.{FailsAsSession, HasShownRun, IsShowFailure}
use Rattle.views.specs.Inputs.{AreInputs, IsInputFailure, names_of, run_files}
use Rattle.views.proofs.Viewed.{err_as, on_ok_as}
use Rattle.views.proofs.debugger.show_run.Goals as goal

pub returns-in_err-read-clause-failure : goal.returns-in_err-read-clause-failure
returns-in_err-read-clause-failure g c =
    let files : FilesState = g.F.Files.state c.args.files.now in
    let now : FilesState = g.F.Files.state c.read_inputs.new.files in
    let p = err_from_is_err_and c.from_residual.result c.from_residual.ensures.1 in
    rw (p.1, p.2) (inl (
      subst (λ n. IsInputFailure n files now c.in_err-read.field-0.0) c.run_files.ensures
          c.in_err-read.ensures.failure,
      record { input = refl; output = refl },
    ))

pub returns-clause-ok : goal.returns-clause-ok
returns-clause-ok g c =
    let files : FilesState = g.F.Files.state c.args.files.now in
    let io = streams (g.S.Source.state c.args.source.now) (g.S.Source.state c.serve_run.new.source)
    (g.O.Sink.state c.args.out.now) (g.O.Sink.state c.serve_run.new.out) in
    let run = recorded_of c.args.run.now in
    let inputs = bytes_of c.lend.result in
    let held : AreInputs files (run_files run) inputs =
    subst (λ n. AreInputs files n inputs) c.run_files.ensures
    (subst (AreInputs files (names_of c.run_files.result)) (sym c.lend.ensures.value)
    c.in_ok-read.ensures.ok) in
    on_ok_as (HasShown inputs io) (HasShownRun run files io) c.serve_run.result
    (λ h. record { inputs = inputs; are_inputs = held; shown = h }) c.serve_run.ensures.ok

pub returns-clause-failure : goal.returns-clause-failure
returns-clause-failure g c =
    let files : FilesState = g.F.Files.state c.args.files.now in
    let now : FilesState = g.F.Files.state c.read_inputs.new.files in
    let io = streams (g.S.Source.state c.args.source.now) (g.S.Source.state c.serve_run.new.source)
    (g.O.Sink.state c.args.out.now) (g.O.Sink.state c.serve_run.new.out) in
    let run = recorded_of c.args.run.now in
    let inputs = bytes_of c.lend.result in
    let held : AreInputs files (run_files run) inputs =
    subst (λ n. AreInputs files n inputs) c.run_files.ensures
    (subst (AreInputs files (names_of c.run_files.result)) (sym c.lend.ensures.value)
    c.in_ok-read.ensures.ok) in
    err_as (FailsAsSession inputs io) (IsShowFailure run files now io) c.serve_run.result
    (λ f h. inr (record { inputs = inputs; are_inputs = held; fails = h })) c.serve_run.ensures.failure
