use Rattle.std.proofs.Common.{subst, sym}
use Rattle.std.specs.Prelude.{IfErr, OnOk}
use Rattle.command_line.specs.Meaning.{file_name}
use Rattle.command_line.specs.Views.{Cost, code_of}
use Rattle.dsm_io.specs.States.{SinkState, FilesState}
use Rattle.views.specs.Failures.{IsFailure, IsSuccess}
use Rattle.views.proofs.cost.show_cost.Goals as goal

pub returns-in-None-clause-ok : goal.returns-in-None-clause-ok
returns-in-None-clause-ok g c =
    let files : FilesState = g.F.Files.state c.args.files.now in
    let before : SinkState = g.O.Sink.state c.args.out.now in
    let now : SinkState = g.O.Sink.state c.show_code_cost.new.out in
    let a = code_of c.args.arguments.now in
    subst (λ r. OnOk c.show_code_cost.result (IsSuccess (Cost a (file_name r)) files before now)) (sym c.in-None.is)
    c.show_code_cost.ensures.ok

pub returns-in-None-clause-failure : goal.returns-in-None-clause-failure
returns-in-None-clause-failure g c =
    let files : FilesState = g.F.Files.state c.args.files.now in
    let files_now : FilesState = g.F.Files.state c.show_code_cost.new.files in
    let before : SinkState = g.O.Sink.state c.args.out.now in
    let now : SinkState = g.O.Sink.state c.show_code_cost.new.out in
    let a = code_of c.args.arguments.now in
    subst (λ r. IfErr c.show_code_cost.result (IsFailure (Cost a (file_name r)) files files_now before now))
    (sym c.in-None.is) c.show_code_cost.ensures.failure

pub returns-in-Some-clause-ok : goal.returns-in-Some-clause-ok
returns-in-Some-clause-ok g c =
    let files : FilesState = g.F.Files.state c.args.files.now in
    let before : SinkState = g.O.Sink.state c.args.out.now in
    let now : SinkState = g.O.Sink.state c.show_run_cost.new.out in
    let a = code_of c.args.arguments.now in
    subst (λ r. OnOk c.show_run_cost.result (IsSuccess (Cost a (file_name r)) files before now)) (sym c.in-Some.is)
    c.show_run_cost.ensures.ok

pub returns-in-Some-clause-failure : goal.returns-in-Some-clause-failure
returns-in-Some-clause-failure g c =
    let files : FilesState = g.F.Files.state c.args.files.now in
    let files_now : FilesState = g.F.Files.state c.show_run_cost.new.files in
    let before : SinkState = g.O.Sink.state c.args.out.now in
    let now : SinkState = g.O.Sink.state c.show_run_cost.new.out in
    let a = code_of c.args.arguments.now in
    subst (λ r. IfErr c.show_run_cost.result (IsFailure (Cost a (file_name r)) files files_now before now))
    (sym c.in-Some.is) c.show_run_cost.ensures.failure
