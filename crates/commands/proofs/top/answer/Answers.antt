use Rattle.std.proofs.Common.{ℕ, List, sym, subst}
use Rattle.command_line.specs.Meaning.{meaning_of}
use Rattle.dsm_io.specs.States.{SinkState, FilesState}
use Rattle.commands.specs.Answers.{AreLeft, AreWritten}
use Rattle.commands.specs.Headline.{IsText}
use Rattle.commands.specs.Inputs.{AreTold, inputs_of}
use Rattle.judged_files.specs.Given.{bytes_of}
use Rattle.text_output.specs.Failures.{Puts}
use Rattle.commands.specs.Failures.{IsSuccess, IsFailure, IsPerformFailure, AreInputs, AreKept}
use Rattle.commands.proofs.AnswerLemmas.{ok_as, err_as, succeeds, fails_with, left_before, kept_before}
use Rattle.commands.proofs.top.answer.Goals as goal

pub returns-clause-ok : goal.returns-clause-ok
returns-clause-ok g c =
    let before : SinkState = g.O.Sink.state c.args.out.now in
    let now : SinkState = g.O.Sink.state c.perform.new.out in
    let files : FilesState = g.F.Files.state c.args.files.now in
    let files_now : FilesState = g.F.Files.state c.perform.new.files in
    let cmd = meaning_of c.args.command.now in
    let bytes = bytes_of c.lend.result in
    let read : AreInputs cmd files bytes =
    subst (AreInputs cmd files) (sym c.lend.ensures.value) c.in_ok-inputs.ensures.ok in
    ok_as (λ status. Puts (IsText cmd files_now bytes) status before now)
    (IsSuccess cmd files files_now before now) c.perform.result
    (λ status put. succeeds cmd files files_now before now bytes status read put)
    c.perform.ensures.ok

pub returns-clause-failure : goal.returns-clause-failure
returns-clause-failure g c =
    let before : SinkState = g.O.Sink.state c.args.out.now in
    let now : SinkState = g.O.Sink.state c.perform.new.out in
    let files : FilesState = g.F.Files.state c.args.files.now in
    let files_read : FilesState = g.F.Files.state c.read_inputs.new.files in
    let files_now : FilesState = g.F.Files.state c.perform.new.files in
    let cmd = meaning_of c.args.command.now in
    let bytes = bytes_of c.lend.result in
    let read : AreInputs cmd files bytes =
    subst (AreInputs cmd files) (sym c.lend.ensures.value) c.in_ok-inputs.ensures.ok in
    err_as (IsPerformFailure cmd bytes files_read files_now before now)
    (IsFailure cmd files files_now before now) c.perform.result
    (λ f h. fails_with cmd files files_read files_now before now bytes f read c.in_ok-inputs.ensures.writes h)
    c.perform.ensures.failure

pub returns-clause-kept : goal.returns-clause-kept
returns-clause-kept g c =
    let files : FilesState = g.F.Files.state c.args.files.now in
    let files_read : FilesState = g.F.Files.state c.read_inputs.new.files in
    let files_now : FilesState = g.F.Files.state c.perform.new.files in
    let cmd = meaning_of c.args.command.now in
    let bytes = bytes_of c.lend.result in
    let read : AreInputs cmd files bytes =
    subst (AreInputs cmd files) (sym c.lend.ensures.value) c.in_ok-inputs.ensures.ok in
    err_as (AreKept files_read files_now) (AreKept files files_now) c.perform.result
    (λ f h. kept_before files files_read files_now f c.in_ok-inputs.ensures.contents h)
    c.perform.ensures.kept

pub returns-clause-written : goal.returns-clause-written
returns-clause-written g c =
    let files : FilesState = g.F.Files.state c.args.files.now in
    let files_read : FilesState = g.F.Files.state c.read_inputs.new.files in
    let files_now : FilesState = g.F.Files.state c.perform.new.files in
    let cmd = meaning_of c.args.command.now in
    let bytes = bytes_of c.lend.result in
    let read : AreInputs cmd files bytes =
    subst (AreInputs cmd files) (sym c.lend.ensures.value) c.in_ok-inputs.ensures.ok in
    ok_as (λ status. AreWritten cmd bytes files_now)
    (λ status. (contents : List ℕ → List ℕ) → AreTold cmd files contents
    → AreWritten cmd (inputs_of cmd contents) files_now) c.perform.result
    (λ status h contents told. subst (λ i. AreWritten cmd i files_now) (read contents told) h)
    c.perform.ensures.written

pub returns-clause-left : goal.returns-clause-left
returns-clause-left g c =
    let files : FilesState = g.F.Files.state c.args.files.now in
    let files_read : FilesState = g.F.Files.state c.read_inputs.new.files in
    let files_now : FilesState = g.F.Files.state c.perform.new.files in
    let cmd = meaning_of c.args.command.now in
    let bytes = bytes_of c.lend.result in
    let read : AreInputs cmd files bytes =
    subst (AreInputs cmd files) (sym c.lend.ensures.value) c.in_ok-inputs.ensures.ok in
    err_as (λ f. AreLeft cmd bytes files_read files_now)
    (λ f. (contents : List ℕ → List ℕ) → AreTold cmd files contents
    → AreLeft cmd (inputs_of cmd contents) files files_now) c.perform.result
    (λ f h contents told. left_before cmd (inputs_of cmd contents) files files_read files_now
    c.in_ok-inputs.ensures.contents c.in_ok-inputs.ensures.writes
    (subst (λ i. AreLeft cmd i files_read files_now) (read contents told) h)) c.perform.ensures.left

pub returns-clause-longer : goal.returns-clause-longer
returns-clause-longer g c = λ name content among holds long.
    absurd (c.in_ok-inputs.ensures.longer name content among holds long)
