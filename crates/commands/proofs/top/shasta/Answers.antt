use Rattle.std.proofs.Common.{◌≡◌, ℕ, List, sym, ◌∙◌, subst, inl, inr, rules}
use Rattle.std.specs.Prelude.{Contains}
use Rattle.command_line.specs.Commands.{as_command, reads}
use Rattle.command_line.specs.Meaning.{meaning_of}
use Rattle.dsm_io.specs.States.{SinkState, FilesState}
use Rattle.text_output.specs.Answers.{Tells}
use Rattle.commands.specs.Answers.{AreLeft, AreWritten}
use Rattle.commands.specs.Failures.{IsFailure, IsSuccess}
use Rattle.text_output.specs.Failures.{line_of}
use Rattle.commands.specs.Inputs.{AreTold, inputs_of}
use Rattle.commands.specs.Text.{usage}
use Rattle.commands.proofs.AnswerLemmas.{fault_of, refusal_of, layout_refusal_of, record_refusal_of, text_refusal_of, prefix_of_failure, asked_as, none_as}
use Rattle.commands.proofs.InterleavedLemmas.{asks_as, prints_original, told_as}
use Rattle.commands.proofs.top.shasta.Goals as goal

pub returns-in-Ok-None-clause-usage : goal.returns-in-Ok-None-clause-usage
unfolding usage
returns-in-Ok-None-clause-usage g c = λ two.
    let before : SinkState = g.E.Sink.state c.args.err.now in
    let now : SinkState = g.E.Sink.state c.tell.new.err in
    subst (Tells before now) c.as_bytes.ensures.value c.tell.ensures

pub returns-in-Ok-None-clause-longer : goal.returns-in-Ok-None-clause-longer
returns-in-Ok-None-clause-longer g c = λ d name content asks among holds long.
    absurd (none_as c.args.words.now _ (search rules) c.in-Ok-None.ensures.asks d asks)

pub returns-in-Ok-clause-prints : goal.returns-in-Ok-clause-prints
returns-in-Ok-clause-prints g c = λ d contents asks told low.
    let cmd = meaning_of c.in-Ok-Some.command in
    let same : cmd ≡ d = c.in-Ok-Some.ensures.only cmd d
    (asked_as c.args.words.now _ c.in-Ok-Some.command (search rules) c.in-Ok-Some.ensures.asks) asks in
    let before : SinkState = g.O.Sink.state c.args.out.now in
    let now : SinkState = g.O.Sink.state c.answer.new.out in
    let files : FilesState = g.F.Files.state c.args.files.now in
    let files_now : FilesState = g.F.Files.state c.answer.new.files in
    let success : IsSuccess d files files_now before now c.in-Ok.status =
    subst (λ x. IsSuccess x files files_now before now c.in-Ok.status) same c.in-Ok.ensures.ok in
    success.prints contents told

pub returns-in-Ok-clause-interleaved : goal.returns-in-Ok-clause-interleaved
returns-in-Ok-clause-interleaved g c = λ p contents asks told low.
    prints_original p contents (g.F.Files.state c.answer.new.files) (g.O.Sink.state c.args.out.now)
    (g.O.Sink.state c.answer.new.out) c.in-Ok.status
    (returns-in-Ok-clause-prints g c (as_command p) contents (asks_as c.args.words.now p asks)
    (told_as p (g.F.Files.state c.args.files.now) contents told) low)

pub returns-in-Ok-clause-longer : goal.returns-in-Ok-clause-longer
returns-in-Ok-clause-longer g c = λ d name content asks among holds long.
    let cmd = meaning_of c.in-Ok-Some.command in
    let same : cmd ≡ d = c.in-Ok-Some.ensures.only cmd d
    (asked_as c.args.words.now _ c.in-Ok-Some.command (search rules) c.in-Ok-Some.ensures.asks) asks in
    absurd (c.in-Ok.ensures.longer name content
    (subst (λ x. Contains (reads x) name) (sym same) among) holds long)

pub returns-in-Err-answer-clause-refused : goal.returns-in-Err-answer-clause-refused
returns-in-Err-answer-clause-refused g c = λ d contents asks known four.
    let cmd = meaning_of c.in-Ok-Some.command in
    let same : cmd ≡ d = c.in-Ok-Some.ensures.only cmd d
    (asked_as c.args.words.now _ c.in-Ok-Some.command (search rules) c.in-Ok-Some.ensures.asks) asks in
    let before : SinkState = g.O.Sink.state c.args.out.now in
    let now : SinkState = g.O.Sink.state c.answer.new.out in
    let files : FilesState = g.F.Files.state c.args.files.now in
    let files_now : FilesState = g.F.Files.state c.answer.new.files in
    let failure : IsFailure d files files_now before now c.in-Err-answer.failure =
    subst (λ x. IsFailure x files files_now before now c.in-Err-answer.failure) same c.in-Err-answer.ensures.failure in
    let err_before : SinkState = g.E.Sink.state c.args.err.now in
    let err_now : SinkState = g.E.Sink.state c.tell-in-Err-answer.new.err in
    let told : Tells err_before err_now (line_of c.in-Err-answer.failure) =
    subst (Tells err_before err_now) c.line.ensures.value c.tell-in-Err-answer.ensures in
    refusal_of d files files_now before now c.in-Err-answer.failure (Tells err_before err_now) failure told
    (sym c.status.ensures.value ∙ four) contents known

pub returns-in-Err-answer-clause-layout : goal.returns-in-Err-answer-clause-layout
returns-in-Err-answer-clause-layout g c = λ d contents asks known six.
    let cmd = meaning_of c.in-Ok-Some.command in
    let same : cmd ≡ d = c.in-Ok-Some.ensures.only cmd d
    (asked_as c.args.words.now _ c.in-Ok-Some.command (search rules) c.in-Ok-Some.ensures.asks) asks in
    let before : SinkState = g.O.Sink.state c.args.out.now in
    let now : SinkState = g.O.Sink.state c.answer.new.out in
    let files : FilesState = g.F.Files.state c.args.files.now in
    let files_now : FilesState = g.F.Files.state c.answer.new.files in
    let failure : IsFailure d files files_now before now c.in-Err-answer.failure =
    subst (λ x. IsFailure x files files_now before now c.in-Err-answer.failure) same c.in-Err-answer.ensures.failure in
    let err_before : SinkState = g.E.Sink.state c.args.err.now in
    let err_now : SinkState = g.E.Sink.state c.tell-in-Err-answer.new.err in
    let told : Tells err_before err_now (line_of c.in-Err-answer.failure) =
    subst (Tells err_before err_now) c.line.ensures.value c.tell-in-Err-answer.ensures in
    layout_refusal_of d files files_now before now c.in-Err-answer.failure (Tells err_before err_now) failure told
    (sym c.status.ensures.value ∙ six) contents known

pub returns-in-Err-answer-clause-record : goal.returns-in-Err-answer-clause-record
returns-in-Err-answer-clause-record g c = λ d contents asks known seven.
    let cmd = meaning_of c.in-Ok-Some.command in
    let same : cmd ≡ d = c.in-Ok-Some.ensures.only cmd d
    (asked_as c.args.words.now _ c.in-Ok-Some.command (search rules) c.in-Ok-Some.ensures.asks) asks in
    let before : SinkState = g.O.Sink.state c.args.out.now in
    let now : SinkState = g.O.Sink.state c.answer.new.out in
    let files : FilesState = g.F.Files.state c.args.files.now in
    let files_now : FilesState = g.F.Files.state c.answer.new.files in
    let failure : IsFailure d files files_now before now c.in-Err-answer.failure =
    subst (λ x. IsFailure x files files_now before now c.in-Err-answer.failure) same c.in-Err-answer.ensures.failure in
    let err_before : SinkState = g.E.Sink.state c.args.err.now in
    let err_now : SinkState = g.E.Sink.state c.tell-in-Err-answer.new.err in
    let told : Tells err_before err_now (line_of c.in-Err-answer.failure) =
    subst (Tells err_before err_now) c.line.ensures.value c.tell-in-Err-answer.ensures in
    record_refusal_of d files files_now before now c.in-Err-answer.failure (Tells err_before err_now) failure told
    (sym c.status.ensures.value ∙ seven) contents known

pub returns-in-Err-answer-clause-text : goal.returns-in-Err-answer-clause-text
returns-in-Err-answer-clause-text g c = λ d contents asks known eight.
    let cmd = meaning_of c.in-Ok-Some.command in
    let same : cmd ≡ d = c.in-Ok-Some.ensures.only cmd d
    (asked_as c.args.words.now _ c.in-Ok-Some.command (search rules) c.in-Ok-Some.ensures.asks) asks in
    let before : SinkState = g.O.Sink.state c.args.out.now in
    let now : SinkState = g.O.Sink.state c.answer.new.out in
    let files : FilesState = g.F.Files.state c.args.files.now in
    let files_now : FilesState = g.F.Files.state c.answer.new.files in
    let failure : IsFailure d files files_now before now c.in-Err-answer.failure =
    subst (λ x. IsFailure x files files_now before now c.in-Err-answer.failure) same c.in-Err-answer.ensures.failure in
    let err_before : SinkState = g.E.Sink.state c.args.err.now in
    let err_now : SinkState = g.E.Sink.state c.tell-in-Err-answer.new.err in
    let told : Tells err_before err_now (line_of c.in-Err-answer.failure) =
    subst (Tells err_before err_now) c.line.ensures.value c.tell-in-Err-answer.ensures in
    text_refusal_of d files files_now before now c.in-Err-answer.failure (Tells err_before err_now) failure told
    (sym c.status.ensures.value ∙ eight) contents known

pub returns-in-Err-answer-clause-fault : goal.returns-in-Err-answer-clause-fault
returns-in-Err-answer-clause-fault g c = λ d asks three.
    let cmd = meaning_of c.in-Ok-Some.command in
    let same : cmd ≡ d = c.in-Ok-Some.ensures.only cmd d
    (asked_as c.args.words.now _ c.in-Ok-Some.command (search rules) c.in-Ok-Some.ensures.asks) asks in
    let before : SinkState = g.O.Sink.state c.args.out.now in
    let now : SinkState = g.O.Sink.state c.answer.new.out in
    let files : FilesState = g.F.Files.state c.args.files.now in
    let files_now : FilesState = g.F.Files.state c.answer.new.files in
    let failure : IsFailure d files files_now before now c.in-Err-answer.failure =
    subst (λ x. IsFailure x files files_now before now c.in-Err-answer.failure) same c.in-Err-answer.ensures.failure in
    let err_before : SinkState = g.E.Sink.state c.args.err.now in
    let err_now : SinkState = g.E.Sink.state c.tell-in-Err-answer.new.err in
    let told : Tells err_before err_now (line_of c.in-Err-answer.failure) =
    subst (Tells err_before err_now) c.line.ensures.value c.tell-in-Err-answer.ensures in
    fault_of d files files_now before now c.in-Err-answer.failure (Tells err_before err_now) failure told
    (sym c.status.ensures.value ∙ three)

pub returns-in-Err-answer-clause-longer : goal.returns-in-Err-answer-clause-longer
returns-in-Err-answer-clause-longer g c = λ d name content asks among holds long.
    let cmd = meaning_of c.in-Ok-Some.command in
    let same : cmd ≡ d = c.in-Ok-Some.ensures.only cmd d
    (asked_as c.args.words.now _ c.in-Ok-Some.command (search rules) c.in-Ok-Some.ensures.asks) asks in
    let status = c.status.ensures.value in
    elim (c.in-Err-answer.ensures.longer name content
    (subst (λ x. Contains (reads x) name) (sym same) among) holds long) [
      | inl three ↦ inl (status ∙ three)
      | inr five ↦ inr (status ∙ five)
    ]

pub returns-in-Err-answer-clause-prefix : goal.returns-in-Err-answer-clause-prefix
returns-in-Err-answer-clause-prefix g c = λ d contents asks known five.
    let cmd = meaning_of c.in-Ok-Some.command in
    let same : cmd ≡ d = c.in-Ok-Some.ensures.only cmd d
    (asked_as c.args.words.now _ c.in-Ok-Some.command (search rules) c.in-Ok-Some.ensures.asks) asks in
    let before : SinkState = g.O.Sink.state c.args.out.now in
    let now : SinkState = g.O.Sink.state c.answer.new.out in
    let files : FilesState = g.F.Files.state c.args.files.now in
    let files_now : FilesState = g.F.Files.state c.answer.new.files in
    let failure : IsFailure d files files_now before now c.in-Err-answer.failure =
    subst (λ x. IsFailure x files files_now before now c.in-Err-answer.failure) same c.in-Err-answer.ensures.failure in
    prefix_of_failure d files files_now before now c.in-Err-answer.failure failure
    (sym c.status.ensures.value ∙ five) contents known

pub returns-in-Ok-clause-written : goal.returns-in-Ok-clause-written
returns-in-Ok-clause-written g c = λ d contents asks told low.
    let cmd = meaning_of c.in-Ok-Some.command in
    let same : cmd ≡ d = c.in-Ok-Some.ensures.only cmd d
    (asked_as c.args.words.now _ c.in-Ok-Some.command (search rules) c.in-Ok-Some.ensures.asks) asks in
    let files : FilesState = g.F.Files.state c.args.files.now in
    let files_now : FilesState = g.F.Files.state c.answer.new.files in
    subst (λ x. (k : List ℕ → List ℕ) → AreTold x files k → AreWritten x (inputs_of x k) files_now) same
    c.in-Ok.ensures.written contents told

pub returns-in-Err-answer-clause-left : goal.returns-in-Err-answer-clause-left
returns-in-Err-answer-clause-left g c = λ d contents asks told failed.
    let cmd = meaning_of c.in-Ok-Some.command in
    let same : cmd ≡ d = c.in-Ok-Some.ensures.only cmd d
    (asked_as c.args.words.now _ c.in-Ok-Some.command (search rules) c.in-Ok-Some.ensures.asks) asks in
    let files : FilesState = g.F.Files.state c.args.files.now in
    let files_now : FilesState = g.F.Files.state c.answer.new.files in
    subst (λ x. (k : List ℕ → List ℕ) → AreTold x files k → AreLeft x (inputs_of x k) files files_now) same
    c.in-Err-answer.ensures.left contents told

pub answer-requires : goal.answer-requires
answer-requires g c =
    let asks = asked_as c.args.words.now _ c.in-Ok-Some.command (search rules) c.in-Ok-Some.ensures.asks in
    (search rules, (search rules, asks.fits))
