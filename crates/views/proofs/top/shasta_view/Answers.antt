use Rattle.std.proofs.Common.{◌≡◌, ◌⊎◌, sym, ◌∙◌, subst, inl, inr, rules, arith}
use Rattle.std.specs.Prelude.{Contains}
use Rattle.command_line.specs.Views.{AsksView, Gdb, Time, meaning_of_view, reads}
use Rattle.dsm_io.specs.States.{SinkState, FilesState}
use Rattle.text_output.specs.Answers.{Tells}
use Rattle.text_output.specs.Failures.{line_of, status_of}
use Rattle.gdb_server.specs.Ends.{Streams}
use Rattle.views.specs.Answers.{AreLeft, IsRefusalStatus}
use Rattle.views.specs.Debugger.{streams}
use Rattle.views.specs.Failures.{IsShownFailure, IsSuccess}
use Rattle.views.specs.Headline.{AreTold, AreWritten, usage}
use Rattle.views.proofs.Timed.{prints_time}
use Rattle.views.proofs.Viewed.{asked_as, but_for_source, fault_of, layout_of, line_five, none_as, not_two, not_zero, nothing_of, prefix_of_failure, record_of, refusal_of, shown_failing}
use Rattle.views.proofs.top.shasta_view.Goals as goal

pub returns-in-Ok-None-clause-usage : goal.returns-in-Ok-None-clause-usage
unfolding usage
returns-in-Ok-None-clause-usage g c = λ two.
    let before : SinkState = g.E.Sink.state c.args.err.now in
    let now : SinkState = g.E.Sink.state c.tell.new.err in
    subst (Tells before now) c.as_bytes.ensures.value c.tell.ensures

pub returns-in-Ok-None-clause-longer : goal.returns-in-Ok-None-clause-longer
returns-in-Ok-None-clause-longer g c = λ v name content asks among holds long.
    absurd (none_as c.args.words.now _ (search rules) c.in-Ok-None.ensures.asks v asks)

pub returns-in-Ok-clause-prints : goal.returns-in-Ok-clause-prints
returns-in-Ok-clause-prints g c = λ v contents asks told zero.
    let own = meaning_of_view c.in-Ok-Some.view in
    let same : own ≡ v = c.in-Ok-Some.ensures.only own v
    (asked_as c.args.words.now _ c.in-Ok-Some.view (search rules) c.in-Ok-Some.ensures.asks) asks in
    let before : SinkState = g.O.Sink.state c.args.out.now in
    let now : SinkState = g.O.Sink.state c.show.new.out in
    let files : FilesState = g.F.Files.state c.args.files.now in
    let success : IsSuccess v files before now =
    subst (λ x. IsSuccess x files before now) same c.in-Ok.ensures.ok in
    success contents told

pub returns-in-Ok-clause-longer : goal.returns-in-Ok-clause-longer
returns-in-Ok-clause-longer g c = λ v name content asks among holds long.
    let own = meaning_of_view c.in-Ok-Some.view in
    let same : own ≡ v = c.in-Ok-Some.ensures.only own v
    (asked_as c.args.words.now _ c.in-Ok-Some.view (search rules) c.in-Ok-Some.ensures.asks) asks in
    absurd (c.in-Ok.ensures.longer name content
    (subst (λ x. Contains (reads x) name) (sym same) among) holds long)

pub returns-in-Err-show-clause-refused : goal.returns-in-Err-show-clause-refused
returns-in-Err-show-clause-refused g c = λ v contents asks known four.
    let own = meaning_of_view c.in-Ok-Some.view in
    let same : own ≡ v = c.in-Ok-Some.ensures.only own v
    (asked_as c.args.words.now _ c.in-Ok-Some.view (search rules) c.in-Ok-Some.ensures.asks) asks in
    let before : SinkState = g.O.Sink.state c.args.out.now in
    let now : SinkState = g.O.Sink.state c.show.new.out in
    let files : FilesState = g.F.Files.state c.args.files.now in
    let files_now : FilesState = g.F.Files.state c.show.new.files in
    let io : Streams = streams (g.S.Source.state c.args.source.now) (g.S.Source.state c.show.new.source) before now in
    let shown : IsShownFailure v files files_now io c.in-Err-show.failure =
    subst (λ x. IsShownFailure x files files_now io c.in-Err-show.failure) same c.in-Err-show.ensures.failure in
    let status : status_of c.in-Err-show.failure ≡ 4 = sym c.status.ensures.value ∙ four in
    let failure = but_for_source v files files_now io c.in-Err-show.failure shown (λ three. omega (arith, three, status)) in
    let err_before : SinkState = g.E.Sink.state c.args.err.now in
    let err_now : SinkState = g.E.Sink.state c.tell-in-Err-show.new.err in
    let told : Tells err_before err_now (line_of c.in-Err-show.failure) =
    subst (Tells err_before err_now) c.line.ensures.value c.tell-in-Err-show.ensures in
    refusal_of v files files_now before now c.in-Err-show.failure (Tells err_before err_now) failure told
    status contents known

pub returns-in-Err-show-clause-layout : goal.returns-in-Err-show-clause-layout
returns-in-Err-show-clause-layout g c = λ v contents asks known six.
    let own = meaning_of_view c.in-Ok-Some.view in
    let same : own ≡ v = c.in-Ok-Some.ensures.only own v
    (asked_as c.args.words.now _ c.in-Ok-Some.view (search rules) c.in-Ok-Some.ensures.asks) asks in
    let before : SinkState = g.O.Sink.state c.args.out.now in
    let now : SinkState = g.O.Sink.state c.show.new.out in
    let files : FilesState = g.F.Files.state c.args.files.now in
    let files_now : FilesState = g.F.Files.state c.show.new.files in
    let io : Streams = streams (g.S.Source.state c.args.source.now) (g.S.Source.state c.show.new.source) before now in
    let shown : IsShownFailure v files files_now io c.in-Err-show.failure =
    subst (λ x. IsShownFailure x files files_now io c.in-Err-show.failure) same c.in-Err-show.ensures.failure in
    let status : status_of c.in-Err-show.failure ≡ 6 = sym c.status.ensures.value ∙ six in
    let failure = but_for_source v files files_now io c.in-Err-show.failure shown (λ three. omega (arith, three, status)) in
    let err_before : SinkState = g.E.Sink.state c.args.err.now in
    let err_now : SinkState = g.E.Sink.state c.tell-in-Err-show.new.err in
    let told : Tells err_before err_now (line_of c.in-Err-show.failure) =
    subst (Tells err_before err_now) c.line.ensures.value c.tell-in-Err-show.ensures in
    layout_of v files files_now before now c.in-Err-show.failure (Tells err_before err_now) failure told
    status contents known

pub returns-in-Err-show-clause-record : goal.returns-in-Err-show-clause-record
returns-in-Err-show-clause-record g c = λ v contents asks known seven.
    let own = meaning_of_view c.in-Ok-Some.view in
    let same : own ≡ v = c.in-Ok-Some.ensures.only own v
    (asked_as c.args.words.now _ c.in-Ok-Some.view (search rules) c.in-Ok-Some.ensures.asks) asks in
    let before : SinkState = g.O.Sink.state c.args.out.now in
    let now : SinkState = g.O.Sink.state c.show.new.out in
    let files : FilesState = g.F.Files.state c.args.files.now in
    let files_now : FilesState = g.F.Files.state c.show.new.files in
    let io : Streams = streams (g.S.Source.state c.args.source.now) (g.S.Source.state c.show.new.source) before now in
    let shown : IsShownFailure v files files_now io c.in-Err-show.failure =
    subst (λ x. IsShownFailure x files files_now io c.in-Err-show.failure) same c.in-Err-show.ensures.failure in
    let status : status_of c.in-Err-show.failure ≡ 7 = sym c.status.ensures.value ∙ seven in
    let failure = but_for_source v files files_now io c.in-Err-show.failure shown (λ three. omega (arith, three, status)) in
    let err_before : SinkState = g.E.Sink.state c.args.err.now in
    let err_now : SinkState = g.E.Sink.state c.tell-in-Err-show.new.err in
    let told : Tells err_before err_now (line_of c.in-Err-show.failure) =
    subst (Tells err_before err_now) c.line.ensures.value c.tell-in-Err-show.ensures in
    record_of v files files_now before now c.in-Err-show.failure (Tells err_before err_now) failure told
    status contents known

pub returns-in-Err-show-clause-fault : goal.returns-in-Err-show-clause-fault
returns-in-Err-show-clause-fault g c = λ v asks three.
    let own = meaning_of_view c.in-Ok-Some.view in
    let same : own ≡ v = c.in-Ok-Some.ensures.only own v
    (asked_as c.args.words.now _ c.in-Ok-Some.view (search rules) c.in-Ok-Some.ensures.asks) asks in
    let before : SinkState = g.O.Sink.state c.args.out.now in
    let now : SinkState = g.O.Sink.state c.show.new.out in
    let files : FilesState = g.F.Files.state c.args.files.now in
    let files_now : FilesState = g.F.Files.state c.show.new.files in
    let io : Streams = streams (g.S.Source.state c.args.source.now) (g.S.Source.state c.show.new.source) before now in
    let shown : IsShownFailure v files files_now io c.in-Err-show.failure =
    subst (λ x. IsShownFailure x files files_now io c.in-Err-show.failure) same c.in-Err-show.ensures.failure in
    let err_before : SinkState = g.E.Sink.state c.args.err.now in
    let err_now : SinkState = g.E.Sink.state c.tell-in-Err-show.new.err in
    let told : Tells err_before err_now (line_of c.in-Err-show.failure) =
    subst (Tells err_before err_now) c.line.ensures.value c.tell-in-Err-show.ensures in
    fault_of v files files_now io c.in-Err-show.failure (Tells err_before err_now) shown told
    (sym c.status.ensures.value ∙ three)

pub returns-in-Err-show-clause-longer : goal.returns-in-Err-show-clause-longer
returns-in-Err-show-clause-longer g c = λ v name content asks among holds long.
    let own = meaning_of_view c.in-Ok-Some.view in
    let same : own ≡ v = c.in-Ok-Some.ensures.only own v
    (asked_as c.args.words.now _ c.in-Ok-Some.view (search rules) c.in-Ok-Some.ensures.asks) asks in
    let status = c.status.ensures.value in
    elim (c.in-Err-show.ensures.longer name content
    (subst (λ x. Contains (reads x) name) (sym same) among) holds long) [
      | inl three ↦ inl (status ∙ three)
      | inr five ↦ inr (status ∙ five)
    ]

pub returns-in-Err-show-clause-prefix : goal.returns-in-Err-show-clause-prefix
returns-in-Err-show-clause-prefix g c = λ v contents asks known five.
    let own = meaning_of_view c.in-Ok-Some.view in
    let same : own ≡ v = c.in-Ok-Some.ensures.only own v
    (asked_as c.args.words.now _ c.in-Ok-Some.view (search rules) c.in-Ok-Some.ensures.asks) asks in
    let before : SinkState = g.O.Sink.state c.args.out.now in
    let now : SinkState = g.O.Sink.state c.show.new.out in
    let files : FilesState = g.F.Files.state c.args.files.now in
    let files_now : FilesState = g.F.Files.state c.show.new.files in
    let io : Streams = streams (g.S.Source.state c.args.source.now) (g.S.Source.state c.show.new.source) before now in
    let shown : IsShownFailure v files files_now io c.in-Err-show.failure =
    subst (λ x. IsShownFailure x files files_now io c.in-Err-show.failure) same c.in-Err-show.ensures.failure in
    let status : status_of c.in-Err-show.failure ≡ 5 = sym c.status.ensures.value ∙ five in
    let failure = but_for_source v files files_now io c.in-Err-show.failure shown (λ three. omega (arith, three, status)) in
    prefix_of_failure v files files_now before now c.in-Err-show.failure failure
    status contents known

pub returns-in-Err-show-clause-nothing : goal.returns-in-Err-show-clause-nothing
returns-in-Err-show-clause-nothing g c = λ s.
    let before : SinkState = g.O.Sink.state c.args.out.now in
    let now : SinkState = g.O.Sink.state c.show.new.out in
    let files : FilesState = g.F.Files.state c.args.files.now in
    let files_now : FilesState = g.F.Files.state c.show.new.files in
    let io : Streams = streams (g.S.Source.state c.args.source.now) (g.S.Source.state c.show.new.source) before now in
    let status : (status_of c.in-Err-show.failure ≡ 2) ⊎ IsRefusalStatus (status_of c.in-Err-show.failure) =
    subst (λ n. (n ≡ 2) ⊎ IsRefusalStatus n) c.status.ensures.value s in
    let failure = but_for_source (meaning_of_view c.in-Ok-Some.view) files files_now io c.in-Err-show.failure
    c.in-Err-show.ensures.failure (λ three. omega (arith, three, status)) in
    nothing_of (meaning_of_view c.in-Ok-Some.view) files files_now before now c.in-Err-show.failure
    failure status

pub returns-in-Err-show-clause-wanted : goal.returns-in-Err-show-clause-wanted
returns-in-Err-show-clause-wanted g c = λ five.
    let err_before : SinkState = g.E.Sink.state c.args.err.now in
    let err_now : SinkState = g.E.Sink.state c.tell-in-Err-show.new.err in
    subst (Tells err_before err_now)
    (c.line.ensures.value ∙ line_five c.in-Err-show.failure (sym c.status.ensures.value ∙ five))
    c.tell-in-Err-show.ensures

pub returns-in-Err-show-clause-range : goal.returns-in-Err-show-clause-range
returns-in-Err-show-clause-range g c =
    let before : SinkState = g.O.Sink.state c.args.out.now in
    let now : SinkState = g.O.Sink.state c.show.new.out in
    let files : FilesState = g.F.Files.state c.args.files.now in
    let files_now : FilesState = g.F.Files.state c.show.new.files in
    let io : Streams = streams (g.S.Source.state c.args.source.now) (g.S.Source.state c.show.new.source) before now in
    let status = c.status.ensures.value in
    elim (shown_failing (meaning_of_view c.in-Ok-Some.view) files files_now io c.in-Err-show.failure
    c.in-Err-show.ensures.failure) [
      | inl three ↦ inr (inr (inl (status ∙ three)))
      | inr (inl five) ↦ inr (inr (inr (inl (status ∙ five))))
      | inr (inr refused) ↦ inr (inr (inr (inr (subst IsRefusalStatus (sym status) refused))))
    ]

pub returns-in-Ok-clause-files : goal.returns-in-Ok-clause-files
returns-in-Ok-clause-files g c = λ name none.
    let own = meaning_of_view c.in-Ok-Some.view in
    let asks = asked_as c.args.words.now _ c.in-Ok-Some.view (search rules) c.in-Ok-Some.ensures.asks in
    c.show.ensures.others name (λ among. none own asks among)

pub returns-in-Ok-clause-written : goal.returns-in-Ok-clause-written
returns-in-Ok-clause-written g c = λ v contents asks told zero.
    let own = meaning_of_view c.in-Ok-Some.view in
    let same : own ≡ v = c.in-Ok-Some.ensures.only own v
    (asked_as c.args.words.now _ c.in-Ok-Some.view (search rules) c.in-Ok-Some.ensures.asks) asks in
    let files : FilesState = g.F.Files.state c.args.files.now in
    let files_now : FilesState = g.F.Files.state c.show.new.files in
    subst (λ x. AreWritten x contents files_now) same
    (c.in-Ok.ensures.written contents (subst (λ x. AreTold x files contents) (sym same) told))

pub returns-in-Err-show-clause-files : goal.returns-in-Err-show-clause-files
returns-in-Err-show-clause-files g c = λ name none.
    let own = meaning_of_view c.in-Ok-Some.view in
    let asks = asked_as c.args.words.now _ c.in-Ok-Some.view (search rules) c.in-Ok-Some.ensures.asks in
    c.show.ensures.others name (λ among. none own asks among)

pub returns-in-Err-show-clause-kept : goal.returns-in-Err-show-clause-kept
returns-in-Err-show-clause-kept g c = λ s.
    c.in-Err-show.ensures.kept (not_two c.in-Err-show.failure
    (subst (λ n. (n ≡ 2) ⊎ IsRefusalStatus n) c.status.ensures.value s))

pub returns-in-Err-show-clause-written : goal.returns-in-Err-show-clause-written
returns-in-Err-show-clause-written g c = λ v contents asks told zero.
    absurd (not_zero c.in-Err-show.failure (sym c.status.ensures.value ∙ zero))

pub returns-in-Err-show-clause-left : goal.returns-in-Err-show-clause-left
returns-in-Err-show-clause-left g c = λ v contents asks told s.
    let own = meaning_of_view c.in-Ok-Some.view in
    let same : own ≡ v = c.in-Ok-Some.ensures.only own v
    (asked_as c.args.words.now _ c.in-Ok-Some.view (search rules) c.in-Ok-Some.ensures.asks) asks in
    let files : FilesState = g.F.Files.state c.args.files.now in
    let files_now : FilesState = g.F.Files.state c.show.new.files in
    subst (λ x. AreLeft x contents files files_now) same
    (c.in-Err-show.ensures.left contents (subst (λ x. AreTold x files contents) (sym same) told))

pub returns-in-Ok-clause-time : goal.returns-in-Ok-clause-time
returns-in-Ok-clause-time g c = λ a contents asks told zero.
    prints_time a contents (g.O.Sink.state c.args.out.now) (g.O.Sink.state c.show.new.out)
    (returns-in-Ok-clause-prints g c (Time a) contents asks told zero)

pub returns-in-Err-show-clause-time : goal.returns-in-Err-show-clause-time
returns-in-Err-show-clause-time g c = λ a contents asks told zero.
    absurd (not_zero c.in-Err-show.failure (sym c.status.ensures.value ∙ zero))

pub returns-in-Ok-clause-gdb : goal.returns-in-Ok-clause-gdb
returns-in-Ok-clause-gdb g c = λ run memory contents asks told zero.
    let same : meaning_of_view c.in-Ok-Some.view ≡ Gdb run memory =
    c.in-Ok-Some.ensures.only (meaning_of_view c.in-Ok-Some.view) (Gdb run memory)
    (asked_as c.args.words.now _ c.in-Ok-Some.view (search rules) c.in-Ok-Some.ensures.asks) asks in
    c.in-Ok.ensures.gdb run memory contents same told

pub returns-in-Err-show-clause-cut_short : goal.returns-in-Err-show-clause-cut_short
returns-in-Err-show-clause-cut_short g c = λ run memory contents asks told some.
    let same : meaning_of_view c.in-Ok-Some.view ≡ Gdb run memory =
    c.in-Ok-Some.ensures.only (meaning_of_view c.in-Ok-Some.view) (Gdb run memory)
    (asked_as c.args.words.now _ c.in-Ok-Some.view (search rules) c.in-Ok-Some.ensures.asks) asks in
    c.in-Err-show.ensures.cut_short run memory contents same told

pub returns-in-Ok-clause-unread : goal.returns-in-Ok-clause-unread
returns-in-Ok-clause-unread g c = λ other.
    let asks = asked_as c.args.words.now _ c.in-Ok-Some.view (search rules) c.in-Ok-Some.ensures.asks in
    c.show.ensures.unread (λ run memory is. other run memory (subst (AsksView c.args.words.now) is asks))

pub returns-in-Err-show-clause-gdb : goal.returns-in-Err-show-clause-gdb
returns-in-Err-show-clause-gdb g c = λ run memory contents asks told zero.
    absurd (not_zero c.in-Err-show.failure (sym c.status.ensures.value ∙ zero))

pub returns-in-Err-show-clause-unread : goal.returns-in-Err-show-clause-unread
returns-in-Err-show-clause-unread g c = λ other.
    let asks = asked_as c.args.words.now _ c.in-Ok-Some.view (search rules) c.in-Ok-Some.ensures.asks in
    c.show.ensures.unread (λ run memory is. other run memory (subst (AsksView c.args.words.now) is asks))

pub returns-in-Err-show-clause-unheard : goal.returns-in-Err-show-clause-unheard
returns-in-Err-show-clause-unheard g c = λ s.
    c.in-Err-show.ensures.unheard (not_two c.in-Err-show.failure
    (subst (λ n. (n ≡ 2) ⊎ IsRefusalStatus n) c.status.ensures.value s))
