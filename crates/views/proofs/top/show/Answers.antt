use Rattle.std.proofs.Common.{◌≡◌, ℕ, List, ap, inl, subst}
use Rattle.std.specs.Prelude.{Contains}
use Rattle.command_line.specs.Views.{Gdb, RecordedFiles, meaning_of_view, reads, recorded_of}
use Rattle.byte_source.specs.Sources.{SourceState}
use Rattle.dsm_io.specs.States.{SinkState, FilesState}
use Rattle.text_output.specs.Failures.{status_of}
use Rattle.views.specs.Answers.{AreLeft, IsRefusalStatus}
use Rattle.views.specs.Debugger.{HasShown, IsCutShort, streams}
use Rattle.views.specs.Failures.{AreKept, HasShownRun, IsFailure, IsShowFailure, IsShownFailure, IsSuccess}
use Rattle.views.specs.Headline.{AreTold, AreWritten}
use Rattle.views.specs.Trace.{recorded}
use Rattle.views.proofs.Debugged.{gdb_writes_none, is_other, same_gdb, shown_as_told, shown_cut, shown_fails, shown_longer, shown_succeeds, shown_unheard}
use Rattle.views.proofs.Viewed.{err_as, on_ok_as}
use Rattle.views.proofs.Written.{err_all, nothing_left, nothing_written, ok_all}
use Rattle.views.proofs.top.show.Goals as goal

pub returns-in-Gdb-clause-ok : goal.returns-in-Gdb-clause-ok
returns-in-Gdb-clause-ok g c =
    let files : FilesState = g.F.Files.state c.args.files.now in
    let io = streams (g.S.Source.state c.args.source.now) (g.S.Source.state c.show_run.new.source)
    (g.O.Sink.state c.args.out.now) (g.O.Sink.state c.show_run.new.out) in
    let run = recorded_of c.in-Gdb.run' in
    rw c.in-Gdb.is
    (on_ok_as (HasShownRun run files io) (IsSuccess (Gdb run c.in-Gdb.memory) files io.output io.output_after)
    c.show_run.result (shown_succeeds run c.in-Gdb.memory files io) c.show_run.ensures.ok)

pub returns-in-Gdb-clause-gdb : goal.returns-in-Gdb-clause-gdb
returns-in-Gdb-clause-gdb g c =
    let files : FilesState = g.F.Files.state c.args.files.now in
    let io = streams (g.S.Source.state c.args.source.now) (g.S.Source.state c.show_run.new.source)
    (g.O.Sink.state c.args.out.now) (g.O.Sink.state c.show_run.new.out) in
    let own = recorded_of c.in-Gdb.run' in
    rw c.in-Gdb.is
    (on_ok_as (HasShownRun own files io) ((run : RecordedFiles) (memory : ℕ) (contents : List ℕ → List ℕ)
    → Gdb own c.in-Gdb.memory ≡ Gdb run memory → AreTold (Gdb run memory) files contents
    → HasShown (recorded run contents) io) c.show_run.result
    (λ h run memory contents is told. shown_as_told run memory files io
    (subst (λ r. HasShownRun r files io) (same_gdb own run c.in-Gdb.memory memory is) h) contents told)
    c.show_run.ensures.ok)

pub returns-in-Gdb-clause-failure : goal.returns-in-Gdb-clause-failure
returns-in-Gdb-clause-failure g c =
    let files : FilesState = g.F.Files.state c.args.files.now in
    let files_now : FilesState = g.F.Files.state c.show_run.new.files in
    let io = streams (g.S.Source.state c.args.source.now) (g.S.Source.state c.show_run.new.source)
    (g.O.Sink.state c.args.out.now) (g.O.Sink.state c.show_run.new.out) in
    let run = recorded_of c.in-Gdb.run' in
    rw c.in-Gdb.is
    (err_as (IsShowFailure run files files_now io) (IsShownFailure (Gdb run c.in-Gdb.memory) files files_now io)
    c.show_run.result (shown_fails run c.in-Gdb.memory files files_now io) c.show_run.ensures.failure)

pub returns-in-Gdb-clause-cut_short : goal.returns-in-Gdb-clause-cut_short
returns-in-Gdb-clause-cut_short g c =
    let files : FilesState = g.F.Files.state c.args.files.now in
    let files_now : FilesState = g.F.Files.state c.show_run.new.files in
    let io = streams (g.S.Source.state c.args.source.now) (g.S.Source.state c.show_run.new.source)
    (g.O.Sink.state c.args.out.now) (g.O.Sink.state c.show_run.new.out) in
    let own = recorded_of c.in-Gdb.run' in
    rw c.in-Gdb.is
    (err_as (IsShowFailure own files files_now io) (λ f. (run : RecordedFiles) (memory : ℕ) (contents : List ℕ → List ℕ)
    → Gdb own c.in-Gdb.memory ≡ Gdb run memory → AreTold (Gdb run memory) files contents
    → IsCutShort (recorded run contents) io) c.show_run.result
    (λ f h run memory contents is told. shown_cut run memory files files_now io f
    (subst (λ r. IsShowFailure r files files_now io f) (same_gdb own run c.in-Gdb.memory memory is) h) contents told)
    c.show_run.ensures.failure)

pub returns-in-Gdb-clause-unread : goal.returns-in-Gdb-clause-unread
returns-in-Gdb-clause-unread g c = λ other.
    absurd (other (recorded_of c.in-Gdb.run') c.in-Gdb.memory (ap meaning_of_view c.in-Gdb.is))

pub returns-in-Gdb-clause-unheard : goal.returns-in-Gdb-clause-unheard
returns-in-Gdb-clause-unheard g c =
    let files : FilesState = g.F.Files.state c.args.files.now in
    let files_now : FilesState = g.F.Files.state c.show_run.new.files in
    let io = streams (g.S.Source.state c.args.source.now) (g.S.Source.state c.show_run.new.source)
    (g.O.Sink.state c.args.out.now) (g.O.Sink.state c.show_run.new.out) in
    let run = recorded_of c.in-Gdb.run' in
    err_as (IsShowFailure run files files_now io)
    (λ f. IsRefusalStatus (status_of f) → io.input_after ≡ io.input)
    c.show_run.result (shown_unheard run files files_now io) c.show_run.ensures.failure

pub returns-in-Gdb-clause-longer : goal.returns-in-Gdb-clause-longer
returns-in-Gdb-clause-longer g c = λ name content among is long.
    let files : FilesState = g.F.Files.state c.args.files.now in
    let files_now : FilesState = g.F.Files.state c.show_run.new.files in
    let io = streams (g.S.Source.state c.args.source.now) (g.S.Source.state c.show_run.new.source)
    (g.O.Sink.state c.args.out.now) (g.O.Sink.state c.show_run.new.out) in
    shown_longer (recorded_of c.in-Gdb.run') c.in-Gdb.memory files files_now io c.show_run.result name content
    c.show_run.ensures.ok c.show_run.ensures.failure
    (subst (λ x. Contains (reads (meaning_of_view x)) name) c.in-Gdb.is among) is long

pub returns-in-Gdb-clause-kept : goal.returns-in-Gdb-clause-kept
returns-in-Gdb-clause-kept g c =
    let files : FilesState = g.F.Files.state c.args.files.now in
    let files_now : FilesState = g.F.Files.state c.show_run.new.files in
    err_all (AreKept files files_now) c.show_run.result (λ f status. c.show_run.ensures.contents)

pub returns-in-Gdb-clause-written : goal.returns-in-Gdb-clause-written
returns-in-Gdb-clause-written g c =
    let files : FilesState = g.F.Files.state c.args.files.now in
    let files_now : FilesState = g.F.Files.state c.show_run.new.files in
    let v = Gdb (recorded_of c.in-Gdb.run') c.in-Gdb.memory in
    rw c.in-Gdb.is (ok_all ((contents : List ℕ → List ℕ) → AreTold v files contents
    → AreWritten v contents files_now) c.show_run.result
    (λ contents told. nothing_written v contents files_now
    (gdb_writes_none (recorded_of c.in-Gdb.run') c.in-Gdb.memory)))

pub returns-in-Gdb-clause-left : goal.returns-in-Gdb-clause-left
returns-in-Gdb-clause-left g c =
    let files : FilesState = g.F.Files.state c.args.files.now in
    let files_now : FilesState = g.F.Files.state c.show_run.new.files in
    let v = Gdb (recorded_of c.in-Gdb.run') c.in-Gdb.memory in
    rw c.in-Gdb.is (err_all (λ f. (contents : List ℕ → List ℕ) → AreTold v files contents
    → AreLeft v contents files files_now) c.show_run.result
    (λ f contents told. nothing_left v contents files files_now
    (gdb_writes_none (recorded_of c.in-Gdb.run') c.in-Gdb.memory)))

pub returns-in_default-clause-failure : goal.returns-in_default-clause-failure
returns-in_default-clause-failure g c =
    let files : FilesState = g.F.Files.state c.args.files.now in
    let files_now : FilesState = g.F.Files.state c.answer.new.files in
    let source : SourceState = g.S.Source.state c.args.source.now in
    let before : SinkState = g.O.Sink.state c.args.out.now in
    let now : SinkState = g.O.Sink.state c.answer.new.out in
    let v = meaning_of_view c.args.view.now in
    err_as (IsFailure v files files_now before now)
    (IsShownFailure v files files_now (streams source source before now)) c.answer.result
    (λ f h. inl h) c.answer.ensures.failure

pub answer-requires : goal.answer-requires
answer-requires g c = is_other c.args.view.now c.in_default.not-Gdb

pub returns-in_default-clause-gdb : goal.returns-in_default-clause-gdb
returns-in_default-clause-gdb g c =
    let files : FilesState = g.F.Files.state c.args.files.now in
    let source : SourceState = g.S.Source.state c.args.source.now in
    let io = streams source source (g.O.Sink.state c.args.out.now) (g.O.Sink.state c.answer.new.out) in
    ok_all ((run : RecordedFiles) (memory : ℕ) (contents : List ℕ → List ℕ)
    → meaning_of_view c.args.view.now ≡ Gdb run memory → AreTold (Gdb run memory) files contents
    → HasShown (recorded run contents) io) c.answer.result
    (λ run memory contents is told. absurd (is_other c.args.view.now c.in_default.not-Gdb run memory is))

pub returns-in_default-clause-cut_short : goal.returns-in_default-clause-cut_short
returns-in_default-clause-cut_short g c =
    let files : FilesState = g.F.Files.state c.args.files.now in
    let source : SourceState = g.S.Source.state c.args.source.now in
    let io = streams source source (g.O.Sink.state c.args.out.now) (g.O.Sink.state c.answer.new.out) in
    err_all (λ f. (run : RecordedFiles) (memory : ℕ) (contents : List ℕ → List ℕ)
    → meaning_of_view c.args.view.now ≡ Gdb run memory → AreTold (Gdb run memory) files contents
    → IsCutShort (recorded run contents) io) c.answer.result
    (λ f run memory contents is told. absurd (is_other c.args.view.now c.in_default.not-Gdb run memory is))
