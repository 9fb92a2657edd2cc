-- The view that serves a debugger: how it succeeds, and how it fails.
use Rattle.std.proofs.Common.{◌≡◌, ℕ, ◌<◌, List, [], ◌++◌, length, Option, Some, None, Result, Ok, Err, map, refl, sym, ap, subst, inl, inr, arith, append-nil}
use Rattle.std.specs.Prelude.{Contains, IfErr, MatchResult, OnOk}
use Rattle.command_line.specs.Views.{RecordedFiles, View, Gdb, meaning_of_view, reads, writes}
use Rattle.command_line.specs.declared.view.RecordedFiles.{RecordedFiles as Files}
use Rattle.command_line.specs.declared.view.View.{View as OfCode}
use Rattle.command_line.specs.declared.view.View.TheVariants as asked
use Rattle.dsm_io.specs.Causes.{Appends, Rose}
use Rattle.dsm_io.specs.States.{FilesState, SinkState}
use Rattle.text_output.specs.declared.failure.Failure.{Failure}
use Rattle.text_output.specs.declared.failure.Failure.TheVariants.{Input, NotWritten, Refused, Layout, Record, Text, Output, OutOfMemory}
use Rattle.text_output.specs.Failures.{IsNoRefusal, PutsPrefix, status_of}
use Rattle.text_output.proofs.Pieces.{prefix_of}
use Rattle.judged_files.specs.Failures.{file_limit}
use Rattle.judged_files.specs.Inputs.{Inputs}
use Rattle.prepared_run.specs.Ready.{work_for}
use Rattle.prepared_run.specs.Replays.{IsReplayRefusal, IsWorkOf}
use Rattle.prepared_run.specs.declared.ready.Prepared.{Prepared}
use Rattle.run_record.specs.declared.Record.{Record as Kept}
use Rattle.jump_map.specs.Image.{Cell}
use Rattle.templates.specs.declared.plans.PlanEntry.{PlanEntry}
use Rattle.recorded_run.specs.debugged_run.one_memory.Shown.{pick_of}
use Rattle.recorded_run.specs.debugged_run.one_memory.declared.Pick.{Pick}
use Rattle.recorded_run.specs.record_picks.Picks.{ArePicksOf}
use Rattle.recorded_run.specs.debugged_run.time_machine.Stand.{Run, IsInterleaved}
use Rattle.recorded_run.specs.Shown.{Recorded, shown_from}
use Rattle.recorded_run.specs.Tells.{Does, Moves, Tells}
use Rattle.gdb_server.specs.Ends.{Streams}
use Rattle.gdb_server.specs.Transcripts.{Standing, opening, Serves}
use Rattle.views.specs.Answers.{IsRefusalStatus}
use Rattle.views.specs.Debugger.{HasShown, HasShownPart, HasShownUpTo, IsCutShort, IsSessionText, IsShown, IsUntouched}
use Rattle.views.specs.Failures.{FailsAsRun, FailsAsSession, HasShownRun, IsFailure, IsInputFault, IsShowFailure, IsShownFailure, IsSuccess, IsTextOfSession}
use Rattle.views.specs.Headline.{AreTold}
use Rattle.views.specs.Inputs.{AreInputs, list_of, run_files}
use Rattle.views.specs.Trace.{recorded}
use Rattle.views.proofs.Inputs.{not_long, unread_fails, unread_no_refusal}
use Rattle.views.proofs.Runs.{IsOfRun, run_fails, run_inputs, run_succeeds, with_verified}

-- 1. What the view reads and writes

gdb_with : (run : RecordedFiles) (memory : ℕ) (verified : Option (List ℕ))
    → reads (Gdb (with_verified run verified) memory)
    ≡ list_of (run_files (with_verified run verified))
gdb_with run memory None = refl
gdb_with run memory (Some verified) = refl

gdb_of_run : (run : RecordedFiles) (memory : ℕ) → IsOfRun (Gdb run memory) run IsTextOfSession
gdb_of_run run memory = record {
  reads_are = gdb_with run memory run.verified;
  text = λ contents t s h. h;
  refused = λ contents line h. h;
  laid_out = λ contents line h. h;
  kept = λ contents line h. h;
}

writes_with : (run : RecordedFiles) (memory : ℕ) (verified : Option (List ℕ))
    → writes (Gdb (with_verified run verified) memory) ≡ []
writes_with run memory None = refl
writes_with run memory (Some verified) = refl

pub gdb_writes_none : (run : RecordedFiles) (memory : ℕ) → writes (Gdb run memory) ≡ []
gdb_writes_none run memory = writes_with run memory run.verified

-- no other view has its meaning
abbrev IsOther : View → Type 0
IsOther (Gdb run memory) = ⊥
IsOther v = Unit {0}

pub is_other : (x : OfCode) → ((run : Files) (memory : ℕ) → x ≡ asked.Gdb run memory → ⊥)
    → (run : RecordedFiles) (memory : ℕ) → meaning_of_view x ≡ Gdb run memory → ⊥
is_other asked.Help other run memory is = subst IsOther is tt
is_other (asked.Code a) other run memory is = subst IsOther is tt
is_other (asked.Trace own from to block one) other run memory is = subst IsOther is tt
is_other (asked.Blocks own) other run memory is = subst IsOther is tt
is_other (asked.Page own output from to) other run memory is = subst IsOther is tt
is_other (asked.Time a) other run memory is = subst IsOther is tt
is_other (asked.Cost a r) other run memory is = subst IsOther is tt
is_other (asked.Speedup a output) other run memory is = subst IsOther is tt
is_other (asked.Gdb own most) other run memory is = other own most refl

abbrev run_in : View → (otherwise : RecordedFiles) → RecordedFiles
run_in (Gdb run memory) otherwise = run
run_in v otherwise = otherwise

pub same_gdb : (run other : RecordedFiles) (memory most : ℕ) → Gdb run memory ≡ Gdb other most
    → run ≡ other
same_gdb run other memory most is = ap (λ v. run_in v run) is

-- 2. What was put is a text of the view

transcript : (inputs : Inputs) (first : Recorded) (heard put : List ℕ) (standing : Standing Recorded)
    → IsShown inputs first → Serves shown_from Does Moves Tells (opening first) heard put standing
    → IsSessionText inputs put
transcript inputs first heard put standing shown serves = record {
  first = first;
  shown = shown;
  heard = heard;
  put = put;
  standing = standing;
  serves = serves;
  byte = 0;
  piece = [];
  begins = (0, inl refl);
  text_is = sym (append-nil put);
}

part_put : (inputs : Inputs) (before now : SinkState) (text : List ℕ) → IsSessionText inputs text
    → Appends before.taken now.taken text → PutsPrefix (IsTextOfSession inputs) before now
part_put inputs before now text is put =
    (text, 0, is, prefix_of before.taken now.taken text [] text (sym (append-nil text)) put)

up_to_put : (inputs : Inputs) (io : Streams) → HasShownUpTo inputs io
    → PutsPrefix (IsTextOfSession inputs) io.output io.output_after
up_to_put inputs io h =
    let s = h.stopped in
    part_put inputs io.output io.output_after s.put
    (transcript inputs h.first s.heard s.put s.standing h.shown s.serves) s.was_put

broken_put : (inputs : Inputs) (io : Streams) → HasShownPart inputs io
    → PutsPrefix (IsTextOfSession inputs) io.output io.output_after
broken_put inputs io h =
    let b = h.broken in
    let is : IsSessionText inputs (b.put ++ b.piece) = record {
      first = h.first;
      shown = h.shown;
      heard = b.heard;
      put = b.put;
      standing = b.standing;
      serves = b.serves;
      byte = b.byte;
      piece = b.piece;
      begins = b.begins;
      text_is = refl;
    } in
    part_put inputs io.output io.output_after (b.put ++ b.piece) is b.was_put

-- 3. How the view succeeds

pub shown_as_told : (run : RecordedFiles) (memory : ℕ) (files : FilesState) (io : Streams)
    → HasShownRun run files io → (contents : List ℕ → List ℕ)
    → AreTold (Gdb run memory) files contents → HasShown (recorded run contents) io
shown_as_told run memory files io h contents told =
    subst (λ i. HasShown i io)
    (run_inputs (Gdb run memory) run files h.inputs contents (gdb_of_run run memory).reads_are
    h.are_inputs told) h.shown

pub shown_succeeds : (run : RecordedFiles) (memory : ℕ) (files : FilesState) (io : Streams)
    → HasShownRun run files io → IsSuccess (Gdb run memory) files io.output io.output_after
shown_succeeds run memory files io h =
    let s = h.shown.served in
    run_succeeds (Gdb run memory) run IsTextOfSession (gdb_of_run run memory) files io.output
    io.output_after h.inputs h.are_inputs
    (s.put, transcript h.inputs h.shown.first s.heard s.put s.standing h.shown.shown s.serves, s.was_put)

-- 4. How it fails

taken_same : (io : Streams) → IsUntouched io → io.output_after.taken ≡ io.output.taken
taken_same io h = ap (λ (s : SinkState). s.taken) h.output

-- but for the input, as a view of a recorded run
by_run : (run : RecordedFiles) (memory : ℕ) (files files_now : FilesState) (io : Streams) (inputs : Inputs)
    (f : Failure) → AreInputs files (run_files run) inputs
    → FailsAsRun (IsTextOfSession inputs) inputs io.output io.output_after f
    → IsShownFailure (Gdb run memory) files files_now io f
by_run run memory files files_now io inputs f are h =
    inl (run_fails (Gdb run memory) run IsTextOfSession (gdb_of_run run memory) files files_now io.output
    io.output_after inputs f are h)

session_fails : (run : RecordedFiles) (memory : ℕ) (files files_now : FilesState) (io : Streams) (inputs : Inputs)
    (f : Failure) → AreInputs files (run_files run) inputs → FailsAsSession inputs io f
    → IsShownFailure (Gdb run memory) files files_now io f
session_fails run memory files files_now io inputs (Input line) are h =
    inr (
      (
        h.1,
        λ contents told. subst (λ i. HasShownUpTo i io)
            (run_inputs (Gdb run memory) run files inputs contents (gdb_of_run run memory).reads_are are told) h.2,
      ),
      h.0,
    )
session_fails run memory files files_now io inputs (NotWritten line) are h = absurd h
session_fails run memory files files_now io inputs (Refused line) are h =
    by_run run memory files files_now io inputs (Refused line) are (h.0, taken_same io h.1)
session_fails run memory files files_now io inputs (Layout line) are h =
    by_run run memory files files_now io inputs (Layout line) are (h.0, taken_same io h.1)
session_fails run memory files files_now io inputs (Record line) are h =
    by_run run memory files files_now io inputs (Record line) are (h.0, taken_same io h.1)
session_fails run memory files files_now io inputs (Text line) are h = absurd h
session_fails run memory files files_now io inputs Output are h =
    by_run run memory files files_now io inputs Output are (h.0, broken_put inputs io h.1)
session_fails run memory files files_now io inputs OutOfMemory are h =
    by_run run memory files files_now io inputs OutOfMemory are (elim h [
      | inl untouched ↦ inl (taken_same io untouched)
      | inr (inl up_to) ↦ inr (up_to_put inputs io up_to)
      | inr (inr part) ↦ inr (broken_put inputs io part)
    ])

pub shown_fails : (run : RecordedFiles) (memory : ℕ) (files files_now : FilesState) (io : Streams) (f : Failure)
    → IsShowFailure run files files_now io f → IsShownFailure (Gdb run memory) files files_now io f
shown_fails run memory files files_now io f h = elim h [
  | inl unread ↦ inl (subst (λ s. IsFailure (Gdb run memory) files files_now io.output s f) (sym unread.1.output)
      (unread_fails (Gdb run memory) (run_files run) (gdb_of_run run memory).reads_are files files_now io.output
      f unread.0))
  | inr unshown ↦
      session_fails run memory files files_now io unshown.inputs f unshown.are_inputs unshown.fails
]

session_cut : (inputs : Inputs) (io : Streams) (f : Failure) → FailsAsSession inputs io f
    → IsCutShort inputs io
session_cut inputs io (Input line) h = inr (inl h.2)
session_cut inputs io (NotWritten line) h = absurd h
session_cut inputs io (Refused line) h = inl h.1
session_cut inputs io (Layout line) h = inl h.1
session_cut inputs io (Record line) h = inl h.1
session_cut inputs io (Text line) h = absurd h
session_cut inputs io Output h = inr (inr h.1)
session_cut inputs io OutOfMemory h = h

pub shown_cut : (run : RecordedFiles) (memory : ℕ) (files files_now : FilesState) (io : Streams) (f : Failure)
    → IsShowFailure run files files_now io f → (contents : List ℕ → List ℕ)
    → AreTold (Gdb run memory) files contents → IsCutShort (recorded run contents) io
shown_cut run memory files files_now io f h contents told = elim h [
  | inl unread ↦ inl unread.1
  | inr unshown ↦ subst (λ i. IsCutShort i io)
      (run_inputs (Gdb run memory) run files unshown.inputs contents (gdb_of_run run memory).reads_are
      unshown.are_inputs told) (session_cut unshown.inputs io f unshown.fails)
]

-- a refusal comes before anything is read of the input
session_unheard : (inputs : Inputs) (io : Streams) (f : Failure) → FailsAsSession inputs io f
    → IsRefusalStatus (status_of f) → io.input_after ≡ io.input
session_unheard inputs io (Input line) h status = absurd (omega (arith, status))
session_unheard inputs io (NotWritten line) h status = absurd h
session_unheard inputs io (Refused line) h status = h.1.input
session_unheard inputs io (Layout line) h status = h.1.input
session_unheard inputs io (Record line) h status = h.1.input
session_unheard inputs io (Text line) h status = absurd h
session_unheard inputs io Output h status = absurd (omega (arith, status))
session_unheard inputs io OutOfMemory h status = absurd (omega (arith, status))

pub shown_unheard : (run : RecordedFiles) (files files_now : FilesState) (io : Streams) (f : Failure)
    → IsShowFailure run files files_now io f → IsRefusalStatus (status_of f)
    → io.input_after ≡ io.input
shown_unheard run files files_now io f h status = elim h [
  | inl unread ↦ unread.1.input
  | inr unshown ↦ session_unheard unshown.inputs io f unshown.fails status
]

-- a file that is too long is no refusal
pub shown_longer : {T : Type 0} (run : RecordedFiles) (memory : ℕ) (files files_now : FilesState) (io : Streams)
    (r : Result T Failure) (name content : List ℕ) → OnOk r (HasShownRun run files io)
    → IfErr r (IsShowFailure run files files_now io) → Contains (reads (Gdb run memory)) name
    → files.held name ≡ Some content → file_limit < length content → MatchResult r (λ _. ⊥) IsNoRefusal
shown_longer run memory files files_now io (Ok x) name content ok failure among is long =
    not_long (Gdb run memory) (run_files run) files ok.inputs name content
    (gdb_of_run run memory).reads_are ok.are_inputs among is long
shown_longer run memory files files_now io (Err f) name content ok failure among is long = elim failure [
  | inl unread ↦ unread_no_refusal (run_files run) files files_now f unread.0
  | inr unshown ↦ absurd (not_long (Gdb run memory) (run_files run) files unshown.inputs name content
      (gdb_of_run run memory).reads_are unshown.are_inputs among is long)
]

-- 5. The run that is shown, and a session's own ends

abbrev pub run_of : Prepared → List Pick → Run
run_of prepared picks = record {
  program = prepared.program;
  layout = prepared.layout;
  nodes = prepared.layout.nodes;
  picks = picks;
}

-- what is shown first, by this image and this plan
abbrev pub first_of : Prepared → Kept → List Pick → List Cell → List PlanEntry → Recorded
first_of prepared kept picks image plan = record {
  stand = record { run = run_of prepared picks; position = 0 };
  image = image;
  budget = prepared.budget;
  plan = plan;
  kept = kept;
  behind = None;
}

pub is_shown : (inputs : Inputs) (prepared : Prepared) (kept : Kept) (picks : List Pick)
    (image : List Cell) (plan : List PlanEntry) (s : Recorded)
    → IsWorkOf inputs kept prepared.program prepared.rewritten.plan (work_for prepared)
    → ArePicksOf (work_for prepared) prepared.rewritten.plan kept (map pick_of picks)
    → IsInterleaved (run_of prepared picks)
    → image ≡ prepared.rewritten.image → plan ≡ prepared.rewritten.plan
    → s ≡ first_of prepared kept picks image plan → IsShown inputs s
is_shown inputs prepared kept picks image plan s asked are interleaved image_is plan_is stands =
    let of_image : s ≡ first_of prepared kept picks prepared.rewritten.image plan =
    subst (λ i. s ≡ first_of prepared kept picks i plan) image_is stands in
    let of_plan : s ≡ first_of prepared kept picks prepared.rewritten.image prepared.rewritten.plan =
    subst (λ p. s ≡ first_of prepared kept picks prepared.rewritten.image p) plan_is of_image in
    subst (IsShown inputs) (sym of_plan) (record {
      asked = asked;
      nodes = refl;
      picks = are;
      interleaved = interleaved;
      start = refl;
      fewest = refl;
    })

-- what is refused before the session is of a recorded run
pub refused_session : (inputs : Inputs) (io : Streams) (f : Failure) → IsUntouched io
    → IsReplayRefusal inputs f → FailsAsSession inputs io f
refused_session inputs io (Input line) untouched h = absurd h
refused_session inputs io (NotWritten line) untouched h = absurd h
refused_session inputs io (Refused line) untouched h = (h, untouched)
refused_session inputs io (Layout line) untouched h = (h, untouched)
refused_session inputs io (Record line) untouched h = (h, untouched)
refused_session inputs io (Text line) untouched h = absurd h
refused_session inputs io Output untouched h = absurd h
refused_session inputs io OutOfMemory untouched h = inl untouched

-- the input failed
pub unheard_session : (inputs : Inputs) (io : Streams) (f : Failure) → IsInputFault f
    → Rose io.input.faults io.input_after.faults → HasShownUpTo inputs io → FailsAsSession inputs io f
unheard_session inputs io (Input line) is rose h = (is, rose, h)
unheard_session inputs io (NotWritten line) is rose h = absurd is
unheard_session inputs io (Refused line) is rose h = absurd is
unheard_session inputs io (Layout line) is rose h = absurd is
unheard_session inputs io (Record line) is rose h = absurd is
unheard_session inputs io (Text line) is rose h = absurd is
unheard_session inputs io Output is rose h = absurd is
unheard_session inputs io OutOfMemory is rose h = inr (inl h)
