-- The view `speedup`: how it succeeds and fails, and what its file holds.
use Rattle.std.proofs.Common.{◌≡◌, ◌⊎◌, ℕ, ◌<◌, ◌≤◌, List, [], ◌∷◌, length, Option, Some, None, Result, Ok, Err, refl, sym, subst, inl, inr, arith}
use Rattle.std.specs.Prelude.{Contains, IfErr, IfSome, MatchResult, OnOk}
use Rattle.command_line.specs.Views.{TimeArguments, Speedup, reads, writes}
use Rattle.dsm_io.specs.Causes.{Rose}
use Rattle.dsm_io.specs.States.{FilesState, SinkState}
use Rattle.text_output.specs.declared.failure.Failure.{Failure}
use Rattle.text_output.specs.declared.failure.Failure.TheVariants.{Input, NotWritten, Refused, Layout, Record, Text, Output, OutOfMemory}
use Rattle.text_output.specs.Failures.{IsNoRefusal, IsWriteFailure, status_of}
use Rattle.text_output.proofs.Pieces.{nothing_put}
use Rattle.judged_files.specs.Failures.{file_limit}
use Rattle.judged_files.specs.Inputs.{Inputs}
use Rattle.judged_files.specs.Refusals.{IsRunRefused}
use Rattle.views.specs.Answers.{AreLeft}
use Rattle.views.specs.Failures.{AreKept, AreSame, IsFailure, IsSuccess}
use Rattle.views.specs.Headline.{AreTold, AreWritten, IsWritten}
use Rattle.views.specs.Inputs.{AreInputs, list_of, time_files}
use Rattle.views.specs.Speedup.{IsBadLayoutOf, IsSpeedupPage, counts_to}
use Rattle.views.specs.SpeedupEnds.{IsSpeedupFailure, IsSpeedupRefused, IsSpeedupUnwritten, IsSpeedupWritten}
use Rattle.views.specs.Time.{timed}
use Rattle.views.proofs.Inputs.{inputs_are, not_long, only_of, unread_fails, unread_no_refusal}
use Rattle.views.proofs.Written.{held_is, no_both, write_before}

-- 1. What is read and written

reads_with : (a : TimeArguments) (output : List ℕ) (verified layout : Option (List ℕ))
    → reads (Speedup (record a { verified = verified; layout = layout }) output)
    ≡ list_of (time_files (record a { verified = verified; layout = layout }))
reads_with a output None None = refl
reads_with a output None (Some layout) = refl
reads_with a output (Some verified) None = refl
reads_with a output (Some verified) (Some layout) = refl

pub speedup_reads : (a : TimeArguments) (output : List ℕ)
    → reads (Speedup a output) ≡ list_of (time_files a)
speedup_reads a output = reads_with a output a.verified a.layout

writes_with : (a : TimeArguments) (output : List ℕ) (verified layout : Option (List ℕ))
    → writes (Speedup (record a { verified = verified; layout = layout }) output) ≡ output ∷ []
writes_with a output None None = refl
writes_with a output None (Some layout) = refl
writes_with a output (Some verified) None = refl
writes_with a output (Some verified) (Some layout) = refl

speedup_writes : (a : TimeArguments) (output : List ℕ) → writes (Speedup a output) ≡ output ∷ []
speedup_writes a output = writes_with a output a.verified a.layout

written_only : (a : TimeArguments) (output name : List ℕ)
    → Contains (writes (Speedup a output)) name → name ≡ output
written_only a output name h =
    only_of output name (subst (λ ns. Contains ns name) (speedup_writes a output) h)

pub is_written : (a : TimeArguments) (output : List ℕ) → Contains (writes (Speedup a output)) output
is_written a output =
    subst (λ ns. Contains ns output) (sym (speedup_writes a output)) (0, omega arith, refl)

files_are : (a : TimeArguments) (output : List ℕ) (files : FilesState) (i : Inputs)
    (contents : List ℕ → List ℕ) → AreInputs files (time_files a) i
    → AreTold (Speedup a output) files contents → i ≡ timed a contents
files_are a output files i contents h told =
    inputs_are (Speedup a output) (time_files a) files i contents (speedup_reads a output) h told

-- 2. How the view succeeds, and how it fails

pub speedup_succeeds : (a : TimeArguments) (output : List ℕ) (files : FilesState)
    (state : SinkState) → IsSuccess (Speedup a output) files state state
speedup_succeeds a output files state = λ contents told.
    record { text = []; is = refl; put = nothing_put state.taken }

-- the page is of the files that are told
page_told : (a : TimeArguments) (output : List ℕ) (before : FilesState) (inputs : Inputs)
    (contents : List ℕ → List ℕ) (bytes : List ℕ) → AreInputs before (time_files a) inputs
    → AreTold (Speedup a output) before contents → IsSpeedupPage inputs a bytes
    → IsWritten (Speedup a output) contents bytes
page_told a output before inputs contents bytes are told is =
    subst (λ i. IsSpeedupPage i a bytes) (files_are a output before inputs contents are told) is

held_page : (a : TimeArguments) (output : List ℕ) (before : FilesState) (inputs : Inputs)
    (contents : List ℕ → List ℕ) (held : Option (List ℕ)) → AreInputs before (time_files a) inputs
    → AreTold (Speedup a output) before contents → IfSome held (IsSpeedupPage inputs a)
    → IfSome held (IsWritten (Speedup a output) contents)
held_page a output before inputs contents None are told h = h
held_page a output before inputs contents (Some bytes) are told h =
    page_told a output before inputs contents bytes are told h

pub speedup_written : (a : TimeArguments) (output : List ℕ) (before now : FilesState)
    → IsSpeedupWritten a output before now → (contents : List ℕ → List ℕ)
    → AreTold (Speedup a output) before contents → AreWritten (Speedup a output) contents now
speedup_written a output before now h contents told = λ name among.
    subst (λ n. IfSome (now.held n) (IsWritten (Speedup a output) contents))
    (sym (written_only a output name among))
    (held_page a output before h.inputs contents (now.held output) h.are_inputs told h.written)

unwritten_fails : (a : TimeArguments) (output : List ℕ) (before now : FilesState)
    (state : SinkState) (f : Failure) → IsSpeedupUnwritten a output before now f
    → IsFailure (Speedup a output) before now state state f
unwritten_fails a output before now state (Input line) h = absurd h.failure
unwritten_fails a output before now state (NotWritten line) h = (
  refl,
  (
    λ contents told. (
      h.page,
      page_told a output before h.inputs contents h.page h.are_inputs told h.is_page,
    ),
    (output, is_written a output, h.failure.0, h.failure.1),
  ),
)
unwritten_fails a output before now state (Refused line) h = absurd h.failure
unwritten_fails a output before now state (Layout line) h = absurd h.failure
unwritten_fails a output before now state (Record line) h = absurd h.failure
unwritten_fails a output before now state (Text line) h = absurd h.failure
unwritten_fails a output before now state Output h = absurd h.failure
unwritten_fails a output before now state OutOfMemory h = λ contents told. inl refl

refused_fails : (a : TimeArguments) (output : List ℕ) (before now : FilesState)
    (state : SinkState) (f : Failure) → IsSpeedupRefused a before f
    → IsFailure (Speedup a output) before now state state f
refused_fails a output before now state (Input line) h = absurd h.refusal
refused_fails a output before now state (NotWritten line) h = absurd h.refusal
refused_fails a output before now state (Refused line) h = (
  refl,
  λ contents told. subst (λ i. IsRunRefused i line.items)
      (files_are a output before h.inputs contents h.are_inputs told) h.refusal,
)
refused_fails a output before now state (Layout line) h = (
  refl,
  λ contents told. subst (λ i. IsBadLayoutOf i (counts_to a.nodes) line.items)
      (files_are a output before h.inputs contents h.are_inputs told) h.refusal,
)
refused_fails a output before now state (Record line) h = absurd h.refusal
refused_fails a output before now state (Text line) h = absurd h.refusal
refused_fails a output before now state Output h = absurd h.refusal
refused_fails a output before now state OutOfMemory h = λ contents told. inl refl

pub speedup_fails : (a : TimeArguments) (output : List ℕ) (before now : FilesState)
    (state : SinkState) (f : Failure) → IsSpeedupFailure a output before now f
    → IsFailure (Speedup a output) before now state state f
speedup_fails a output before now state f h = elim h [
  | inl same ↦ elim same.1 [
    | inl unread ↦ unread_fails (Speedup a output) (time_files a) (speedup_reads a output) before
        now state f unread
    | inr refused ↦ refused_fails a output before now state f refused
  ]
  | inr unwritten ↦ unwritten_fails a output before now state f unwritten
]

-- 3. What the file holds where the view fails

-- no refusal is of a file that isn't written
unwritten_status : (a : TimeArguments) (output : List ℕ) (before now : FilesState) (f : Failure)
    → IsSpeedupUnwritten a output before now f → IsNoRefusal f
unwritten_status a output before now (Input line) h = absurd h.failure
unwritten_status a output before now (NotWritten line) h = inl refl
unwritten_status a output before now (Refused line) h = absurd h.failure
unwritten_status a output before now (Layout line) h = absurd h.failure
unwritten_status a output before now (Record line) h = absurd h.failure
unwritten_status a output before now (Text line) h = absurd h.failure
unwritten_status a output before now Output h = absurd h.failure
unwritten_status a output before now OutOfMemory h = inr refl

pub speedup_kept : (a : TimeArguments) (output : List ℕ) (before now : FilesState) (f : Failure)
    → IsSpeedupFailure a output before now f → AreKept before now f
speedup_kept a output before now f h = λ status name. elim h [
  | inl same ↦ same.0 name
  | inr unwritten ↦ absurd (no_both (status_of f)
      (unwritten_status a output before now f unwritten) status)
]

-- a file that isn't written holds what it held, or its write failed
unwritten_left : (a : TimeArguments) (output : List ℕ) (before now : FilesState) (f : Failure)
    → IsSpeedupUnwritten a output before now f → (now.held output ≡ before.held output)
    ⊎ Rose (before.failed_writes output) (now.failed_writes output)
unwritten_left a output before now (Input line) h = absurd h.failure
unwritten_left a output before now (NotWritten line) h = inr h.failure.0
unwritten_left a output before now (Refused line) h = absurd h.failure
unwritten_left a output before now (Layout line) h = absurd h.failure
unwritten_left a output before now (Record line) h = absurd h.failure
unwritten_left a output before now (Text line) h = absurd h.failure
unwritten_left a output before now Output h = absurd h.failure
unwritten_left a output before now OutOfMemory h = h.failure

abbrev IsLeftAt : TimeArguments → (output : List ℕ) → (List ℕ → List ℕ)
    → (before now : FilesState) → List ℕ → Type 0
IsLeftAt a output contents before now name =
    (now.held name ≡ before.held name)
    ⊎ (IfSome (now.held name) (IsWritten (Speedup a output) contents)
    ⊎ Rose (before.failed_writes name) (now.failed_writes name))

pub speedup_left : (a : TimeArguments) (output : List ℕ) (before now : FilesState) (f : Failure)
    → IsSpeedupFailure a output before now f → (contents : List ℕ → List ℕ)
    → AreLeft (Speedup a output) contents before now
speedup_left a output before now f h contents = λ name among. elim h [
  | inl same ↦ inl (same.0 name)
  | inr unwritten ↦
      let at : IsLeftAt a output contents before now output =
      elim (unwritten_left a output before now f unwritten) [
        | inl same ↦ inl same
        | inr rose ↦ inr (inr rose)
      ] in
      subst (IsLeftAt a output contents before now) (sym (written_only a output name among)) at
]

-- a file that is too long is no refusal
pub speedup_longer : {T : Type 0} (a : TimeArguments) (output : List ℕ) (before now : FilesState)
    (r : Result T Failure) (name content : List ℕ)
    → OnOk r (IsSpeedupWritten a output before now) → IfErr r (IsSpeedupFailure a output before now)
    → Contains (reads (Speedup a output)) name → before.held name ≡ Some content
    → file_limit < length content → MatchResult r (λ _. ⊥) IsNoRefusal
speedup_longer a output before now (Ok x) name content ok failure among is long =
    not_long (Speedup a output) (time_files a) before ok.inputs name content
    (speedup_reads a output) ok.are_inputs among is long
speedup_longer a output before now (Err f) name content ok failure among is long = elim failure [
  | inl same ↦ elim same.1 [
    | inl unread ↦ unread_no_refusal (time_files a) before now f unread
    | inr refused ↦ absurd (not_long (Speedup a output) (time_files a) before refused.inputs name
        content (speedup_reads a output) refused.are_inputs among is long)
  ]
  | inr unwritten ↦ unwritten_status a output before now f unwritten
]

-- 4. The page is written after the files were read

pub was_written : (a : TimeArguments) (output : List ℕ) (before now : FilesState)
    (inputs : Inputs) (bytes : List ℕ) → AreInputs before (time_files a) inputs
    → IsSpeedupPage inputs a bytes → IfSome (now.held output) (λ content. content ≡ bytes)
    → IsSpeedupWritten a output before now
was_written a output before now inputs bytes are is h = record {
  inputs = inputs;
  are_inputs = are;
  written = held_is (now.held output) bytes (IsSpeedupPage inputs a) is h;
}

pub was_unwritten : (a : TimeArguments) (output : List ℕ) (before between now : FilesState)
    (inputs : Inputs) (bytes : List ℕ) (f : Failure) → AreInputs before (time_files a) inputs
    → IsSpeedupPage inputs a bytes → AreSame before between
    → ((n : List ℕ) → before.failed_writes n ≤ between.failed_writes n)
    → IsWriteFailure between now output f → IsSpeedupFailure a output before now f
was_unwritten a output before between now inputs bytes f are is same low h = inr (record {
  inputs = inputs;
  are_inputs = are;
  page = bytes;
  is_page = is;
  failure = write_before before between now output f (same output) (low output) h;
})
