-- The view that writes a page: how it succeeds and fails, and what its file holds.
use Rattle.std.proofs.Common.{◌≡◌, ◌⊎◌, ℕ, ◌<◌, ◌≤◌, List, [], ◌∷◌, length, Option, Some, None, Result, Ok, Err, refl, sym, ap, ◌∙◌, subst, inl, inr, arith}
use Rattle.std.specs.Prelude.{Contains, IfErr, IfSome, MatchResult, OnOk}
use Rattle.command_line.specs.Views.{RecordedFiles, View, Page, reads, writes}
use Rattle.dsm_io.specs.Causes.{Rose}
use Rattle.dsm_io.specs.States.{FilesState, SinkState}
use Rattle.text_output.specs.declared.failure.Failure.{Failure}
use Rattle.text_output.specs.declared.failure.Failure.TheVariants.{Input, NotWritten, Refused, Layout, Record, Text, Output, OutOfMemory}
use Rattle.judged_files.specs.Failures.{file_limit}
use Rattle.text_output.specs.Failures.{IsNoRefusal, IsWriteFailure, status_of}
use Rattle.judged_files.specs.Inputs.{Inputs}
use Rattle.text_output.proofs.Pieces.{nothing_put}
use Rattle.views.specs.Answers.{AreLeft, IsRefusalStatus}
use Rattle.views.specs.Failures.{AreKept, AreSame, IsFailure, IsPageFailure, IsPageUnwritten, IsPageWritten, IsSuccess}
use Rattle.views.specs.Headline.{AreTold, AreWritten, IsWritten}
use Rattle.views.specs.Page.{IsPageText}
use Rattle.views.specs.declared.trace.Selection.{Selection}
use Rattle.views.specs.Inputs.{AreInputs, list_of, run_files}
use Rattle.views.proofs.Inputs.{not_long, only_of, unread_fails, unread_no_refusal}
use Rattle.views.proofs.Runs.{IsOfRun, refused_run, run_fails, run_inputs}

-- 1. Views that write no file

none_among : (names : List (List ℕ)) (name : List ℕ) → names ≡ [] → Contains names name → ⊥
none_among names name none h =
    let long = ap length none in
    let at = h.1 in
    omega (arith, at, long)

pub nothing_written : (v : View) (contents : List ℕ → List ℕ) (now : FilesState) → writes v ≡ []
    → AreWritten v contents now
nothing_written v contents now none = λ name among.
    absurd (none_among (writes v) name none among)

pub nothing_left : (v : View) (contents : List ℕ → List ℕ) (before now : FilesState) → writes v ≡ []
    → AreLeft v contents before now
nothing_left v contents before now none = λ name among.
    absurd (none_among (writes v) name none among)

pub ok_all : {T E : Type 0} (P : Type 0) (r : Result T E) → P → OnOk r P
ok_all P (Ok x) h = h
ok_all P (Err e) h = tt

pub err_all : {T E : Type 0} (P : E → Type 0) (r : Result T E) → ((e : E) → P e) → IfErr r P
err_all P (Ok x) h = tt
err_all P (Err e) h = h e

-- 2. The page

abbrev pub asked_for : (from to : Option ℕ) → Selection
asked_for from to = record { from = from; to = to; address = None; node = None }

-- its output is nothing
abbrev IsNothing : Inputs → List ℕ → ℕ → Type 0
IsNothing inputs text status = text ≡ []

page_with : (run : RecordedFiles) (output : List ℕ) (from to : Option ℕ)
    (verified : Option (List ℕ)) → reads (Page (record run { verified = verified }) output from to)
    ≡ list_of (run_files (record run { verified = verified }))
page_with run output from to None = refl
page_with run output from to (Some verified) = refl

page_reads : (run : RecordedFiles) (output : List ℕ) (from to : Option ℕ)
    → reads (Page run output from to) ≡ list_of (run_files run)
page_reads run output from to = page_with run output from to run.verified

-- and it writes one file
writes_with : (run : RecordedFiles) (output : List ℕ) (from to : Option ℕ)
    (verified : Option (List ℕ)) → writes (Page (record run { verified = verified }) output from to)
    ≡ output ∷ []
writes_with run output from to None = refl
writes_with run output from to (Some verified) = refl

pub page_writes : (run : RecordedFiles) (output : List ℕ) (from to : Option ℕ)
    → writes (Page run output from to) ≡ output ∷ []
page_writes run output from to = writes_with run output from to run.verified

written_only : (run : RecordedFiles) (output : List ℕ) (from to : Option ℕ) (name : List ℕ)
    → Contains (writes (Page run output from to)) name → name ≡ output
written_only run output from to name h =
    only_of output name (subst (λ ns. Contains ns name) (page_writes run output from to) h)

pub is_written : (run : RecordedFiles) (output : List ℕ) (from to : Option ℕ)
    → Contains (writes (Page run output from to)) output
is_written run output from to =
    subst (λ ns. Contains ns output) (sym (page_writes run output from to)) (0, omega arith, refl)

page_of_files : (run : RecordedFiles) (output : List ℕ) (from to : Option ℕ)
    → IsOfRun (Page run output from to) run IsNothing
page_of_files run output from to = record {
  reads_are = page_reads run output from to;
  text = λ contents t s h. h;
  refused = λ contents line h. h;
  laid_out = λ contents line h. h;
  kept = λ contents line h. h;
}

pub page_succeeds : (run : RecordedFiles) (output : List ℕ) (from to : Option ℕ) (files : FilesState) (state : SinkState)
    → IsSuccess (Page run output from to) files state state
page_succeeds run output from to files state = λ contents told.
    record { text = []; is = refl; put = nothing_put state.taken }

-- the page is of the files that are told
page_told : (run : RecordedFiles) (output : List ℕ) (from to : Option ℕ) (before : FilesState) (inputs : Inputs)
    (contents : List ℕ → List ℕ) (bytes : List ℕ) → AreInputs before (run_files run) inputs
    → AreTold (Page run output from to) before contents → IsPageText inputs (asked_for from to) bytes
    → IsWritten (Page run output from to) contents bytes
page_told run output from to before inputs contents bytes are told is =
    subst (λ i. IsPageText i (asked_for from to) bytes)
    (run_inputs (Page run output from to) run before inputs contents (page_reads run output from to)
    are told) is

held_page : (run : RecordedFiles) (output : List ℕ) (from to : Option ℕ) (before : FilesState) (inputs : Inputs)
    (contents : List ℕ → List ℕ) (held : Option (List ℕ)) → AreInputs before (run_files run) inputs
    → AreTold (Page run output from to) before contents
    → IfSome held (IsPageText inputs (asked_for from to))
    → IfSome held (IsWritten (Page run output from to) contents)
held_page run output from to before inputs contents None are told h = h
held_page run output from to before inputs contents (Some bytes) are told h =
    page_told run output from to before inputs contents bytes are told h

pub page_written : (run : RecordedFiles) (output : List ℕ) (from to : Option ℕ) (before now : FilesState)
    → IsPageWritten run output (asked_for from to) before now → (contents : List ℕ → List ℕ)
    → AreTold (Page run output from to) before contents
    → AreWritten (Page run output from to) contents now
page_written run output from to before now h contents told = λ name among.
    subst (λ n. IfSome (now.held n) (IsWritten (Page run output from to) contents))
    (sym (written_only run output from to name among))
    (held_page run output from to before h.inputs contents (now.held output) h.are_inputs told h.written)

unwritten_fails : (run : RecordedFiles) (output : List ℕ) (from to : Option ℕ) (before now : FilesState)
    (state : SinkState) (f : Failure) → IsPageUnwritten run output (asked_for from to) before now f
    → IsFailure (Page run output from to) before now state state f
unwritten_fails run output from to before now state (Input line) h = absurd h.failure
unwritten_fails run output from to before now state (NotWritten line) h = (
  refl,
  (
    λ contents told. (
      h.page,
      page_told run output from to before h.inputs contents h.page h.are_inputs told h.is_page,
    ),
    (output, is_written run output from to, h.failure.0, h.failure.1),
  ),
)
unwritten_fails run output from to before now state (Refused line) h = absurd h.failure
unwritten_fails run output from to before now state (Layout line) h = absurd h.failure
unwritten_fails run output from to before now state (Record line) h = absurd h.failure
unwritten_fails run output from to before now state (Text line) h = absurd h.failure
unwritten_fails run output from to before now state Output h = absurd h.failure
unwritten_fails run output from to before now state OutOfMemory h = λ contents told. inl refl

pub page_fails : (run : RecordedFiles) (output : List ℕ) (from to : Option ℕ) (before now : FilesState)
    (state : SinkState) (f : Failure) → IsPageFailure run output (asked_for from to) before now f
    → IsFailure (Page run output from to) before now state state f
page_fails run output from to before now state f h =
    let v = Page run output from to in
    elim h [
      | inl same ↦ elim same.1 [
        | inl unread ↦ unread_fails v (run_files run) (page_reads run output from to) before now state f unread
        | inr refused ↦ run_fails v run IsNothing (page_of_files run output from to) before now
            state state refused.inputs f refused.are_inputs
            (refused_run (IsNothing refused.inputs) refused.inputs state f refused.refusal)
      ]
      | inr unwritten ↦ unwritten_fails run output from to before now state f unwritten
    ]

-- no refusal is of a file that isn't written
unwritten_status : (run : RecordedFiles) (output : List ℕ) (s : Selection) (before now : FilesState) (f : Failure)
    → IsPageUnwritten run output s before now f → IsNoRefusal f
unwritten_status run output s before now (Input line) h = absurd h.failure
unwritten_status run output s before now (NotWritten line) h = inl refl
unwritten_status run output s before now (Refused line) h = absurd h.failure
unwritten_status run output s before now (Layout line) h = absurd h.failure
unwritten_status run output s before now (Record line) h = absurd h.failure
unwritten_status run output s before now (Text line) h = absurd h.failure
unwritten_status run output s before now Output h = absurd h.failure
unwritten_status run output s before now OutOfMemory h = inr refl

pub no_both : (n : ℕ) → (n ≡ 3) ⊎ (n ≡ 5) → IsRefusalStatus n → ⊥
no_both n h k = omega (arith, h, k)

pub page_kept : (run : RecordedFiles) (output : List ℕ) (s : Selection) (before now : FilesState) (f : Failure)
    → IsPageFailure run output s before now f → AreKept before now f
page_kept run output s before now f h = λ status name. elim h [
  | inl same ↦ same.0 name
  | inr unwritten ↦ absurd (no_both (status_of f)
      (unwritten_status run output s before now f unwritten) status)
]

-- a file that isn't written holds what it held, or its write failed
unwritten_left : (run : RecordedFiles) (output : List ℕ) (s : Selection) (before now : FilesState) (f : Failure)
    → IsPageUnwritten run output s before now f
    → (now.held output ≡ before.held output) ⊎ Rose (before.failed_writes output) (now.failed_writes output)
unwritten_left run output s before now (Input line) h = absurd h.failure
unwritten_left run output s before now (NotWritten line) h = inr h.failure.0
unwritten_left run output s before now (Refused line) h = absurd h.failure
unwritten_left run output s before now (Layout line) h = absurd h.failure
unwritten_left run output s before now (Record line) h = absurd h.failure
unwritten_left run output s before now (Text line) h = absurd h.failure
unwritten_left run output s before now Output h = absurd h.failure
unwritten_left run output s before now OutOfMemory h = h.failure

abbrev IsLeftAt : View → (List ℕ → List ℕ) → (before now : FilesState) → List ℕ → Type 0
IsLeftAt v contents before now name =
    (now.held name ≡ before.held name) ⊎ (IfSome (now.held name) (IsWritten v contents)
    ⊎ Rose (before.failed_writes name) (now.failed_writes name))

pub page_left : (run : RecordedFiles) (output : List ℕ) (from to : Option ℕ) (before now : FilesState) (f : Failure)
    → IsPageFailure run output (asked_for from to) before now f → (contents : List ℕ → List ℕ)
    → AreLeft (Page run output from to) contents before now
page_left run output from to before now f h contents = λ name among. elim h [
  | inl same ↦ inl (same.0 name)
  | inr unwritten ↦
      let at : IsLeftAt (Page run output from to) contents before now output =
      elim (unwritten_left run output (asked_for from to) before now f unwritten) [
        | inl same ↦ inl same
        | inr rose ↦ inr (inr rose)
      ] in
      subst (IsLeftAt (Page run output from to) contents before now) (sym (written_only run output from to name among)) at
]

-- a file that is too long is no refusal
pub page_longer : {T : Type 0} (run : RecordedFiles) (output : List ℕ) (from to : Option ℕ) (before now : FilesState)
    (r : Result T Failure) (name content : List ℕ)
    → OnOk r (IsPageWritten run output (asked_for from to) before now)
    → IfErr r (IsPageFailure run output (asked_for from to) before now)
    → Contains (reads (Page run output from to)) name → before.held name ≡ Some content
    → file_limit < length content → MatchResult r (λ _. ⊥) IsNoRefusal
page_longer run output from to before now (Ok x) name content ok failure among is long =
    not_long (Page run output from to) (run_files run) before ok.inputs name content
    (page_reads run output from to) ok.are_inputs among is long
page_longer run output from to before now (Err f) name content ok failure among is long = elim failure [
  | inl same ↦ elim same.1 [
    | inl unread ↦ unread_no_refusal (run_files run) before now f unread
    | inr refused ↦ absurd (not_long (Page run output from to) (run_files run) before refused.inputs name
        content (page_reads run output from to) refused.are_inputs among is long)
  ]
  | inr unwritten ↦ unwritten_status run output (asked_for from to) before now f unwritten
]

-- 3. The page is written after the files were read

rose_before : (a b c : ℕ) → a ≤ b → Rose b c → Rose a c
rose_before a b c low rose = omega (arith, low, rose)

pub write_before : (before between now : FilesState) (output : List ℕ) (f : Failure)
    → between.held output ≡ before.held output → before.failed_writes output ≤ between.failed_writes output
    → IsWriteFailure between now output f → IsWriteFailure before now output f
write_before before between now output (Input line) same low h = absurd h
write_before before between now output (NotWritten line) same low h =
    (rose_before (before.failed_writes output) (between.failed_writes output) (now.failed_writes output) low h.0, h.1)
write_before before between now output (Refused line) same low h = absurd h
write_before before between now output (Layout line) same low h = absurd h
write_before before between now output (Record line) same low h = absurd h
write_before before between now output (Text line) same low h = absurd h
write_before before between now output Output same low h = absurd h
write_before before between now output OutOfMemory same low h = elim h [
  | inl kept ↦ inl (kept ∙ same)
  | inr rose ↦
      inr (rose_before (before.failed_writes output) (between.failed_writes output) (now.failed_writes output) low rose)
]

pub held_is : (held : Option (List ℕ)) (bytes : List ℕ) (P : List ℕ → Type 0) → P bytes
    → IfSome held (λ content. content ≡ bytes) → IfSome held P
held_is None bytes P p h = h
held_is (Some content) bytes P p h = subst P (sym h) p

pub was_written : (run : RecordedFiles) (output : List ℕ) (s : Selection) (before now : FilesState) (inputs : Inputs)
    (bytes : List ℕ) → AreInputs before (run_files run) inputs → IsPageText inputs s bytes
    → IfSome (now.held output) (λ content. content ≡ bytes) → IsPageWritten run output s before now
was_written run output s before now inputs bytes are is h = record {
  inputs = inputs;
  are_inputs = are;
  written = held_is (now.held output) bytes (IsPageText inputs s) is h;
}

pub was_unwritten : (run : RecordedFiles) (output : List ℕ) (s : Selection) (before between now : FilesState)
    (inputs : Inputs) (bytes : List ℕ) (f : Failure) → AreInputs before (run_files run) inputs
    → IsPageText inputs s bytes → AreSame before between
    → ((n : List ℕ) → before.failed_writes n ≤ between.failed_writes n) → IsWriteFailure between now output f
    → IsPageFailure run output s before now f
was_unwritten run output s before between now inputs bytes f are is same low h = inr (record {
  inputs = inputs;
  are_inputs = are;
  page = bytes;
  is_page = is;
  failure = write_before before between now output f (same output) (low output) h;
})
