-- What the answer of a view says of the whole.
use Rattle.std.proofs.Common.{◌≡◌, ◌⊎◌, ℕ, List, Option, Some, None, refl, subst, inl, inr, arith}
use Rattle.std.specs.Prelude.{IfErr, MatchOption, OnOk, Result, Ok, Err}
use Rattle.command_line.specs.Views.{View, Help, AsksView, meaning_of_view}
use Rattle.command_line.specs.declared.view.View.{View as OfCode}
use Rattle.dsm_io.specs.Causes.{Appends}
use Rattle.dsm_io.specs.States.{FilesState, SinkState}
use Rattle.text_output.specs.declared.failure.Failure.{Failure}
use Rattle.text_output.specs.declared.failure.Failure.TheVariants.{Input, NotWritten, Refused, Layout, Record, Text, Output, OutOfMemory}
use Rattle.text_output.specs.Failures.{IsPutFailure, line_of, status_of}
use Rattle.text_output.specs.Text.{out_of_memory}
use Rattle.gdb_server.specs.Ends.{Streams}
use Rattle.views.specs.Answers.{IsFault, IsRefusalStatus, IsSourceFault, cannot_read_input}
use Rattle.views.specs.Failures.{IsFailure, IsShownFailure, IsSourceFailure, IsSuccess}
use Rattle.views.specs.Headline.{AreTold, IsLayoutRefused, IsRecordRefused, IsRefused, PrintsPrefix, usage}

-- 1. What the words ask for, and where they ask for nothing

pub asked_as : (words : List (List ℕ)) (r : Option OfCode) (x : OfCode) → r ≡ Some x
    → MatchOption r ((v : View) → AsksView words v → ⊥) (λ v. AsksView words (meaning_of_view v))
    → AsksView words (meaning_of_view x)
asked_as words r x e h =
    subst (λ o. MatchOption o ((v : View) → AsksView words v → ⊥) (λ v. AsksView words (meaning_of_view v))) e h

pub none_as : (words : List (List ℕ)) (r : Option OfCode) → r ≡ None
    → MatchOption r ((v : View) → AsksView words v → ⊥) (λ v. AsksView words (meaning_of_view v))
    → (v : View) → AsksView words v → ⊥
none_as words r e h =
    subst (λ o. MatchOption o ((v : View) → AsksView words v → ⊥) (λ v. AsksView words (meaning_of_view v))) e h

-- 2. How the usage text is put, and how not

pub help_succeeds : (files : FilesState) (before now : SinkState) (text : List ℕ) → text ≡ usage
    → Appends before.taken now.taken text → IsSuccess Help files before now
help_succeeds files before now text is put = λ contents told. record { text = text; is = is; put = put }

pub help_fails : (files files_now : FilesState) (before now : SinkState) (text : List ℕ) (f : Failure)
    → text ≡ usage → IsPutFailure before now text f → IsFailure Help files files_now before now f
help_fails files files_now before now text (Input line) is h = absurd h
help_fails files files_now before now text (NotWritten line) is h = absurd h
help_fails files files_now before now text (Refused line) is h = absurd h
help_fails files files_now before now text (Layout line) is h = absurd h
help_fails files files_now before now text (Record line) is h = absurd h
help_fails files files_now before now text (Text line) is h = absurd h
help_fails files files_now before now text Output is h =
    (h.0, λ contents told. record { text = text; is = is; put = h.1 })
help_fails files files_now before now text OutOfMemory is h = λ contents told. inl h

-- 3. What the status of a failure says

abbrev IsFailing : ℕ → Type 0
IsFailing status = (status ≡ 3) ⊎ ((status ≡ 5) ⊎ IsRefusalStatus status)

pub failing : (v : View) (files files_now : FilesState) (before now : SinkState) (f : Failure)
    → IsFailure v files files_now before now f → IsFailing (status_of f)
failing v files files_now before now (Input line) h = inl refl
failing v files files_now before now (NotWritten line) h = inl refl
failing v files files_now before now (Refused line) h = inr (inr (inl refl))
failing v files files_now before now (Layout line) h = inr (inr (inr (inl refl)))
failing v files files_now before now (Record line) h = inr (inr (inr (inr refl)))
failing v files files_now before now (Text line) h = absurd h
failing v files files_now before now Output h = inl refl
failing v files files_now before now OutOfMemory h = inr (inl refl)

-- no failure but one of status 3 is of the input
pub source_status : (v : View) (files : FilesState) (io : Streams) (f : Failure)
    → IsSourceFailure v files io f → status_of f ≡ 3
source_status v files io (Input line) h = refl
source_status v files io (NotWritten line) h = absurd h
source_status v files io (Refused line) h = absurd h
source_status v files io (Layout line) h = absurd h
source_status v files io (Record line) h = absurd h
source_status v files io (Text line) h = absurd h
source_status v files io Output h = absurd h
source_status v files io OutOfMemory h = absurd h

pub but_for_source : (v : View) (files files_now : FilesState) (io : Streams) (f : Failure)
    → IsShownFailure v files files_now io f → (status_of f ≡ 3 → ⊥)
    → IsFailure v files files_now io.output io.output_after f
but_for_source v files files_now io f h other = elim h [
  | inl failure ↦ failure
  | inr source ↦ absurd (other (source_status v files io f source))
]

pub shown_failing : (v : View) (files files_now : FilesState) (io : Streams) (f : Failure)
    → IsShownFailure v files files_now io f → IsFailing (status_of f)
shown_failing v files files_now io f h = elim h [
  | inl failure ↦ failing v files files_now io.output io.output_after f failure
  | inr source ↦ inl (source_status v files io f source)
]

source_fault_of : (v : View) (files : FilesState) (io : Streams) (f : Failure) (Told : List ℕ → Type 0)
    → IsSourceFailure v files io f → Told (line_of f) → IsSourceFault v files io × Told cannot_read_input
source_fault_of v files io (Input line) Told h told = (h.0, subst Told h.1 told)
source_fault_of v files io (NotWritten line) Told h told = absurd h
source_fault_of v files io (Refused line) Told h told = absurd h
source_fault_of v files io (Layout line) Told h told = absurd h
source_fault_of v files io (Record line) Told h told = absurd h
source_fault_of v files io (Text line) Told h told = absurd h
source_fault_of v files io Output Told h told = absurd h
source_fault_of v files io OutOfMemory Told h told = absurd h

failure_fault_of : (v : View) (files files_now : FilesState) (io : Streams) (f : Failure)
    (Told : List ℕ → Type 0) → IsFailure v files files_now io.output io.output_after f → Told (line_of f)
    → status_of f ≡ 3 → IsFault v files files_now io Told
failure_fault_of v files files_now io (Input line) Told h told three =
    let fault = h.1 in
    inl (
      h.0,
      inl (
        fault.0,
        fault.1,
        elim fault.2 [
          | inl failed ↦ inl (failed.0, subst Told failed.1 told)
          | inr long ↦ inr (long.0, subst Told long.1 told)
        ],
      ),
    )
failure_fault_of v files files_now io (NotWritten line) Told h told three =
    let fault = h.1 in
    let write = fault.1 in
    inl (h.0, inr (fault.0, (write.0, write.1, write.2, subst Told write.3 told)))
failure_fault_of v files files_now io (Refused line) Told h told three = absurd (omega (arith, three))
failure_fault_of v files files_now io (Layout line) Told h told three = absurd (omega (arith, three))
failure_fault_of v files files_now io (Record line) Told h told three = absurd (omega (arith, three))
failure_fault_of v files files_now io (Text line) Told h told three = absurd h
failure_fault_of v files files_now io Output Told h told three = inr (inl (h, told))
failure_fault_of v files files_now io OutOfMemory Told h told three = absurd (omega (arith, three))

pub fault_of : (v : View) (files files_now : FilesState) (io : Streams) (f : Failure)
    (Told : List ℕ → Type 0) → IsShownFailure v files files_now io f → Told (line_of f)
    → status_of f ≡ 3 → IsFault v files files_now io Told
fault_of v files files_now io f Told h told three = elim h [
  | inl failure ↦ failure_fault_of v files files_now io f Told failure told three
  | inr source ↦ inr (inr (source_fault_of v files io f Told source told))
]

pub refusal_of : (v : View) (files files_now : FilesState) (before now : SinkState) (f : Failure)
    (Told : List ℕ → Type 0) → IsFailure v files files_now before now f → Told (line_of f)
    → status_of f ≡ 4 → (contents : List ℕ → List ℕ) → AreTold v files contents
    → (line : List ℕ) × IsRefused v contents line × Told line
refusal_of v files files_now before now (Input line) Told h told four contents known = absurd (omega (arith, four))
refusal_of v files files_now before now (NotWritten line) Told h told four contents known =
    absurd (omega (arith, four))
refusal_of v files files_now before now (Refused line) Told h told four contents known =
    (line.items, h.1 contents known, told)
refusal_of v files files_now before now (Layout line) Told h told four contents known = absurd (omega (arith, four))
refusal_of v files files_now before now (Record line) Told h told four contents known = absurd (omega (arith, four))
refusal_of v files files_now before now (Text line) Told h told four contents known = absurd h
refusal_of v files files_now before now Output Told h told four contents known = absurd (omega (arith, four))
refusal_of v files files_now before now OutOfMemory Told h told four contents known = absurd (omega (arith, four))

pub layout_of : (v : View) (files files_now : FilesState) (before now : SinkState) (f : Failure)
    (Told : List ℕ → Type 0) → IsFailure v files files_now before now f → Told (line_of f)
    → status_of f ≡ 6 → (contents : List ℕ → List ℕ) → AreTold v files contents
    → (line : List ℕ) × IsLayoutRefused v contents line × Told line
layout_of v files files_now before now (Input line) Told h told six contents known = absurd (omega (arith, six))
layout_of v files files_now before now (NotWritten line) Told h told six contents known =
    absurd (omega (arith, six))
layout_of v files files_now before now (Refused line) Told h told six contents known = absurd (omega (arith, six))
layout_of v files files_now before now (Layout line) Told h told six contents known =
    (line.items, h.1 contents known, told)
layout_of v files files_now before now (Record line) Told h told six contents known = absurd (omega (arith, six))
layout_of v files files_now before now (Text line) Told h told six contents known = absurd h
layout_of v files files_now before now Output Told h told six contents known = absurd (omega (arith, six))
layout_of v files files_now before now OutOfMemory Told h told six contents known = absurd (omega (arith, six))

pub record_of : (v : View) (files files_now : FilesState) (before now : SinkState) (f : Failure)
    (Told : List ℕ → Type 0) → IsFailure v files files_now before now f → Told (line_of f)
    → status_of f ≡ 7 → (contents : List ℕ → List ℕ) → AreTold v files contents
    → (line : List ℕ) × IsRecordRefused v contents line × Told line
record_of v files files_now before now (Input line) Told h told seven contents known = absurd (omega (arith, seven))
record_of v files files_now before now (NotWritten line) Told h told seven contents known =
    absurd (omega (arith, seven))
record_of v files files_now before now (Refused line) Told h told seven contents known = absurd (omega (arith, seven))
record_of v files files_now before now (Layout line) Told h told seven contents known = absurd (omega (arith, seven))
record_of v files files_now before now (Record line) Told h told seven contents known =
    (line.items, h.1 contents known, told)
record_of v files files_now before now (Text line) Told h told seven contents known = absurd h
record_of v files files_now before now Output Told h told seven contents known = absurd (omega (arith, seven))
record_of v files files_now before now OutOfMemory Told h told seven contents known = absurd (omega (arith, seven))

pub nothing_of : (v : View) (files files_now : FilesState) (before now : SinkState) (f : Failure)
    → IsFailure v files files_now before now f → (status_of f ≡ 2) ⊎ IsRefusalStatus (status_of f)
    → now.taken ≡ before.taken
nothing_of v files files_now before now (Input line) h s = h.0
nothing_of v files files_now before now (NotWritten line) h s = h.0
nothing_of v files files_now before now (Refused line) h s = h.0
nothing_of v files files_now before now (Layout line) h s = h.0
nothing_of v files files_now before now (Record line) h s = h.0
nothing_of v files files_now before now (Text line) h s = absurd h
nothing_of v files files_now before now Output h s = absurd (omega (arith, s))
nothing_of v files files_now before now OutOfMemory h s = absurd (omega (arith, s))

pub prefix_of_failure : (v : View) (files files_now : FilesState) (before now : SinkState) (f : Failure)
    → IsFailure v files files_now before now f → status_of f ≡ 5
    → (contents : List ℕ → List ℕ) → AreTold v files contents
    → (now.taken ≡ before.taken) ⊎ PrintsPrefix v contents before now
prefix_of_failure v files files_now before now (Input line) h five contents told = absurd (omega (arith, five))
prefix_of_failure v files files_now before now (NotWritten line) h five contents told =
    absurd (omega (arith, five))
prefix_of_failure v files files_now before now (Refused line) h five contents told = absurd (omega (arith, five))
prefix_of_failure v files files_now before now (Layout line) h five contents told = absurd (omega (arith, five))
prefix_of_failure v files files_now before now (Record line) h five contents told = absurd (omega (arith, five))
prefix_of_failure v files files_now before now (Text line) h five contents told = absurd h
prefix_of_failure v files files_now before now Output h five contents told = absurd (omega (arith, five))
prefix_of_failure v files files_now before now OutOfMemory h five contents told = h contents told

-- no failure has the status of wrong words or of success
pub not_two : (f : Failure) → (status_of f ≡ 2) ⊎ IsRefusalStatus (status_of f) → IsRefusalStatus (status_of f)
not_two (Input line) s = absurd (omega (arith, s))
not_two (NotWritten line) s = absurd (omega (arith, s))
not_two (Refused line) s = inl refl
not_two (Layout line) s = inr (inl refl)
not_two (Record line) s = inr (inr refl)
not_two (Text line) s = absurd (omega (arith, s))
not_two Output s = absurd (omega (arith, s))
not_two OutOfMemory s = absurd (omega (arith, s))

pub not_zero : (f : Failure) → status_of f ≡ 0 → ⊥
not_zero (Input line) zero = omega (arith, zero)
not_zero (NotWritten line) zero = omega (arith, zero)
not_zero (Refused line) zero = omega (arith, zero)
not_zero (Layout line) zero = omega (arith, zero)
not_zero (Record line) zero = omega (arith, zero)
not_zero (Text line) zero = omega (arith, zero)
not_zero Output zero = omega (arith, zero)
not_zero OutOfMemory zero = omega (arith, zero)

pub line_five : (f : Failure) → status_of f ≡ 5 → line_of f ≡ out_of_memory
line_five (Input line) five = absurd (omega (arith, five))
line_five (NotWritten line) five = absurd (omega (arith, five))
line_five (Refused line) five = absurd (omega (arith, five))
line_five (Layout line) five = absurd (omega (arith, five))
line_five (Record line) five = absurd (omega (arith, five))
line_five (Text line) five = absurd (omega (arith, five))
line_five Output five = absurd (omega (arith, five))
line_five OutOfMemory five = refl

-- 4. What follows in one arm of a result

pub on_ok_as : {T E : Type 0} (P Q : Type 0) (r : Result T E) → (P → Q) → OnOk r P → OnOk r Q
on_ok_as P Q (Ok x) f h = f h
on_ok_as P Q (Err e) f h = tt

pub err_as : {T E : Type 0} (P Q : E → Type 0) (r : Result T E) → ((e : E) → P e → Q e)
    → IfErr r P → IfErr r Q
err_as P Q (Ok x) f h = tt
err_as P Q (Err e) f h = f e h
