-- A run whose record goes into a file.
use Rattle.std.proofs.Common.{◌≡◌, ◌⊎◌, ℕ, Bool, List, Option, None, Some, refl, sym, ap, ◌∙◌, subst, inl, inr, arith}
use Rattle.std.specs.Prelude.{Contains, IfSome, IfErr, IfOk, Result, Ok, Err}
use Rattle.dsm_io.specs.Causes.{Rose}
use Rattle.node_model.specs.Node.{Work}
use Rattle.node_model.specs.Core.{Core, IsOver}
use Rattle.node_model.specs.Outcome.{Outcome, IsOutcomeOf}
use Rattle.run_order.specs.OwnRun.{Stamped, StandsForOwnRun, run_of}
use Rattle.run_record.specs.Text.{record_text}
use Rattle.text_output.specs.declared.failure.Failure.{Failure}
use Rattle.text_output.specs.declared.failure.Failure.TheVariants.{Input, NotWritten, Refused, Layout, Record, Text, Output, OutOfMemory}
use Rattle.command_line.specs.Tasks.{RunArguments}
use Rattle.command_line.specs.Commands.{Command, Run, writes}
use Rattle.dsm_io.specs.States.{SinkState, FilesState}
use Rattle.commands.specs.Answers.{HasBytes, IsLeft, IsUnwritten, AreLeft, AreWritten}
use Rattle.text_output.specs.Failures.{FailsAs, IsNever}
use Rattle.prepared_run.specs.Ready.{GivesRuns, IsOwnOutcome}
use Rattle.commands.specs.Failures.{IsMade, IsOwnRecorded, IsRecordFailure, IsPerformFailure, AreKept}
use Rattle.commands.specs.Headline.{IsRecordOfRun, IsOutcomeRecorded, held_by}
use Rattle.judged_files.specs.Inputs.{Inputs}
use Rattle.commands.specs.Records.{record_at, record_of}
use Rattle.commands.proofs.InputLemmas.{named, among, of_named}
use Rattle.commands.proofs.RecordLemmas.{own_record}

-- the outcome of the own run of a core, by another name of its work
pub own_outcome : (w work : Work) (core : Core) (own : List Stamped) (o : Outcome) → w ≡ work
    → StandsForOwnRun w core own → IsOver w core → IsOutcomeOf w (run_of own) o
    → IsOwnOutcome work o
own_outcome w work core own o same stands over outcome =
    subst (λ x. IsOwnOutcome x o) same (record {
      core = core;
      own = own;
      stands = stands;
      over = over;
      outcome = outcome;
    })

-- the outcome and the record of the own run of a core, by another name of its work
pub own_recorded : (batches : Bool) (w work : Work) (core : Core) (own : List Stamped) (o : Outcome)
    (held : Option (List ℕ)) → w ≡ work → StandsForOwnRun w core own → IsOver w core
    → IsOutcomeOf w (run_of own) o → IfSome held (λ bytes. bytes ≡ record_text (record_at batches w core))
    → IsOwnRecorded batches work held o
own_recorded batches w work core own o held same stands over outcome bytes =
    subst (λ x. IsOwnRecorded batches x held o) same (record {
      core = core;
      own = own;
      stands = stands;
      over = over;
      outcome = outcome;
      is_recorded = bytes;
    })

-- it is a run of the inputs
pub recorded : (inputs : Inputs) (nodes budget : ℕ) (work : Work) (held : Option (List ℕ))
    (o : Outcome) → GivesRuns inputs nodes budget work
    → IsOwnRecorded inputs.batches work held o → IsOutcomeRecorded inputs nodes budget held o
recorded inputs nodes budget work held o runs h = record {
  work = work;
  own = h.own;
  is_run = runs h.core h.own o h.stands h.over h.outcome;
  is_recorded = subst (λ t. IfSome held (λ bytes. bytes ≡ t))
      (ap (λ r. record_text r) (own_record inputs.batches work h.core h.own h.stands)) h.is_recorded;
}

some_as : (P Q : List ℕ → Type 0) (o : Option (List ℕ)) → ((x : List ℕ) → P x → Q x) → IfSome o P
    → IfSome o Q
some_as P Q None f h = tt
some_as P Q (Some x) f h = f x h

-- what the file of the record holds is the record of such a run
record_held : (inputs : Inputs) (nodes budget : ℕ) (held : Option (List ℕ)) (o : Outcome)
    → IsOutcomeRecorded inputs nodes budget held o → IfSome held (IsRecordOfRun inputs nodes budget)
record_held inputs nodes budget held o h =
    some_as (λ bytes. bytes ≡ record_text (record_of inputs.batches h.work h.own))
    (IsRecordOfRun inputs nodes budget) held (λ bytes is. record {
      work = h.work;
      own = h.own;
      outcome = o;
      is_run = h.is_run;
      bytes_are = is;
    }) h.is_recorded

module _ (a : RunArguments) where
  abbrev asked : Command
  asked = Run a

  writes_are : writes asked ≡ named a.record_file
  writes_are = go a.record_file
    where
      go : (x : Option (List ℕ)) → writes (Run (record a { record_file = x })) ≡ named x
      go None = refl
      go (Some name) = refl

  pub record_named : (name : List ℕ) → Contains (writes asked) name → a.record_file ≡ Some name
  record_named name h = of_named a.record_file name (subst (λ ns. Contains ns name) writes_are h)

  pub names_record : (name : List ℕ) → a.record_file ≡ Some name → Contains (writes asked) name
  names_record name e = subst (λ ns. Contains ns name) (sym writes_are) (among a.record_file name e)

  -- each file that it writes holds such a record
  pub record_written : (inputs : Inputs) (now : FilesState) (outcome : Outcome)
      → IsOutcomeRecorded inputs a.execution.nodes a.execution.budget (held_by now a.record_file) outcome
      → AreWritten asked inputs now
  record_written inputs now outcome is name there =
      subst (λ x. IfSome (held_by now x) (IsRecordOfRun inputs a.execution.nodes a.execution.budget))
      (record_named name there) (record_held inputs a.execution.nodes a.execution.budget (held_by now a.record_file) outcome is)

  pub written_left : (inputs : Inputs) (before now : FilesState) → AreWritten asked inputs now
      → AreLeft asked inputs before now
  written_left inputs before now h name there = inr (inl (h name there))

  -- a record that wasn't written, of a run that was made
  bytes_of_run : (inputs : Inputs) (work : Work) → GivesRuns inputs a.execution.nodes a.execution.budget work
      → (made : (outcome : Outcome) × IsOwnOutcome work outcome) → HasBytes asked inputs
  bytes_of_run inputs work runs made =
      let h : IsOwnOutcome work made.0 = made.1 in
      let is : IsRecordOfRun inputs a.execution.nodes a.execution.budget
      (record_text (record_of inputs.batches work h.own)) = record {
        work = work;
        own = h.own;
        outcome = made.0;
        is_run = runs h.core h.own made.0 h.stands h.over h.outcome;
        bytes_are = refl;
      } in
      (record_text (record_of inputs.batches work h.own), is)

  fails_by : (x : Option (List ℕ)) → a.record_file ≡ x → (inputs : Inputs) (work : Work)
      (before now : FilesState) (state : SinkState) (f : Failure)
      → GivesRuns inputs a.execution.nodes a.execution.budget work → IsMade work f → IsRecordFailure x before now f
      → IsPerformFailure asked inputs before now state state f
  fails_by None e inputs work before now state f runs made h =
      subst (IsPerformFailure asked inputs before now state state) (sym h) (inl refl)
  fails_by (Some name) e inputs work before now state (Input line) runs made h = absurd h
  fails_by (Some name) e inputs work before now state (NotWritten line) runs made h =
      let at : IsUnwritten asked before now (λ l. line.items ≡ l) =
      (name, names_record name e, h.0, h.1) in
      (refl, (bytes_of_run inputs work runs made, at))
  fails_by (Some name) e inputs work before now state (Refused line) runs made h = absurd h
  fails_by (Some name) e inputs work before now state (Layout line) runs made h = absurd h
  fails_by (Some name) e inputs work before now state (Record line) runs made h = absurd h
  fails_by (Some name) e inputs work before now state (Text line) runs made h = absurd h
  fails_by (Some name) e inputs work before now state Output runs made h = absurd h
  fails_by (Some name) e inputs work before now state OutOfMemory runs made h = inl refl

  pub record_fails : (inputs : Inputs) (work : Work) (before now : FilesState) (state : SinkState)
      (f : Failure) → GivesRuns inputs a.execution.nodes a.execution.budget work → IsMade work f
      → IsRecordFailure a.record_file before now f → IsPerformFailure asked inputs before now state state f
  record_fails inputs work before now state f runs made h =
      fails_by a.record_file refl inputs work before now state f runs made h

  left_at : (inputs : Inputs) (before now : FilesState) (name : List ℕ) → a.record_file ≡ Some name
      → (now.held name ≡ before.held name)
      ⊎ Rose (before.failed_writes name) (now.failed_writes name) → AreLeft asked inputs before now
  left_at inputs before now name e h other there =
      let is : Some name ≡ Some other = sym e ∙ record_named other there in
      let same : name ≡ other = cc in
      subst (IsLeft asked inputs before now) same
      (elim h [ inl kept ↦ inl kept | inr rose ↦ inr (inr rose) ])

  left_by : (x : Option (List ℕ)) → a.record_file ≡ x → (inputs : Inputs) (before now : FilesState)
      (f : Failure) → IsRecordFailure x before now f → AreLeft asked inputs before now
  left_by None e inputs before now f h = λ name there.
      let bad : None ≡ Some name = sym e ∙ record_named name there in
      absurd (cc)
  left_by (Some name) e inputs before now (Input line) h = absurd h
  left_by (Some name) e inputs before now (NotWritten line) h =
      left_at inputs before now name e (inr h.0)
  left_by (Some name) e inputs before now (Refused line) h = absurd h
  left_by (Some name) e inputs before now (Layout line) h = absurd h
  left_by (Some name) e inputs before now (Record line) h = absurd h
  left_by (Some name) e inputs before now (Text line) h = absurd h
  left_by (Some name) e inputs before now Output h = absurd h
  left_by (Some name) e inputs before now OutOfMemory h = left_at inputs before now name e h

  pub record_left : (inputs : Inputs) (before now : FilesState) (f : Failure)
      → IsRecordFailure a.record_file before now f → AreLeft asked inputs before now
  record_left inputs before now f h = left_by a.record_file refl inputs before now f h

pub record_kept : (o : Option (List ℕ)) (before now : FilesState) (f : Failure)
    → IsRecordFailure o before now f → AreKept before now f
record_kept None before now f h =
    subst (AreKept before now) (sym h) (λ four. absurd (omega (arith, four)))
record_kept (Some name) before now (Input line) h = absurd h
record_kept (Some name) before now (NotWritten line) h = λ four. absurd (omega (arith, four))
record_kept (Some name) before now (Refused line) h = absurd h
record_kept (Some name) before now (Layout line) h = absurd h
record_kept (Some name) before now (Record line) h = absurd h
record_kept (Some name) before now (Text line) h = absurd h
record_kept (Some name) before now Output h = absurd h
record_kept (Some name) before now OutOfMemory h = λ four. absurd (omega (arith, four))

-- a run was made, whatever its record came to
pub is_made : (work : Work) (o : Outcome) (f : Failure) → IsOwnOutcome work o → IsMade work f
is_made work o (Input line) is = tt
is_made work o (NotWritten line) is = (o, is)
is_made work o (Refused line) is = tt
is_made work o (Layout line) is = tt
is_made work o (Record line) is = tt
is_made work o (Text line) is = tt
is_made work o Output is = tt
is_made work o OutOfMemory is = tt

-- a run that was out of memory before its record was written
pub wants_memory : (o : Option (List ℕ)) (now : FilesState) → IsRecordFailure o now now OutOfMemory
wants_memory None now = refl
wants_memory (Some name) now = inl refl

-- a text that isn't put is no refusal
pub put_kept : (IsTextFor : List ℕ → ℕ → Type 0) (state out : SinkState) (before now : FilesState)
    (f : Failure) → FailsAs IsTextFor IsNever IsNever state out f → AreKept before now f
put_kept IsTextFor state out before now (Input line) h = absurd h
put_kept IsTextFor state out before now (NotWritten line) h = absurd h
put_kept IsTextFor state out before now (Refused line) h = absurd h.0
put_kept IsTextFor state out before now (Layout line) h = absurd h.0
put_kept IsTextFor state out before now (Record line) h = absurd h
put_kept IsTextFor state out before now (Text line) h = absurd h
put_kept IsTextFor state out before now Output h = λ four. absurd (omega (arith, four))
put_kept IsTextFor state out before now OutOfMemory h = λ four. absurd (omega (arith, four))

-- what holds whatever comes of a call
pub always : {T E : Type 0} (P : T → Type 0) (r : Result T E) → ((x : T) → P x) → IfOk r P
always P (Ok x) h = h x
always P (Err e) h = tt

pub always_err : {T E : Type 0} (P : E → Type 0) (r : Result T E) → ((e : E) → P e) → IfErr r P
always_err P (Ok x) h = tt
always_err P (Err e) h = h e
