-- The view `time`: its files, its text, and how it succeeds and fails.
use Rattle.std.proofs.Common.{◌≡◌, ℕ, List, [], ◌++◌, take, drop, Option, Some, None, refl, sym, ap, ◌∙◌, subst, inl, inr, append_assoc, append-nil}
use Rattle.std.specs.Prelude.{All, false}
use Rattle.std.proofs.lemmas.List.{take-append-drop}
use Rattle.elf32_read.specs.Elf.{Elf}
use Rattle.templates.specs.declared.plans.PlanEntry.{PlanEntry}
use Rattle.node_model.specs.Node.{Work}
use Rattle.node_model.specs.Core.{opening_core, after}
use Rattle.node_model.specs.Outcome.{Outcome}
use Rattle.timed_sim.specs.declared.costs.Costs.{Costs}
use Rattle.timed_sim.specs.declared.costs.Spent.{Spent}
use Rattle.timed_sim.specs.Clock.{IsOutcomeByClock, clock_of, events_in}
use Rattle.command_line.specs.Views.{TimeArguments, Time, reads, writes}
use Rattle.dsm_io.specs.Causes.{Appends, AppendsPrefix}
use Rattle.dsm_io.specs.States.{FilesState, SinkState}
use Rattle.text_output.specs.declared.failure.Failure.{Failure}
use Rattle.text_output.specs.declared.failure.Failure.TheVariants.{Input, NotWritten, Refused, Layout, Record, Text, Output, OutOfMemory}
use Rattle.text_output.specs.Failures.{FailsAs, IsLike, IsNever, IsPutFailure, Puts}
use Rattle.text_output.proofs.Pieces.{fails_too, never, prefix_of, put_fails}
use Rattle.judged_files.specs.Inputs.{Inputs}
use Rattle.judged_files.specs.Refusals.{IsBadRunLayout, IsRunRefused}
use Rattle.prepared_run.specs.Outcomes.{IsTextOfOutcome, text_of}
use Rattle.prepared_run.specs.Ready.{GivesRuns, IsAskedWork}
use Rattle.prepared_run.proofs.Interleaving.{of_run}
use Rattle.views.specs.Failures.{IsFailure, IsSuccess, IsTextOfTime}
use Rattle.views.specs.Headline.{AreTold, Prints}
use Rattle.views.specs.Time.{IsTimeText, PrintsTime, costs_of, time_text, timed}
use Rattle.views.specs.Inputs.{AreInputs, list_of, time_files}
use Rattle.views.proofs.Inputs.{inputs_are}

-- 1. What is read

reads_with : (a : TimeArguments) (verified layout : Option (List ℕ))
    → reads (Time (record a { verified = verified; layout = layout }))
    ≡ list_of (time_files (record a { verified = verified; layout = layout }))
reads_with a None None = refl
reads_with a None (Some layout) = refl
reads_with a (Some verified) None = refl
reads_with a (Some verified) (Some layout) = refl

pub reads_are : (a : TimeArguments) → reads (Time a) ≡ list_of (time_files a)
reads_are a = reads_with a a.verified a.layout

-- and it writes none
writes_with : (a : TimeArguments) (verified layout : Option (List ℕ))
    → writes (Time (record a { verified = verified; layout = layout })) ≡ []
writes_with a None None = refl
writes_with a None (Some layout) = refl
writes_with a (Some verified) None = refl
writes_with a (Some verified) (Some layout) = refl

pub writes_none : (a : TimeArguments) → writes (Time a) ≡ []
writes_none a = writes_with a a.verified a.layout

pub files_are : (a : TimeArguments) (files : FilesState) (i : Inputs)
    (contents : List ℕ → List ℕ) → AreInputs files (time_files a) i
    → AreTold (Time a) files contents → i ≡ timed a contents
files_are a files i contents h told =
    inputs_are (Time a) (time_files a) files i contents (reads_are a) h told

-- 2. The text

-- the run by the clock is of the inputs
pub is_of_time : (inputs : Inputs) (nodes budget : ℕ) (costs : Costs) (elf : Elf)
    (plan : List PlanEntry) (work : Work) (o : Outcome) (spent : List Spent) (time steps : ℕ)
    → GivesRuns inputs nodes budget work → IsAskedWork inputs nodes budget elf plan work
    → IsOutcomeByClock work plan costs o spent time steps → All (λ s. clock_of s ≡ time) spent
    → IsTimeText inputs nodes budget costs (text_of o ++ time_text spent steps time)
is_of_time inputs nodes budget costs elf plan work o spent time steps gives asked ran sums = record {
  elf = elf;
  plan = plan;
  work = work;
  asked = asked;
  own = ran.own;
  outcome = o;
  is_run = gives (after work (opening_core work) (events_in ran.run)) ran.own o ran.stands ran.over
      ran.outcome;
  spent = spent;
  time = time;
  steps = steps;
  by_clock = ran;
  sums = sums;
  text_is = refl;
}

-- a prefix of a text is one of a longer text
longer : (before now : Option (List ℕ)) (text more : List ℕ) → AppendsPrefix before now text
    → AppendsPrefix before now (text ++ more)
longer before now text more h =
    prefix_of before now (take h.0 text) (drop h.0 text ++ more) (text ++ more)
    (ap (λ t. t ++ more) (sym (take-append-drop h.0 text))
    ∙ append_assoc (take h.0 text) (drop h.0 text) more) h.1

-- the text of the outcome wasn't put whole
pub outcome_unput : (o : Outcome) (more : List ℕ) (before now : SinkState) (f : Failure)
    → FailsAs (IsTextOfOutcome o) IsNever IsNever before now f
    → FailsAs (IsLike (text_of o ++ more)) IsNever IsNever before now f
outcome_unput o more before now (Input line) h = h
outcome_unput o more before now (NotWritten line) h = h
outcome_unput o more before now (Refused line) h = h
outcome_unput o more before now (Layout line) h = h
outcome_unput o more before now (Record line) h = h
outcome_unput o more before now (Text line) h = h
outcome_unput o more before now Output h = (
  h.0,
  (
    text_of o ++ more,
    h.1.1,
    refl,
    longer before.taken now.taken (text_of o) more
        (subst (AppendsPrefix before.taken now.taken) h.1.2.0 h.1.3),
  ),
)
outcome_unput o more before now OutOfMemory h = elim h [
  | inl same ↦ inl same
  | inr part ↦ inr (
    text_of o ++ more,
    part.1,
    refl,
    longer before.taken now.taken (text_of o) more
        (subst (AppendsPrefix before.taken now.taken) part.2.0 part.3),
  )
]

-- the lines of the times weren't put, behind the text of the outcome
pub times_unput : (text more : List ℕ) (start before now : SinkState) (f : Failure)
    → Appends start.taken before.taken text → before.faults ≡ start.faults
    → IsPutFailure before now more f → FailsAs (IsLike (text ++ more)) IsNever IsNever start now f
times_unput text more start before now f put same h =
    put_fails (IsLike (text ++ more)) IsNever IsNever (text ++ more) 0 start before now text more []
    f refl (ap (λ t. text ++ t) (sym (append-nil more))) put same h

-- 3. How the view succeeds, and how it fails

pub time_puts : (inputs : Inputs) (a : TimeArguments) (text : List ℕ) (before now : SinkState)
    → IsTimeText inputs a.nodes a.budget (costs_of a) text → Appends before.taken now.taken text
    → Puts (IsTextOfTime inputs a) 0 before now
time_puts inputs a text before now is put = (text, is, put)

pub time_unput : (inputs : Inputs) (a : TimeArguments) (text : List ℕ) (before now : SinkState)
    (f : Failure) → IsTimeText inputs a.nodes a.budget (costs_of a) text
    → FailsAs (IsLike text) IsNever IsNever before now f
    → FailsAs (IsTextOfTime inputs a) (IsRunRefused inputs) (IsBadRunLayout inputs a.nodes) before
    now f
time_unput inputs a text before now f is h =
    fails_too (IsLike text) (IsTextOfTime inputs a) IsNever IsNever (IsRunRefused inputs)
    (IsBadRunLayout inputs a.nodes) before now f
    (λ t status e. (status, subst (IsTimeText inputs a.nodes a.budget (costs_of a)) (sym e) is))
    (never (IsRunRefused inputs)) (never (IsBadRunLayout inputs a.nodes)) h

pub time_succeeds : (a : TimeArguments) (files : FilesState) (before now : SinkState) (i : Inputs)
    → AreInputs files (time_files a) i → Puts (IsTextOfTime i a) 0 before now
    → IsSuccess (Time a) files before now
time_succeeds a files before now i h puts = λ contents told. record {
  text = puts.0;
  is = subst (λ x. IsTextOfTime x a puts.0 0) (files_are a files i contents h told) puts.1;
  put = puts.2;
}

pub time_fails : (a : TimeArguments) (files files_now : FilesState) (before now : SinkState)
    (i : Inputs) (f : Failure) → AreInputs files (time_files a) i
    → FailsAs (IsTextOfTime i a) (IsRunRefused i) (IsBadRunLayout i a.nodes) before now f
    → IsFailure (Time a) files files_now before now f
time_fails a files files_now before now i (Input line) h failed = absurd failed
time_fails a files files_now before now i (NotWritten line) h failed = absurd failed
time_fails a files files_now before now i (Refused line) h failed = (
  failed.1,
  λ contents told. subst (λ x. IsRunRefused x line.items) (files_are a files i contents h told)
      failed.0,
)
time_fails a files files_now before now i (Layout line) h failed = (
  failed.1,
  λ contents told. subst (λ x. IsBadRunLayout x a.nodes line.items)
      (files_are a files i contents h told) failed.0,
)
time_fails a files files_now before now i (Record line) h failed = absurd failed
time_fails a files files_now before now i (Text line) h failed = failed
time_fails a files files_now before now i Output h failed = (
  failed.0,
  λ contents told. record {
    text = failed.1.0;
    is = subst (λ x. IsTextOfTime x a failed.1.0 failed.1.1) (files_are a files i contents h told)
        failed.1.2;
    put = failed.1.3;
  },
)
time_fails a files files_now before now i OutOfMemory h failed = λ contents told. elim failed [
  | inl same ↦ inl same
  | inr part ↦ inr (record {
    text = part.0;
    is = subst (λ x. IsTextOfTime x a part.0 part.1) (files_are a files i contents h told) part.2;
    put = part.3;
  })
]

-- 4. What is printed tells of the original

pub prints_time : (a : TimeArguments) (contents : List ℕ → List ℕ) (before now : SinkState)
    → Prints (Time a) contents before now → PrintsTime a contents before now
prints_time a contents before now h =
    let is : IsTimeText (timed a contents) a.nodes a.budget (costs_of a) h.text = h.is in
    record {
      text = h.text;
      is = is;
      tells = of_run (timed a contents) a.nodes a.budget is.work is.own is.outcome false
          (text_of is.outcome) is.is_run refl;
      put = h.put;
    }
