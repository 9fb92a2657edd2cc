-- A replay of the record that a run left, by the two commands.
use Rattle.std.proofs.Common.{◌⊎◌, ℕ, List, subst}
use Rattle.dsm_io.specs.Causes.{Appends, AppendsPrefix}
use Rattle.dsm_io.specs.States.{FilesState, SinkState}
use Rattle.command_line.specs.Tasks.{RunArguments, ReplayArguments}
use Rattle.command_line.specs.Commands.{Command, Rewrite, Run, Listing, One, Sim, Replay, Generate, Assemble}
use Rattle.commands.specs.Again.{IsReplayOf, IsReplayOfRun, PutOneText}
use Rattle.commands.specs.Headline.{IsText, Prints, PrintsPrefix, held_by}
use Rattle.judged_files.specs.Inputs.{Inputs}
use Rattle.commands.specs.Inputs.{inputs_of}
use Rattle.commands.specs.Refusals.{IsRefused, IsLayoutRefused, IsRecordRefused}
use Rattle.commands.proofs.AgainLemmas.{HaveRecordLaws, replay_of_run, same_text}
use Rattle.commands.proofs.NotRefused.{HaveFaultLaws, not_refused}

module _ (contents later : List ℕ → List ℕ) (left : FilesState) where
  by_commands : (P : Command → Command → Type 0)
      → ((a : RunArguments) (b : ReplayArguments) → IsReplayOfRun contents later left a b
      → P (Run a) (Replay b))
      → (ran replay : Command) → IsReplayOf contents later left ran replay → P ran replay
  by_commands P here (Run a) (Replay b) is = here a b is
  by_commands P here (Run a) (Rewrite b) is = absurd is
  by_commands P here (Run a) (Run b) is = absurd is
  by_commands P here (Run a) (Listing b) is = absurd is
  by_commands P here (Run a) (One b) is = absurd is
  by_commands P here (Run a) (Sim b) is = absurd is
  by_commands P here (Run a) (Generate b) is = absurd is
  by_commands P here (Run a) (Assemble b) is = absurd is
  by_commands P here (Rewrite a) replay is = absurd is
  by_commands P here (Listing a) replay is = absurd is
  by_commands P here (One a) replay is = absurd is
  by_commands P here (Sim a) replay is = absurd is
  by_commands P here (Replay a) replay is = absurd is
  by_commands P here (Generate a) replay is = absurd is
  by_commands P here (Assemble a) replay is = absurd is

  -- the same text, and the same status
  pub prints_again : HaveRecordLaws → (ran replay : Command) (found : FilesState)
      (before now before_again now_again : SinkState) (status status_again : ℕ)
      → IsReplayOf contents later left ran replay → Prints ran contents left before now status
      → Prints replay later found before_again now_again status_again
      → PutOneText before now status before_again now_again status_again
  prints_again laws ran replay found before now before_again now_again status status_again is =
      by_commands (λ c d. Prints c contents left before now status
      → Prints d later found before_again now_again status_again
      → PutOneText before now status before_again now_again status_again) (λ a b is h k.
      let e = a.execution in
      let first : Inputs = inputs_of (Run a) contents in
      let second : Inputs = inputs_of (Replay b) later in
      let same = same_text laws first second e.nodes e.budget (held_by left a.record_file) e.brief
      b.brief h.text k.text status status_again is.left_record is.executable is.verified is.brief h.is
      k.is in
      record {
        text = h.text;
        put = h.put;
        put_again = subst (Appends before_again.taken now_again.taken) same.0 k.put;
        same_status = same.1;
      }) ran replay is

  -- the whole of a text of which the run put a prefix
  pub whole_again : HaveRecordLaws → (ran replay : Command) (found : FilesState)
      (before now before_again now_again : SinkState) (status : ℕ)
      → IsReplayOf contents later left ran replay → PrintsPrefix ran contents left before now
      → Prints replay later found before_again now_again status
      → (text : List ℕ) × AppendsPrefix before.taken now.taken text
      × Appends before_again.taken now_again.taken text
  whole_again laws ran replay found before now before_again now_again status is =
      by_commands (λ c d. PrintsPrefix c contents left before now
      → Prints d later found before_again now_again status
      → (text : List ℕ) × AppendsPrefix before.taken now.taken text
      × Appends before_again.taken now_again.taken text) (λ a b is h k.
      let e = a.execution in
      let first : Inputs = inputs_of (Run a) contents in
      let second : Inputs = inputs_of (Replay b) later in
      let same = same_text laws first second e.nodes e.budget (held_by left a.record_file) e.brief
      b.brief h.text k.text h.status status is.left_record is.executable is.verified is.brief h.is k.is in (
        h.text,
        h.put,
        subst (Appends before_again.taken now_again.taken) same.0 k.put,
      )) ran replay is

  -- no reason fits to refuse it
  pub taken_again : HaveRecordLaws → HaveFaultLaws → (ran replay : Command)
      (text line : List ℕ) (status : ℕ) → IsReplayOf contents later left ran replay
      → IsText ran left (inputs_of ran contents) text status
      → IsRefused replay (inputs_of replay later) line
      ⊎ (IsLayoutRefused replay (inputs_of replay later) line
      ⊎ IsRecordRefused replay (inputs_of replay later) line) → ⊥
  taken_again laws faults ran replay text line status is =
      by_commands (λ c d. IsText c left (inputs_of c contents) text status
      → IsRefused d (inputs_of d later) line ⊎ (IsLayoutRefused d (inputs_of d later) line
      ⊎ IsRecordRefused d (inputs_of d later) line) → ⊥) (λ a b is h.
      let e = a.execution in
      let first : Inputs = inputs_of (Run a) contents in
      let second : Inputs = inputs_of (Replay b) later in
      not_refused laws faults second h.outcome
      (replay_of_run laws first second e.nodes e.budget (held_by left a.record_file) h.outcome
      is.left_record is.executable is.verified h.is) line) ran replay is
