-- What the words of a recorded run count.
use Rattle.std.specs.Prelude.{◌≡◌, ℕ, Bool, true, false, All, List, [], ◌∷◌, ◌++◌, length, slice_index_or}
use Rattle.std.specs.List.{count_by}
use Rattle.check_costs.specs.elf_symbols.Symbols.{Symbol}
use Rattle.check_costs.specs.declared.counts.WordCounts.{WordCounts}
use Rattle.check_costs.specs.declared.labels.Label.{Label}
use Rattle.check_costs.specs.Counts.{by_kind, total}
use Rattle.check_costs.specs.Tally.{Executed, first_label, labels_of, tally_of}
use Rattle.run_trace.specs.node_model.jump_map.Image.{number_of_word}
use Rattle.run_trace.specs.node_model.jump_map.rv32_step.OneMemory.{Pick}
use Rattle.run_trace.specs.node_model.jump_map.templates.declared.plans.PlanEntry.{PlanEntry}
use Rattle.run_trace.specs.node_model.declared.NodeCounts.{NodeCounts}
use Rattle.run_trace.specs.node_model.Node.{Work, Node}
use Rattle.run_trace.specs.node_model.Core.{Core, Event, Exec, Take, event_step, opening_core}
use Rattle.run_trace.specs.node_model.Outcome.{counts_after}
use Rattle.run_trace.specs.replay.Replay.{TellsWholeRun}
use Rattle.run_trace.specs.replay.Told.{Told, events_told}
use Rattle.run_trace.specs.replay.run_record.declared.Record.{Record}
use Rattle.run_trace.specs.replay.rewriting_law.CoreRun.{commits, picks_of}
use Rattle.run_trace.specs.Steps.{is_step}

-- 1. The words of a run

-- the label of the word at an address of rewritten code
abbrev pub label_at : List Symbol → Work → List PlanEntry → (address : ℕ) → Label
label_at symbols work plan a =
    slice_index_or (labels_of symbols work.program.code plan) (number_of_word a)
    (first_label symbols)

-- the word that a node executes next
abbrev pub next_word : List Symbol → Work → List PlanEntry → Node → Executed
next_word symbols work plan n = record {
  label = label_at symbols work plan n.lane.at;
  commits = commits work plan n;
}

abbrev pub words_at : List Symbol → Work → List PlanEntry → Core → Event → List Executed
words_at symbols work plan c (Exec i) = next_word symbols work plan (c.nodes i) ∷ []
words_at symbols work plan c (Take i j) = []

-- the words that the events of a run execute, from a core on
abbrev pub words_from : List Symbol → Work → List PlanEntry → Core → List Event → List Executed
words_from symbols work plan c [] = []
words_from symbols work plan c (e ∷ es) =
    words_at symbols work plan c e ++ words_from symbols work plan (event_step work c e) es

-- those of the events that a record tells of
abbrev pub words_told : List Symbol → Work → List PlanEntry → List Told → List Executed
words_told symbols work plan told =
    words_from symbols work plan (opening_core work) (events_told told)

-- 2. What they count

-- an event executes a word
abbrev pub is_word : Event → Bool
is_word (Exec i) = true
is_word (Take i j) = false

-- the picks of the events that a record tells of: an interleaved run of the original, by the law of
-- rewriting
abbrev pub picks_told : Work → List PlanEntry → List Told → List Pick
picks_told work plan told = picks_of work plan (opening_core work) (events_told told)

-- The record tells of a whole run. Its words count this, function by function: in all each word
-- that its nodes execute, and each step of the original. And its nodes count this.
pub record AreCostsOf (symbols : List Symbol) (work : Work) (plan : List PlanEntry) (r : Record)
    (counts : List WordCounts) (nodes : List NodeCounts) : Type 0 where
  pub told : List Told
  pub whole : TellsWholeRun work r told
  pub counts_are : counts ≡ tally_of (length symbols) (words_told symbols work plan told)
  pub words : (total counts).words ≡ count_by is_word (events_told told)
  pub steps : (total counts).instructions ≡ count_by is_step (picks_told work plan told)
  pub kinds : All (λ c. by_kind c ≡ c.words) counts
  pub nodes_are : nodes ≡ counts_after work (events_told told)
