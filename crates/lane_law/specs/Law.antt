-- A run of nodes of several processors beside a run of the original processors on one memory.
use Rattle.std.specs.Prelude.{◌≡◌, ℕ, ◌+◌, ◌*◌, ◌<◌, ◌≤◌, true, false, List, [], ◌∷◌, Some}
use Rattle.block_layout.specs.Layout.{IsValid, block_of}
use Rattle.flag_memory.specs.Flag.{flag_byte}
use Rattle.rv32_program.specs.declared.Class.TheVariants.{Shared}
use Rattle.rv32_program.specs.declared.End.TheVariants.{Stopped}
use Rattle.rv32_program.specs.Program.{IsAccepted, class_at, line_of}
use Rattle.rv32_step.specs.OneMemory.{Original, State, opening, IsRun, run, values_read}
use Rattle.templates.specs.declared.plans.PlanEntry.{PlanEntry}
use Rattle.node_model.specs.jump_map.Image.{IsRewriting}
use Rattle.node_model.specs.Node.{Phase, Ended, IsLaidOver, is_readable_state, is_writable_state, word_outcome}
use Rattle.home_directory.specs.dsm_messages.declared.messages.Wire.{Wire}
use Rattle.node_model.specs.miss_handlers.Rows.{Row, row_of, is_bye}
use Rattle.node_model.specs.Turns.{holding}
use Rattle.rewriting_law.specs.CoreRun.{commits}
use Rattle.rewriting_law.specs.Licence.{Licensed}
use Rattle.rewriting_law.specs.Interleaving.{EndsAs}
use Rattle.lane_model.specs.Nodes.{LaneWork, processors, as_node}
use Rattle.lane_model.specs.Core.{LaneCore, LaneEvent, Exec, Take, May, opening_core, event_step, after, is_over, printed_by}
use Rattle.lane_law.specs.Picks.{seen_by, picks_of, values_of}

-- rewritten code of an accepted program, by some admissible plan, on one to four lanes of each node
-- of a layout of its shared lines, and on no more than 16 processors
pub record RunsOnLanes (w : LaneWork) (plan : List PlanEntry) : Type 0 where
  pub accepted : IsAccepted w.work.program
  pub valid : IsValid w.work.layout
  pub laid_over : IsLaidOver w.work.program w.work.layout
  pub rewriting : IsRewriting w.work.program plan w.work.image
  pub some : 0 < w.lanes
  pub four : w.lanes ≤ 4
  pub few : processors w ≤ 16

-- the original that the nodes' code was rewritten from, with a processor for each lane
abbrev pub original_by_lane : LaneWork → Original
original_by_lane w = record {
  program = w.work.program;
  layout = w.work.layout;
  nodes = processors w;
}

-- the state of the original after the picks of a run from the start
abbrev pub original_after : LaneWork → List PlanEntry → List LaneEvent → State
original_after w plan events =
    run (original_by_lane w) (opening (original_by_lane w))
    (picks_of w plan (opening_core w) events)

-- a word that commits makes a licensed access, by the node as it stands before the word
abbrev pub IsLicensed : LaneWork → List PlanEntry → LaneCore → LaneEvent → Type 0
IsLicensed w plan c (Exec p) =
    commits w.work plan (seen_by w c p) ≡ true
    → Licensed (seen_by w c p).local (word_outcome w.work (seen_by w c p)).access
IsLicensed w plan c (Take i j) = Unit {0}

-- so does each word of a run that commits
abbrev pub AllLicensed : LaneWork → List PlanEntry → LaneCore → List LaneEvent → Type 0
AllLicensed w plan c [] = Unit {0}
AllLicensed w plan c (e ∷ es) =
    IsLicensed w plan c e × AllLicensed w plan (event_step w c e) es

-- the phase of processor p
abbrev pub phase_of : LaneWork → LaneCore → (p : ℕ) → Phase
phase_of w c p = (seen_by w c p).phase

-- the run from the start is, by its picks, an interleaved run of the original processors: each
-- reads the same values, they print the same bytes, and they have the same exits
pub record Interleaves (w : LaneWork) (plan : List PlanEntry) (events : List LaneEvent)
    : Type 0 where
  pub allowed : IsRun (original_by_lane w) (opening (original_by_lane w))
      (picks_of w plan (opening_core w) events)
  pub values : (p : ℕ) → p < processors w → values_read (original_by_lane w) p
      (opening (original_by_lane w)) (picks_of w plan (opening_core w) events)
      ≡ values_of w plan p (opening_core w) events
  pub output : (original_after w plan events).output ≡ printed_by w (opening_core w) events
  pub ends : (p : ℕ) → p < processors w → EndsAs w.work.budget
      ((original_after w plan events).processors p).exit
      (phase_of w (after w (opening_core w) events) p)

-- the nodes' copies are coherent with one memory: each shared byte that a node may read is there as
-- in the memory, each other is the flag word's, and a block that a node may write no other may read
pub record IsCoherent (w : LaneWork) (c : LaneCore) (memory : ℕ → ℕ) : Type 0 where
  pub reads : (i a : ℕ) → i < w.work.layout.nodes → class_at w.work.program a ≡ Shared
      → is_readable_state ((c.nodes i).shared.state (line_of a)) ≡ true
      → (c.nodes i).shared.copy a ≡ memory a
  pub flags : (i a : ℕ) → i < w.work.layout.nodes → class_at w.work.program a ≡ Shared
      → is_readable_state ((c.nodes i).shared.state (line_of a)) ≡ false
      → (c.nodes i).shared.copy a ≡ flag_byte a
  pub one_writer : (i j x y b : ℕ) → i < w.work.layout.nodes → j < w.work.layout.nodes
      → block_of w.work.layout x ≡ Some b → block_of w.work.layout y ≡ Some b
      → is_writable_state ((c.nodes i).shared.state x) ≡ true
      → is_readable_state ((c.nodes j).shared.state y) ≡ true → j ≡ i

-- the processors have the same addresses reserved as the original's
abbrev pub SameReservations : LaneWork → LaneCore → State → Type 0
SameReservations w c s =
    (p : ℕ) → p < processors w → (seen_by w c p).local.reservation ≡ s.reservations p

-- where a node isn't over some event is allowed
abbrev pub GoesOn : LaneWork → LaneCore → Type 0
GoesOn w c =
    (i : ℕ) → i < w.work.layout.nodes → is_over w (c.nodes i) ≡ false
    → (event : LaneEvent) × May w c event

-- a processor that is stopped has executed exactly its budget
abbrev pub StopsAtBudget : LaneWork → LaneCore → Type 0
StopsAtBudget w c =
    (p budget : ℕ) → p < processors w → phase_of w c p ≡ Ended (Stopped budget)
    → (budget ≡ w.work.budget) × ((seen_by w c p).executed ≡ w.work.budget)

-- each node is over, and every list is empty
abbrev pub AreAllOver : LaneWork → LaneCore → Type 0
AreAllOver w c = (i : ℕ) → i < w.work.layout.nodes → is_over w (c.nodes i) ≡ true

abbrev pub AreEmpty : LaneWork → LaneCore → Type 0
AreEmpty w c =
    (j i : ℕ) → j < w.work.layout.nodes → i < w.work.layout.nodes → c.list j i ≡ []

-- the first message of a list has its row at the node that it is for, or is a Bye
abbrev pub HaveRows : LaneWork → LaneCore → Type 0
HaveRows w c =
    (i j : ℕ) (wire : Wire) (rest : List Wire) → i < w.work.layout.nodes
    → j < w.work.layout.nodes → c.list j i ≡ wire ∷ rest → is_bye wire.message ≡ false
    → (row : Row) × (row_of w.work.layout (c.nodes i).shared.me
    (holding w.work.layout (as_node (c.nodes i) 0)) j wire.message ≡ Some row)

-- The most events that the nodes can make. Each word wants two blocks at most, and the messages of
-- one miss are at most 2n + 2; and each node takes a Bye of each.
abbrev pub most_lane_events : LaneWork → ℕ
most_lane_events w =
    (4 * w.work.layout.nodes + 5) * (processors w * w.work.budget)
    + w.work.layout.nodes * w.work.layout.nodes
