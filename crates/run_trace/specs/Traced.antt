-- What an event of a run did, as a function of the nodes and lists before it.
use Rattle.std.specs.Prelude.{ℕ, Bool, true, false, not, ◌&&◌, nat_lt, if◌then◌else◌, List, [], ◌∷◌, map, Option, Some, None, is_some, option_and_then}
use Rattle.std.specs.Option.{option_map, option_map_or}
use Rattle.block_layout.specs.Layout.{Shape, blocks}
use Rattle.rv32_program.specs.declared.End.{End}
use Rattle.replay.specs.node_model.rv32_step.OneMemory.{Access, Nothing, Reads, Writes, WritesIf, Exchanges}
use Rattle.state_table.specs.declared.State.{State}
use Rattle.replay.specs.node_model.home_directory.dsm_messages.declared.messages.Message.{Message}
use Rattle.replay.specs.node_model.home_directory.dsm_messages.declared.messages.Wire.{Wire}
use Rattle.replay.specs.node_model.home_directory.dsm_messages.declared.headers.Header.{Header}
use Rattle.replay.specs.node_model.home_directory.dsm_messages.declared.headers.Sent.{Sent}
use Rattle.replay.specs.node_model.home_directory.dsm_messages.Headers.{header_of, sent_by}
use Rattle.replay.specs.node_model.miss_handlers.Rows.{Row, row_of, clears}
use Rattle.templates.specs.declared.places.Place.{Place}
use Rattle.templates.specs.declared.plans.PlanEntry.{PlanEntry}
use Rattle.replay.specs.node_model.jump_map.Maps.{old_of}
use Rattle.replay.specs.node_model.Node.{Work, Node, Tally, Nothing_counted, Phase, Waiting, word_outcome, tally_resumed, end_of}
use Rattle.replay.specs.node_model.Turns.{Turn, holding, after_wants, after_message}
use Rattle.replay.specs.node_model.Core.{Core, Event, Exec, Take}
use Rattle.replay.specs.node_machine.Wanted.{block_with, state_at, wants_of_word}
use Rattle.replay.specs.node_machine.declared.wanted.Wanted.{Wanted}
use Rattle.replay.specs.run_order.OwnRun.{Stamped, maker}
use Rattle.replay.specs.rewriting_law.CoreRun.{commits}
use Rattle.run_trace.specs.declared.traced.AccessKind.{AccessKind}
use Rattle.run_trace.specs.declared.traced.AccessKind.TheVariants as access
pub use Rattle.run_trace.specs.declared.traced.Accessed.{Accessed}

-- 1. What a word did

abbrev pub access_at : Shape → AccessKind → (address : ℕ) → Option Accessed
access_at layout k a = Some (record { kind = k; address = a; block = block_with layout a })

abbrev pub accessed : Shape → Access → Option Accessed
accessed layout Nothing = None
accessed layout (Reads width a value) = access_at layout access.Reads a
accessed layout (Writes width a value) = access_at layout access.Writes a
accessed layout (WritesIf a value true) = access_at layout access.Writes a
accessed layout (WritesIf a value false) = access_at layout access.WritesNot a
accessed layout (Exchanges a old new) = access_at layout access.Exchanges a

-- what a word did: where it stands, whether it commits a step of the original, what it accesses,
-- which blocks it wants, what it counts, prints and sends, and how the processor ended by it, for
-- then farewells go to all nodes
pub record OfWord : Type 0 where
  pub place : Option Place
  pub commits : Bool
  pub access : Option Accessed
  pub wants : List Wanted
  pub tally : Tally
  pub printed : Option ℕ
  pub sends : List Sent
  pub end : Option End

abbrev pub word_traced : Work → List PlanEntry → Node → OfWord
word_traced work plan n = record {
  place = old_of work.image n.lane.at;
  commits = commits work plan n;
  access = accessed work.layout (word_outcome work n).access;
  wants = wants_of_word work n;
  tally = (word_outcome work n).tally;
  printed = (word_outcome work n).printed;
  sends = map sent_by (after_wants work n).sends;
  end = end_of (after_wants work n).node.phase;
}

-- 2. What taking a message did

abbrev pub waits_for : Node → Option ℕ → Bool
waits_for n b = option_map_or (λ b. is_some (n.wait b)) b false

abbrev pub is_waiting : Phase → Bool
is_waiting (Waiting resume) = true
is_waiting phase = false

-- what a node counts that goes on after a wait
abbrev pub tally_of_wait : Node → Phase → Tally
tally_of_wait n (Waiting resume) = tally_resumed n.local resume
tally_of_wait n phase = Nothing_counted

-- the state of a block at a node, where it is one of the layout
abbrev pub state_if : Shape → Node → Option ℕ → Option State
state_if layout n b =
    option_and_then (λ b. if nat_lt b (blocks layout) then state_at layout n (Some b) else None) b

-- the first holds, and the second doesn't
abbrev pub stops : Bool → Bool → Bool
stops before now = before && not now

-- what taking a message did: from whom it came and when it was sent; whether it met a row of the
-- table; the state of its block before and after; whether it ended the wait for that block, gave
-- the block up, ended the reservation, and let the node go on; what was counted and sent; and how
-- the processor ended, where that came of it, for then farewells go to all nodes
pub record OfTake : Type 0 where
  pub from : ℕ
  pub sent : ℕ
  pub message : Header
  pub meets : Bool
  pub was : Option State
  pub becomes : Option State
  pub completes : Bool
  pub gives_up : Bool
  pub clears : Bool
  pub resumes : Bool
  pub tally : Tally
  pub sends : List Sent
  pub end : Option End

-- the row that a message from node j meets at a node
abbrev pub row_met : Shape → Node → (j : ℕ) → Message → Option Row
row_met layout n j m = row_of layout n.me (holding layout n) j m

-- an end that wasn't before
abbrev pub ends_anew : Option End → Option End → Option End
ends_anew None now = now
ends_anew (Some end) now = None

-- by the node before and the turn that it made
abbrev pub take_between : Shape → Node → (j : ℕ) → Wire → Turn → OfTake
take_between layout n j wire t = record {
  from = j;
  sent = wire.stamp;
  message = header_of wire.message;
  meets = is_some (row_met layout n j wire.message);
  was = state_if layout n (header_of wire.message).block;
  becomes = state_if layout t.node (header_of wire.message).block;
  completes = stops (waits_for n (header_of wire.message).block)
      (waits_for t.node (header_of wire.message).block);
  gives_up = option_map_or clears (row_met layout n j wire.message) false;
  clears = stops (is_some n.local.reservation) (is_some t.node.local.reservation);
  resumes = stops (is_waiting n.phase) (is_waiting t.node.phase);
  tally = if is_waiting t.node.phase then Nothing_counted else tally_of_wait t.node n.phase;
  sends = map sent_by t.sends;
  end = ends_anew (end_of n.phase) (end_of t.node.phase);
}

abbrev pub take_traced : Work → Node → (j : ℕ) → Wire → OfTake
take_traced work n j wire = take_between work.layout n j wire (after_message work n j wire)

-- 3. An event

pub data What : Type 0 where
  Word : (word : OfWord) → What
  Taken : (take : OfTake) → What

pub record Traced : Type 0 where
  pub stamp : ℕ
  pub node : ℕ
  pub what : What

-- of a list without a message there is nothing to take
abbrev pub first_traced : Work → Node → (j : ℕ) → List Wire → Option What
first_traced work n j [] = None
first_traced work n j (wire ∷ rest) = Some (Taken (take_traced work n j wire))

abbrev pub what_at : Work → List PlanEntry → Core → Event → Option What
what_at work plan c (Exec i) = Some (Word (word_traced work plan (c.nodes i)))
what_at work plan c (Take i j) = first_traced work (c.nodes i) j (c.list j i)

-- what an event does that comes where a core stands
abbrev pub traced_at : Work → List PlanEntry → Core → Stamped → Option Traced
traced_at work plan c x =
    option_map (λ w. record { stamp = x.stamp; node = maker x; what = w })
    (what_at work plan c x.event)
