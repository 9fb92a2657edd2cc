-- Helps the code alone: what is seen of a take before and after it.
use Rattle.std.specs.Prelude.{◌≡◌, ℕ, Bool, true, false, not, ◌||◌, ◌==◌, nat_lt, if◌then◌else◌, List, [], ◌∷◌, Option, None, Some, is_some, map, option_and_then}
use Rattle.std.specs.Borrow.{Bor}
use Rattle.block_layout.specs.Layout.{Shape, blocks}
use Rattle.replay.specs.node_model.home_directory.dsm_messages.declared.messages.Wire.{Wire}
use Rattle.replay.specs.node_model.home_directory.declared.wait.Wait.{Wait}
use Rattle.replay.specs.node_model.home_directory.dsm_messages.Headers.{header_of, sent_by}
use Rattle.replay.specs.node_model.Node.{Work, Node, end_of}
use Rattle.replay.specs.node_model.Turns.{block_at, take_turn}
use Rattle.replay.specs.dsm_core.declared.seen.Seen.{Seen}
use Rattle.replay.specs.dsm_core.declared.seen.Incoming.{Incoming}
use Rattle.replay.specs.dsm_core.Seen.{incoming_of}
use Rattle.run_trace.specs.declared.takes.BlockView.{BlockView}
use Rattle.run_trace.specs.declared.takes.Sight.{Sight}
use Rattle.run_trace.specs.Traced.{waits_for, is_waiting}

abbrev pub has_items : {A : Type 0} → List A → Bool
has_items [] = false
has_items (x ∷ xs) = true

abbrev pub answered_in : Option Wait → Bool
answered_in None = false
answered_in (Some w) = is_some w.answer

abbrev pub counted_in : Option Wait → ℕ
counted_in None = 0
counted_in (Some w) = w.counted

-- a wait that is lent, or none
abbrev pub IsShown : Option (Bor Wait) → Option Wait → Type 0
IsShown None w = w ≡ None
IsShown (Some lent) w = w ≡ Some lent.now

-- what a node has of a block that a message can change
abbrev pub view_of : Shape → Node → ℕ → BlockView
view_of layout n b = record {
  state = (block_at layout n b).state;
  busy = is_some (n.entry b).busy;
  answered = answered_in (n.wait b);
  counted = counted_in (n.wait b);
}

abbrev pub view_in : Shape → Node → Option ℕ → Option BlockView
view_in layout n b =
    option_and_then (λ b. if nat_lt b (blocks layout) then Some (view_of layout n b) else None) b

abbrev pub sight_of : Shape → Node → Option ℕ → Sight
sight_of layout n b = record {
  view = view_in layout n b;
  waits_for = waits_for n b;
  pending = n.occupancy;
  reserved = is_some n.local.reservation;
  waits = is_waiting n.phase;
  end = end_of n.phase;
  counts = n.counts;
}

-- a home is no longer busy, or a wait has gone on
abbrev pub is_apart : Bool → Bool → Bool
is_apart true b = not b
is_apart false b = b

abbrev pub is_other : Option BlockView → Option BlockView → Bool
is_other None now = false
is_other (Some before) None = false
is_other (Some before) (Some now) =
    is_apart before.busy now.busy
    || (is_apart before.answered now.answered || not (before.counted == now.counted))

abbrev pub is_changed : Sight → Sight → Bool
is_changed before now =
    not (before.pending == now.pending) || is_other before.view now.view

abbrev pub block_of_first : Option Incoming → Option ℕ
block_of_first first = option_and_then (λ (i : Incoming). i.header.block) first

-- this was seen before a node took a message, while it was made, and after it
pub record IsAfterTake (work : Work) (n : Node) (j : ℕ) (wire : Wire) (i : Incoming)
    (before : Sight) (s : Seen) (after : Sight) (nodes : ℕ) : Type 0
  where
    pub incoming : i ≡ incoming_of wire
    pub seen_before : before ≡ sight_of work.layout n (header_of wire.message).block
    pub sends : s.sends.items ≡ map sent_by (take_turn work n j wire).sends
    pub seen_after : after
        ≡ sight_of work.layout (take_turn work n j wire).node (header_of wire.message).block
    pub count : nodes ≡ work.layout.nodes
