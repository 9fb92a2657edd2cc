-- Helps the code alone: what lanes, and the node that they share, store, and what it stands for.
use Rattle.std.specs.Prelude.{◌≡◌, ◌⊎◌, ℕ, ◌+◌, ◌*◌, ◌<◌, ◌≤◌, Bool, true, false, List, [], ◌∷◌, length, slice_index_or, Option, Some, is_some}
use Rattle.buf_pool.specs.Pool.{Slots}
use Rattle.block_layout.specs.Layout.{Shape}
use Rattle.block_layout.specs.Update.{changed}
use Rattle.exec_map.specs.Contents.{program_of}
use Rattle.home_directory.specs.dsm_messages.declared.messages.Post.{Post}
use Rattle.home_directory.specs.declared.wait.Wait.{Wait}
use Rattle.home_directory.specs.Effects.{entry_at, entries_of, members}
use Rattle.home_directory.specs.Home.{count_of}
use Rattle.node_machine.specs.miss_handlers.Waits.{NodeWaits}
use Rattle.lane_model.specs.node_model.jump_map.Image.{Cell}
use Rattle.node_machine.specs.node_words.declared.exec_state.ExecState.{ExecState}
use Rattle.node_machine.specs.node_words.declared.lane.ProcessorState as kept
use Rattle.node_machine.specs.node_words.declared.serve.Served.{Served}
use Rattle.node_machine.specs.node_words.Address.{word_address}
use Rattle.node_machine.specs.node_words.node_memory.Shelf.{ground_of, local_of}
use Rattle.node_machine.specs.node_words.Kept.{lane_of, phase_by}
use Rattle.lane_model.specs.node_model.Node.{Node, Work, printed_also, word_outcome}
use Rattle.lane_model.specs.node_model.Turns.{after_word, each_block_once, wants_of, words_before}
use Rattle.node_machine.specs.declared.protocol_state.ProtocolState.{ProtocolState}
use Rattle.node_machine.specs.States as states
use Rattle.node_machine.specs.NodeState.{with_parts, phase_of, layout_of, entries_in, IsProtocolState, IsLaneState, AreCountsBelow, WaitsInPhase}
use Rattle.lane_model.specs.Nodes.{LaneWork, LanePart, Shared, LaneNode}
use Rattle.lane_model.specs.Turns.{Asked, LaneTurn, ask_all, held_by, has_ended, resumed}
use Rattle.lane_machine.specs.declared.lane_protocol.LaneProtocol.{LaneProtocol}
use Rattle.lane_machine.specs.declared.stored.StoredLane.{StoredLane}
use Rattle.lane_machine.specs.declared.stored.StoredShared.{StoredShared}
use Rattle.lane_machine.specs.Waits.{wait_among, place_among, waits_in, awaits_of, AreApart}
use Rattle.lane_machine.specs.Places.{pools_in, reserved_in, wait_at}

-- 1. A node at rest

-- the node as lane k sees it: its reservation, and the waits of all its lanes
abbrev pub seen : Node → (k : ℕ) → ExecState → ProtocolState → List LaneProtocol → Node
seen n k b d places = record (with_parts n b d) {
  local = record (local_of b.local) { reservation = reserved_in places k };
  wait = wait_among (waits_in places);
}

abbrev pub seen_with : Node → (k : ℕ) → ExecState → ProtocolState → List LaneProtocol → List Bool
    → Node
seen_with n k b d places byes = record (seen n k b d places) { byes = members byes }

-- with the lane at a word
abbrev pub seen_at : Node → (k : ℕ) → kept.ProcessorState → (at : ℕ) → ExecState → ProtocolState
    → List LaneProtocol → Node
seen_at n k l at b d places =
    record (seen n k b d places) { lane = lane_of l (word_address at) }

-- a lane's waits, with its buffers, are as a node's of one lane
pub record IsKept (layout : Shape) (w : NodeWaits) (q : Slots) : Type 0 where
  pub waits : w.layout ≡ layout
  pub slots : q.slots ≡ 2
  pub bytes : q.bytes ≡ 4096
  pub buffers : q.free + length w.waits ≡ 2

abbrev pub AreKept : Shape → List NodeWaits → List Slots → Type 0
AreKept layout [] qs = Unit {0}
AreKept layout (w ∷ ws) [] = ⊥
AreKept layout (w ∷ ws) (q ∷ qs) = IsKept layout w q × AreKept layout ws qs

-- no place is in use
pub record IsAtRest (layout : Shape) (d : ProtocolState) (places : List LaneProtocol) : Type 0 where
  pub protocol : IsProtocolState layout d
  pub empty : length d.waits.waits ≡ 0
  pub kept : AreKept layout (waits_in places) (pools_in places)
  pub apart : AreApart (waits_in places)

abbrev pub work_in : ExecState → List Cell → (budget : ℕ) → Work
work_in b image budget = record {
  program = program_of b.local.program;
  image = image;
  layout = layout_of b;
  budget = budget;
}

-- what a node's next word wants, and what came of it
abbrev pub word_asks : Work → Node → Asked
word_asks work n =
    ask_all work.layout (each_block_once work.layout (wants_of (word_outcome work n).move))
    (record { turn = after_word work n; again = false })

-- the node then: its lane has executed a word more
abbrev pub served : Node → (budget : ℕ) → Served → Node
served n budget done = record n {
  executed = n.executed + 1;
  phase = phase_by budget (n.executed + 1) done.following;
  stamp = n.stamp + 1;
  output = printed_also n.output (n.stamp + 1) done.output;
}

-- 2. What a lane, and what the lanes share, stand for

abbrev pub part_of : StoredLane → LanePart
part_of l = record {
  lane = lane_of l.lane (word_address l.state.at);
  executed = l.state.executed;
  phase = phase_of l.state.phase;
  awaits = awaits_of l.awaits;
  again = l.again;
}

abbrev pub shared_of : StoredShared → Shared
shared_of f = record {
  me = f.state.protocol.directory.me;
  copy = (local_of f.state.body.value.local).copy;
  state = (local_of f.state.body.value.local).state;
  reservation = reserved_in f.places.items;
  entry = entries_in f.state.protocol.directory.layout f.state.protocol.directory.me
      (entry_at f.state.protocol.directory.entries);
  waiting = (entries_of f.state.protocol.directory).waiting;
  occupancy = (entries_of f.state.protocol.directory).occupancy;
  wait = wait_among (waits_in f.places.items);
  holder = held_by (wait_among (waits_in f.places.items)) (place_among (waits_in f.places.items));
  byes = members f.state.byes;
  stamp = f.state.stamp;
  journal = f.state.journal.items;
  output = f.state.output.items;
  counts = f.state.body.value.counts;
}

-- what they run
abbrev pub work_of : StoredLane → StoredShared → LaneWork
work_of l f = record {
  work = work_in f.state.body.value l.state.image.now l.state.budget;
  lanes = length f.places.items;
}

-- how many of a node's lanes have ended
abbrev pub ended_in : LaneNode → (lanes : ℕ) → ℕ
ended_in x lanes = count_of (has_ended x) lanes

-- the lane, and what it shares, are those of a node
pub record HasLane (l : StoredLane) (f : StoredShared) (x : LaneNode) : Type 0 where
  pub lane : x.lanes l.number ≡ part_of l
  pub shared : x.shared ≡ shared_of f
  pub ended : f.ended ≡ ended_in x (length f.places.items)

-- the node where this lane, and what it shares, are others
abbrev pub with_lane : LaneNode → StoredLane → StoredShared → LaneNode
with_lane x l f =
    record { lanes = changed x.lanes l.number (part_of l); shared = shared_of f }

abbrev pub lane_turn : LaneNode → List Post → Option ℕ → LaneTurn
lane_turn x posts p = record { node = x; sends = posts; printed = p }

-- what is true of every lane
pub record IsLane (l : StoredLane) : Type 0 where
  pub state : IsLaneState l.state
  pub awaits : WaitsInPhase (phase_of l.state.phase) (length (awaits_of l.awaits))

-- what is true of what lanes share
pub record IsShared (f : StoredShared) : Type 0 where
  pub rest : IsAtRest (layout_of f.state.body.value) f.state.protocol f.places.items
  pub layout : f.layout ≡ layout_of f.state.body.value
  pub some : 0 < length f.places.items
  pub few : length f.places.items ≤ 4
  pub noted : f.state.noted ≡ words_before f.state.journal.items
  pub counts : AreCountsBelow (32 * f.state.stamp) f.state.body.value.counts

-- what lanes share stands for the same
pub record IsSameShared (f g : StoredShared) : Type 0 where
  pub shared : shared_of g ≡ shared_of f
  pub places : g.places.items ≡ f.places.items
  pub ground : ground_of g.state.body.value.local ≡ ground_of f.state.body.value.local
  pub ended : g.ended ≡ f.ended

-- there is room for one entry of the journal and one byte of output
abbrev pub HasRoom : StoredShared → Type 0
HasRoom f = states.HasRoom f.state

-- the lane waits for this block
abbrev pub IsAwaited : StoredLane → (b : ℕ) → Type 0
IsAwaited l b = (l.awaits.first ≡ Some b) ⊎ (l.awaits.other ≡ Some b)

-- the node waits on behalf of a lane for blocks that the lane waits for
abbrev pub WaitsFor : StoredLane → StoredShared → Type 0
WaitsFor l f =
    (b : ℕ) → is_some (wait_at f.places.items l.number b) ≡ true → IsAwaited l b

-- the node has a wait for each block that the lane waits for
abbrev pub IsHeld : StoredLane → StoredShared → Type 0
IsHeld l f =
    (b : ℕ) → IsAwaited l b → is_some (wait_among (waits_in f.places.items) b) ≡ true

-- what an event doesn't change of a lane that executes no word
pub record IsSameLane (l m : StoredLane) : Type 0 where
  pub image : m.state.image.now ≡ l.state.image.now
  pub budget : m.state.budget ≡ l.state.budget
  pub number : m.number ≡ l.number

abbrev pub AllWaitFor : List StoredLane → StoredShared → Type 0
AllWaitFor ls f = (k : ℕ) (d : StoredLane) → k < length ls → WaitsFor (slice_index_or ls k d) f

abbrev pub AllHeld : List StoredLane → StoredShared → Type 0
AllHeld ls f = (k : ℕ) (d : StoredLane) → k < length ls → IsHeld (slice_index_or ls k d) f

-- lane k of the nodes that run this
pub record IsLaneOf (w : LaneWork) (k : ℕ) (l : StoredLane) : Type 0 where
  pub image : l.state.image.now ≡ w.work.image
  pub budget : l.state.budget ≡ w.work.budget
  pub number : l.number ≡ k

-- the lanes of a node, in order
pub record AreLanes (w : LaneWork) (ls : List StoredLane) (f : StoredShared) : Type 0 where
  pub count : length ls ≡ w.lanes
  pub places : length f.places.items ≡ w.lanes
  pub program : program_of f.state.body.value.local.program ≡ w.work.program
  pub layout : layout_of f.state.body.value ≡ w.work.layout
  pub each : (k : ℕ) (d : StoredLane) → k < length ls → IsLaneOf w k (slice_index_or ls k d)

abbrev pub HaveParts : List StoredLane → LaneNode → Type 0
HaveParts ls x =
    (k : ℕ) (d : StoredLane) → k < length ls → x.lanes k ≡ part_of (slice_index_or ls k d)

-- the lanes, and what they share, are those of a node
pub record HaveLanes (ls : List StoredLane) (f : StoredShared) (x : LaneNode) : Type 0 where
  pub lanes : HaveParts ls x
  pub shared : x.shared ≡ shared_of f
  pub ended : f.ended ≡ ended_in x (length f.places.items)

-- a lane has gone on where it waits for no block any more, by its node's waits and states
pub record HasGoneOn (state : ℕ → ℕ) (wait : ℕ → Option Wait) (l m : StoredLane) : Type 0 where
  pub part : (work : Work) (n : Node) → work.budget ≡ l.state.budget → n.wait ≡ wait
      → n.local.state ≡ state → part_of m ≡ resumed work n (part_of l)
  pub same : IsSameLane l m
  pub stays : ((b : ℕ) → IsAwaited l b → is_some (wait b) ≡ true)
      → phase_of m.state.phase ≡ phase_of l.state.phase
  pub held : (b : ℕ) → IsAwaited m b → is_some (wait b) ≡ true
  pub kept : (b : ℕ) → is_some (wait b) ≡ true → IsAwaited l b → IsAwaited m b
