-- Helps the code alone: what a node stores, and the node that it stands for.
use Rattle.std.specs.Prelude.{◌≡◌, ℕ, ◌+◌, ◌*◌, ◌<◌, ◌≤◌, Bool, true, if◌then◌else◌, nat_lt, List, length}
use Rattle.block_layout.specs.Layout.{Shape, blocks}
use Rattle.run_limits.specs.Ranges.{IsBudget}
use Rattle.node_words.specs.exec_map.Contents.{program_of}
use Rattle.node_words.specs.home_directory.Home.{DirectoryEntry, first_entry}
use Rattle.node_words.specs.home_directory.Effects.{entry_at, entries_of, members}
use Rattle.node_words.specs.miss_handlers.Waits.{wait_of}
use Rattle.node_words.specs.jump_map.Image.{most_words}
use Rattle.node_words.specs.Address.{word_address}
use Rattle.node_words.specs.node_model.declared.NodeCounts.{NodeCounts}
use Rattle.node_words.specs.declared.exec_state.ExecState.{ExecState}
use Rattle.node_machine.specs.declared.protocol_state.ProtocolState.{ProtocolState}
use Rattle.node_machine.specs.declared.node_state.NodeState.{NodeState}
use Rattle.node_machine.specs.declared.phase.Phase as kept
use Rattle.node_machine.specs.declared.phase.Phase.TheVariants as kept_phase
use Rattle.node_words.specs.declared.serve.Following.{Following}
use Rattle.node_words.specs.declared.serve.Following.TheVariants as following_by
use Rattle.node_machine.specs.declared.states.LaneState.{LaneState}
use Rattle.node_machine.specs.States as states
use Rattle.node_words.specs.node_model.Node.{Node, Work, ProcessorState, NodeMemory, Phase, Running, Resumed, Waiting, Ended, can_execute, counts_after, lane_resumed, tally_resumed, stop_or}
use Rattle.node_words.specs.node_model.Turns.{words_before}
use Rattle.node_words.specs.node_memory.Shelf.{local_of}
use Rattle.node_words.specs.Kept.{lane_of, resume_of}

abbrev pub phase_of : kept.Phase → Phase
phase_of kept_phase.Running = Running
phase_of kept_phase.Resumed = Resumed
phase_of (kept_phase.Waiting resume) = Waiting (resume_of resume)
phase_of (kept_phase.Ended end) = Ended end

-- the entries by block; past the layout's last block they are those of the start
abbrev pub entries_in : Shape → (me : ℕ) → (ℕ → DirectoryEntry) → ℕ → DirectoryEntry
entries_in layout me entry b = if nat_lt b (blocks layout) then entry b else first_entry me

-- the layout that a node was made with
abbrev pub layout_of : ExecState → Shape
layout_of b = b.local.copy.layout

-- the node with what it has of blocks, and its counts, as they are stored here
abbrev pub with_parts : Node → ExecState → ProtocolState → Node
with_parts n b d = record n {
  local = local_of b.local;
  entry = entries_in d.directory.layout d.directory.me (entry_at d.directory.entries);
  waiting = (entries_of d.directory).waiting;
  occupancy = (entries_of d.directory).occupancy;
  wait = wait_of d.waits;
  counts = b.counts;
}

-- what a node runs
abbrev pub work_of : NodeState → Work
work_of f = record {
  program = program_of f.shared.body.value.local.program;
  image = f.lane.image.now;
  layout = layout_of f.shared.body.value;
  budget = f.lane.budget;
}

-- the node that it stands for
abbrev pub node_of : NodeState → Node
node_of f = record {
  me = f.shared.protocol.directory.me;
  lane = lane_of f.shared.body.value.lane (word_address f.lane.at);
  local = local_of f.shared.body.value.local;
  executed = f.lane.executed;
  phase = phase_of f.lane.phase;
  entry = entries_in f.shared.protocol.directory.layout f.shared.protocol.directory.me
      (entry_at f.shared.protocol.directory.entries);
  waiting = (entries_of f.shared.protocol.directory).waiting;
  occupancy = (entries_of f.shared.protocol.directory).occupancy;
  wait = wait_of f.shared.protocol.waits;
  byes = members f.shared.byes;
  stamp = f.shared.stamp;
  journal = f.shared.journal.items;
  output = f.shared.output.items;
  counts = f.shared.body.value.counts;
}

-- there is room for one entry of the journal and one byte of output
abbrev pub HasRoom : NodeState → Type 0
HasRoom f = states.HasRoom f.shared

-- the parts of the protocol are of one layout, and the two buffers are in the pool or belong to
-- waits
pub record IsProtocolState (layout : Shape) (d : ProtocolState) : Type 0 where
  pub directory : d.directory.layout ≡ layout
  pub waits : d.waits.layout ≡ layout
  pub slots : d.pool.slots ≡ 2
  pub bytes : d.pool.bytes ≡ 4096
  pub buffers : d.pool.free + length d.waits.waits ≡ 2

-- no count is above so many
pub record AreCountsBelow (most : ℕ) (c : NodeCounts) : Type 0 where
  pub read : c.read ≤ most
  pub exclusive : c.exclusive ≤ most
  pub upgrade : c.upgrade ≤ most
  pub falses : c.falses ≤ most
  pub invalidations : c.invalidations ≤ most
  pub fallbacks : c.fallbacks ≤ most
  pub messages : c.messages ≤ most

-- a node that waits has a wait, and no other has one
abbrev pub WaitsInPhase : Phase → (waits : ℕ) → Type 0
WaitsInPhase Running waits = waits ≡ 0
WaitsInPhase Resumed waits = waits ≡ 0
WaitsInPhase (Waiting resume) waits = 0 < waits
WaitsInPhase (Ended end) waits = waits ≡ 0

-- so many waits are left after a word, by what follows it
abbrev pub HasBegun : Following → (waits : ℕ) → Type 0
HasBegun following_by.GoesOn waits = waits ≡ 0
HasBegun (following_by.Waits resume want) waits = 0 < waits
HasBegun (following_by.Leaves exit) waits = waits ≡ 0

-- what is true of every processor
pub record IsLaneState (l : LaneState) : Type 0 where
  pub within : l.executed ≤ l.budget
  pub going : can_execute (phase_of l.phase) ≡ true → l.executed < l.budget
  pub range : IsBudget l.budget
  pub short : length l.image.now ≤ most_words

-- what is true of every node
pub record IsNode (f : NodeState) : Type 0 where
  pub lane : IsLaneState f.lane
  pub protocol : IsProtocolState (layout_of f.shared.body.value) f.shared.protocol
  pub waits : WaitsInPhase (phase_of f.lane.phase) (length f.shared.protocol.waits.waits)
  pub noted : f.shared.noted ≡ words_before f.shared.journal.items
  pub behind : f.shared.noted ≤ f.lane.executed
  pub counts : AreCountsBelow (19 * f.shared.stamp) f.shared.body.value.counts

-- the node with what it has of blocks, its counts and the Byes, as they are stored here
abbrev pub with_all : Node → ExecState → ProtocolState → List Bool → Node
with_all n b d byes = record (with_parts n b d) { byes = members byes }

-- the phase after a message, where no wait is left or some is
abbrev pub phase_resumed : (budget executed : ℕ) → (idle : Bool) → Phase → Phase
phase_resumed budget executed idle (Waiting resume) =
    if idle then stop_or budget executed Resumed else Waiting resume
phase_resumed budget executed idle phase = phase

-- the processor then, at its next word, by its node's lines
abbrev pub lane_after_wait : NodeMemory → (idle : Bool) → Phase → ProcessorState → ProcessorState
lane_after_wait n idle (Waiting resume) l = if idle then lane_resumed l n resume else l
lane_after_wait n idle phase l = l

-- the counts then
abbrev pub counts_after_wait : NodeMemory → (idle : Bool) → Phase → NodeCounts → NodeCounts
counts_after_wait n idle (Waiting resume) c =
    if idle then counts_after (tally_resumed n resume) c else c
counts_after_wait n idle phase c = c
