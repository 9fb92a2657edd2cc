-- A node of several processors, its lanes: what is each lane's own, and what they share.
use Rattle.std.specs.Prelude.{ℕ, zero, suc, ◌+◌, ◌*◌, ◌/◌, ◌%◌, Bool, true, false, ◌&&◌, ◌||◌, List, [], Option, None}
use Rattle.node_model.specs.home_directory.declared.wait.Wait.{Wait}
use Rattle.node_model.specs.home_directory.declared.directory.Request.{Request}
use Rattle.node_model.specs.home_directory.Home.{DirectoryEntry, first_entry}
use Rattle.node_model.specs.rv32_step.Registers.{registers_of, first_values}
use Rattle.node_model.specs.declared.NodeCounts.{NodeCounts}
use Rattle.node_model.specs.declared.Entry.{Entry as JournalEntry}
use Rattle.node_model.specs.declared.OutByte.{OutByte}
use Rattle.node_model.specs.Node.{Work, ProcessorState, NodeMemory, Node, Phase, Running, first_lane, first_local, no_counts}

-- what the nodes run, and how many lanes each of them has
pub record LaneWork : Type 0 where
  pub work : Work
  pub lanes : ℕ

-- the processors are numbered by node, and by lane on each: processor p is lane p mod m of node
-- p / m
abbrev pub processors : LaneWork → ℕ
processors w = w.work.layout.nodes * w.lanes

abbrev pub node_of : LaneWork → ℕ → ℕ
node_of w p = p / w.lanes

abbrev pub lane_of : LaneWork → ℕ → ℕ
lane_of w p = p % w.lanes

abbrev pub processor_of : LaneWork → (i k : ℕ) → ℕ
processor_of w i k = i * w.lanes + k

-- what is a lane's own: its processor's part, how many words it has executed, and whether it goes
-- on; the blocks that it waits for, and whether it executes its word again once it waits for none
pub record LanePart : Type 0 where
  pub lane : ProcessorState
  pub executed : ℕ
  pub phase : Phase
  pub awaits : List ℕ
  pub again : Bool

-- What the lanes of a node share. Each lane has a reservation of its own. The node waits for a
-- block on behalf of one lane, which is the holder of that wait.
pub record Shared : Type 0 where
  pub me : ℕ
  pub copy : ℕ → ℕ
  pub state : ℕ → ℕ
  pub reservation : (k : ℕ) → Option ℕ
  pub entry : ℕ → DirectoryEntry
  pub waiting : ℕ → List Request
  pub occupancy : ℕ
  pub wait : ℕ → Option Wait
  pub holder : (b : ℕ) → ℕ
  pub byes : ℕ → Bool
  pub stamp : ℕ
  pub journal : List JournalEntry
  pub output : List OutByte
  pub counts : NodeCounts

pub record LaneNode : Type 0 where
  pub lanes : (k : ℕ) → LanePart
  pub shared : Shared

-- what a lane's words see of the node
abbrev pub local_of : Shared → (k : ℕ) → NodeMemory
local_of s k =
    record { copy = s.copy; state = s.state; reservation = s.reservation k }

-- The node as lane k sees it. So a lane's words, and messages, do to its node what they do to a
-- node of one processor.
abbrev pub as_node : LaneNode → (k : ℕ) → Node
as_node x k = record {
  me = x.shared.me;
  lane = (x.lanes k).lane;
  local = local_of x.shared k;
  executed = (x.lanes k).executed;
  phase = (x.lanes k).phase;
  entry = x.shared.entry;
  waiting = x.shared.waiting;
  occupancy = x.shared.occupancy;
  wait = x.shared.wait;
  byes = x.shared.byes;
  stamp = x.shared.stamp;
  journal = x.shared.journal;
  output = x.shared.output;
  counts = x.shared.counts;
}

-- what the lanes share, where the node is this as a lane sees it
abbrev pub shared_by : Node → (reservation : ℕ → Option ℕ) → (holder : ℕ → ℕ) → Shared
shared_by n reservation holder = record {
  me = n.me;
  copy = n.local.copy;
  state = n.local.state;
  reservation = reservation;
  entry = n.entry;
  waiting = n.waiting;
  occupancy = n.occupancy;
  wait = n.wait;
  holder = holder;
  byes = n.byes;
  stamp = n.stamp;
  journal = n.journal;
  output = n.output;
  counts = n.counts;
}

-- the lane of processor p at the start, whose second argument is the number of processors
abbrev pub first_part : LaneWork → (p : ℕ) → LanePart
first_part w p = record {
  lane = record (first_lane w.work p) { registers = registers_of (first_values p (processors w)) };
  executed = 0;
  phase = Running;
  awaits = [];
  again = false;
}

abbrev pub first_shared : Work → (me : ℕ) → Shared
first_shared work me = record {
  me = me;
  copy = (first_local work me).copy;
  state = (first_local work me).state;
  reservation = λ k. None;
  entry = λ b. first_entry me;
  waiting = λ b. [];
  occupancy = 0;
  wait = λ b. None;
  holder = λ b. 0;
  byes = λ j. false;
  stamp = 0;
  journal = [];
  output = [];
  counts = no_counts;
}

-- node i at the start
abbrev pub opening_node : LaneWork → (i : ℕ) → LaneNode
opening_node w i = record {
  lanes = λ k. first_part w (processor_of w i k);
  shared = first_shared w.work i;
}

-- each of the first lanes, or some of them
abbrev pub all_lanes : (ℕ → Bool) → ℕ → Bool
all_lanes holds zero = true
all_lanes holds (suc k) = holds k && all_lanes holds k

abbrev pub some_lane : (ℕ → Bool) → ℕ → Bool
some_lane holds zero = false
some_lane holds (suc k) = holds k || some_lane holds k
