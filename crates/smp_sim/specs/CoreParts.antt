-- Nodes of several processors that run rewritten code and the lists between them, as they are
-- stored, and the core that they stand for.
use Rattle.std.specs.Prelude.{◌≡◌, ℕ, ◌^◌, ◌<◌, ◌≤◌, true, List, map, length, slice_index_or, All}
use Rattle.home_directory.specs.dsm_messages.declared.messages.Wire.{Wire}
use Rattle.lane_model.specs.node_model.Node.{Work}
use Rattle.dsm_core.specs.rewriting_law.Bounds.{RunsRewritten}
use Rattle.lane_law.specs.dsm_protocol.Queue.{Queue, wires_of, AreQueues}
use Rattle.dsm_core.specs.CoreParts.{work_with as plain_work}
use Rattle.elf32_read.specs.Elf.{Elf}
use Rattle.block_layout.specs.Layout.{Shape}
use Rattle.lane_model.specs.jump_map.Image.{Cell}
use Rattle.lane_model.specs.Nodes.{LaneWork, processors, opening_node}
use Rattle.lane_model.specs.Core.{LaneCore, LaneEvent, Exec, Take, IsLaneRun, after, opening_core, printed_by}
use Rattle.smp_sim.specs.declared.cores.SmpEvent as chosen
use Rattle.smp_sim.specs.declared.cores.SmpEvent.TheVariants as choice
use Rattle.lane_machine.specs.declared.node.SmpNode.{SmpNode}
use Rattle.lane_machine.specs.SmpNodes.{IsNode, node_in}
use Rattle.lane_machine.specs.declared.work.SmpWork.{SmpWork}

-- what the processors run; the nodes, the lists, and the bytes printed
pub record CoreParts : Type 0 where
  pub program : Elf
  pub image : List Cell
  pub layout : Shape
  pub budget : ℕ
  pub lanes : ℕ
  pub nodes : List SmpNode
  pub lists : List Queue
  pub output : List ℕ

abbrev pub work_with : Work → (lanes : ℕ) → LaneWork
work_with work lanes = record { work = work; lanes = lanes }

abbrev pub work_of : CoreParts → LaneWork
work_of p = work_with (plain_work p.program p.image p.layout p.budget) p.lanes

-- with these nodes and lists, and these bytes printed
abbrev pub parts_of : SmpWork → List SmpNode → List Queue → (output : List ℕ) → CoreParts
parts_of w nodes lists output = record {
  program = w.program.now;
  image = w.image.now;
  layout = w.layout.now;
  budget = w.budget;
  lanes = w.lanes;
  nodes = nodes;
  lists = lists;
  output = output;
}

-- the core of these nodes and lists; beyond the last node it is as at the start
abbrev pub core_with : LaneWork → List SmpNode → List Queue → LaneCore
core_with w nodes lists = record {
  nodes = λ i. slice_index_or (map (node_in w i) nodes) i (opening_node w i);
  list = wires_of lists w.work.layout.nodes;
}

abbrev pub core_of : CoreParts → LaneCore
core_of p = core_with (work_of p) p.nodes p.lists

abbrev pub event_of : chosen.SmpEvent → LaneEvent
event_of (choice.Exec p) = Exec p
event_of (choice.Take i j) = Take i j

-- the first n nodes and the lists between them are the same
pub record AreAlike (n : ℕ) (c d : LaneCore) : Type 0 where
  pub nodes : (i : ℕ) → i < n → c.nodes i ≡ d.nodes i
  pub lists : (j i : ℕ) → j < n → i < n → c.list j i ≡ d.list j i

-- the run leads from the start to the core, and prints its bytes
pub record IsRunTo (run : List LaneEvent) (p : CoreParts) : Type 0 where
  pub is_run : IsLaneRun (work_of p) (opening_core (work_of p)) run
  pub leads : AreAlike p.layout.nodes (core_of p)
      (after (work_of p) (opening_core (work_of p)) run)
  pub output : p.output ≡ printed_by (work_of p) (opening_core (work_of p)) run

abbrev pub AreNodes : LaneWork → List SmpNode → Type 0
AreNodes w nodes = (i : ℕ) (d : SmpNode) → i < length nodes → IsNode w (slice_index_or nodes i d)

-- n nodes, and n × n lists
pub record AreStored (w : LaneWork) (nodes : List SmpNode) (lists : List Queue) : Type 0 where
  pub count : length nodes ≡ w.work.layout.nodes
  pub queues : AreQueues lists w.work.layout.nodes
  pub each : AreNodes w nodes

-- the nodes run rewritten code, on one to four lanes each and on no more than 16 processors
pub record IsWork (w : LaneWork) : Type 0 where
  pub rewritten : RunsRewritten w.work
  pub some : 0 < w.lanes
  pub four : w.lanes ≤ 4
  pub few : processors w ≤ 16

-- the stamps of n nodes, and of the messages between them, are at most so much
pub record HasStamps (n most : ℕ) (c : LaneCore) : Type 0 where
  pub nodes : (i : ℕ) → i < n → (c.nodes i).shared.stamp ≤ most
  pub wires : (j i : ℕ) → j < n → i < n → All (λ (wire : Wire). wire.stamp ≤ most) (c.list j i)

abbrev pub HasStampsInRange : ℕ → LaneCore → Type 0
HasStampsInRange n c = (most : ℕ) × (most < 2 ^ 56) × HasStamps n most c

-- what is true of every core
pub record IsCore (p : CoreParts) : Type 0 where
  pub work : IsWork (work_of p)
  pub stored : AreStored (work_of p) p.nodes p.lists
  pub run : List LaneEvent
  pub leads : IsRunTo run p
  pub stamps : HasStamps p.layout.nodes (length run) (core_of p)
