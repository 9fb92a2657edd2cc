-- Nodes that run rewritten code and the lists between them, as they are stored, and the core that
-- they stand for.
use Rattle.std.specs.Prelude.{◌≡◌, ℕ, ◌^◌, ◌<◌, List, map, length, slice_index_or, All}
use Rattle.elf32_read.specs.Elf.{Elf}
use Rattle.block_layout.specs.Layout.{Shape}
use Rattle.node_machine.specs.exec_map.Contents.{program_of}
use Rattle.rewriting_law.specs.dsm_messages.declared.messages.Wire.{Wire}
use Rattle.node_machine.specs.jump_map.Image.{Cell}
use Rattle.run_order.specs.node_model.Node.{Work, opening_node}
use Rattle.run_order.specs.node_model.Core.{Core, Event, Exec, Take, AreAlike, opening_core, IsCoreRun, after}
use Rattle.run_order.specs.node_model.Outcome.{Outcome}
use Rattle.node_machine.specs.declared.node_state.NodeState.{NodeState}
use Rattle.node_machine.specs.NodeState.{node_of, work_of as work_at}
use Rattle.rewriting_law.specs.Bounds.{RunsRewritten}
use Rattle.dsm_core.specs.declared.cores.Event as chosen
use Rattle.dsm_core.specs.declared.cores.Event.TheVariants as choice
use Rattle.dsm_core.specs.declared.outcome.Outcome.{Outcome as Given}
use Rattle.dsm_core.specs.declared.work.Work.{Work as Asked}
use Rattle.rewriting_law.specs.dsm_protocol.Queue.{Queue, wires_of, AreQueues}

-- what the nodes run; the nodes, and the lists
pub record CoreParts : Type 0 where
  pub program : Elf
  pub image : List Cell
  pub layout : Shape
  pub budget : ℕ
  pub nodes : List NodeState
  pub lists : List Queue

abbrev pub work_with : Elf → List Cell → Shape → ℕ → Work
work_with e image layout budget =
    record { program = program_of e; image = image; layout = layout; budget = budget }

abbrev pub work_in : Asked → Work
work_in w = work_with w.program.now w.image.now w.layout.now w.budget

abbrev pub work_of : CoreParts → Work
work_of p = work_with p.program p.image p.layout p.budget

-- the core of these nodes and lists; beyond the last node it is as at the start
abbrev pub core_with : Work → List NodeState → List Queue → Core
core_with work nodes lists = record {
  nodes = λ i. slice_index_or (map node_of nodes) i (opening_node work i);
  list = wires_of lists work.layout.nodes;
}

abbrev pub core_of : CoreParts → Core
core_of p = core_with (work_of p) p.nodes p.lists

abbrev pub event_of : chosen.Event → Event
event_of (choice.Exec i) = Exec i
event_of (choice.Take i j) = Take i j

-- every node runs this
abbrev pub HaveWork : Work → List NodeState → Type 0
HaveWork work nodes = (i : ℕ) → slice_index_or (map work_at nodes) i work ≡ work

-- some core run leads to the core
pub record IsLedTo (work : Work) (c : Core) : Type 0 where
  pub run : List Event
  pub is_run : IsCoreRun work (opening_core work) run
  pub leads : AreAlike work.layout.nodes c (after work (opening_core work) run)

-- events that are allowed one after another lead from one core to another
pub record GoesOnTo (work : Work) (c d : Core) : Type 0 where
  pub more : List Event
  pub is_run : IsCoreRun work c more
  pub leads : AreAlike work.layout.nodes d (after work c more)

-- the stamps of n nodes, and of the messages between them, are in range
pub record HasStampsInRange (n : ℕ) (c : Core) : Type 0 where
  pub nodes : (i : ℕ) → i < n → (c.nodes i).stamp < 2 ^ 56
  pub wires : (j i : ℕ) → j < n → i < n → All (λ (wire : Wire). wire.stamp < 2 ^ 56) (c.list j i)

-- n nodes, n × n lists, and every node runs the rewritten code
pub record AreParts (p : CoreParts) : Type 0 where
  pub count : length p.nodes ≡ p.layout.nodes
  pub lists : AreQueues p.lists p.layout.nodes
  pub works : HaveWork (work_of p) p.nodes
  pub rewritten : RunsRewritten (work_of p)

-- what is true of every core
pub record IsCore (p : CoreParts) : Type 0 where
  pub are_parts : AreParts p
  pub led_to : IsLedTo (work_of p) (core_of p)

abbrev pub outcome_of : Given → Outcome
outcome_of o = record { output = o.output.items; ends = o.ends.items; counts = o.counts.items }
