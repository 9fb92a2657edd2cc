-- Helps the code alone: the parts of the machine, and the state that they stand for.
use Rattle.std.specs.Prelude.{◌≡◌, ℕ, ◌+◌, ◌%◌, ◌^◌, ◌==◌, if◌then◌else◌, List, Option, Some, None, slice_get, slice_index_or}
use Rattle.std.specs.Option.{option_map_or}
use Rattle.elf32_read.specs.Elf.{Elf}
use Rattle.exec_map.specs.Contents.{program_of, first_byte}
use Rattle.block_layout.specs.Layout.{Shape}
use Rattle.byte_range.specs.Lines.{LineBytes, lines_memory}
use Rattle.byte_range.specs.Window.{window_memory}
use Rattle.exec_map.specs.SharedLines.{HasReadOnlyLines}
use Rattle.rv32_program.specs.Program.{class_at}
use Rattle.rv32_step.specs.Registers.{registers_of}
use Rattle.rv32_step.specs.Memory.{byte_by, shared_after, private_after}
use Rattle.rv32_step.specs.Reservations.{after_store_by}
use Rattle.byte_range.specs.Memory.{stored}
use Rattle.rv32_decode.specs.declared.Width.{Width}
use Rattle.rv32_step.specs.declared.Demand.{Demand}
use Rattle.rv32_step.specs.OneMemory.{Original, Processor, State, Request, first_processor, answer, request, request_for}
use Rattle.micro_op.specs.Micro.{Meaning, Unserved, Demands, Enters, meaning_of, index_address}
use Rattle.micro_op.specs.declared.micro_op.MicroOp.{MicroOp}
use Rattle.one_memory.specs.declared.code.CodeTable.{CodeTable}
use Rattle.one_memory.specs.declared.code.CodeRegion.{CodeRegion}
use Rattle.one_memory.specs.declared.processor.OriginalState.{OriginalState}
use Rattle.one_memory.specs.declared.processor.Processor.{Processor as ProcessorParts}
use Rattle.one_memory.specs.declared.processor.StepTarget.{StepTarget}
use Rattle.one_memory.specs.declared.processor.StepTarget.TheVariants.{Next, To, Ends}

-- what all processors have in common
pub record MemoryParts : Type 0 where
  pub program : Elf
  pub layout : Shape
  pub shared : LineBytes
  -- the address that each processor has reserved
  pub reserved : List (Option ℕ)
  pub output : List ℕ

-- the reservation of each processor; those beyond the list have none
abbrev pub reserved_in : List (Option ℕ) → ℕ → Option ℕ
reserved_in each p = slice_index_or each p None

-- the lines are the read-only ones, with the bytes that the program begins with
pub record HasFixed (e : Elf) (fixed : LineBytes) : Type 0 where
  pub lines : HasReadOnlyLines e fixed
  pub bytes : lines_memory fixed (first_byte e) ≡ first_byte e

pub record Parts : Type 0 where
  pub memory : MemoryParts
  pub count : ℕ
  pub processors : List ProcessorParts

-- a processor; its place is the index of a word, from address 0 on
abbrev pub processor_of : ProcessorParts → Processor
processor_of k = record {
  registers = registers_of k.body.registers;
  pc = index_address 0 k.at;
  private = window_memory k.body.window;
  written = k.body.written;
  exit = k.exit;
}

-- the state of these processors on this memory
abbrev pub state_among : (ℕ → Processor) → MemoryParts → State
state_among all m = record {
  shared = lines_memory m.shared (first_byte m.program);
  processors = all;
  reservations = reserved_in m.reserved;
  output = m.output;
}

-- the program in this memory, on so many processors
abbrev pub original_on : MemoryParts → ℕ → Original
original_on m nodes = record {
  program = program_of m.program;
  layout = m.layout;
  nodes = nodes;
}

-- what the machine executes
abbrev pub original_of : Parts → Original
original_of h = original_on h.memory h.count

-- each processor; those beyond the number are as at the start
abbrev pub processors_of : Parts → ℕ → Processor
processors_of h p =
    option_map_or processor_of (slice_get h.processors p) (first_processor (original_of h) p)

-- the state that the machine stands for
abbrev pub state_of : Parts → State
state_of h = state_among (processors_of h) h.memory

-- the byte of an address, as a processor sees it
abbrev pub byte_seen : MemoryParts → OriginalState → ℕ → ℕ
byte_seen m body a =
    byte_by (class_at (program_of m.program) a) (lines_memory m.shared (first_byte m.program) a)
    (first_byte m.program a) (window_memory body.window a) 0

-- what a micro-op does is of this kind, where it is served
abbrev pub Serving : Meaning → (Demand → Type 0) → Type 0
Serving Unserved P = Unit {0}
Serving (Demands d) P = P d
Serving (Enters original) P = ⊥

-- the processor at an address requests what this demand makes of it
abbrev pub IsDemandAt : Elf → ℕ → Processor → Demand → Type 0
IsDemandAt e a q d =
    q.pc ≡ a → request (program_of e) q ≡ request_for (program_of e) q d

-- the micro-op does what the word at an address does, where it serves it
pub record Serves (e : Elf) (a : ℕ) (op : MicroOp) : Type 0 where
  pub serves : (q : Processor) → Serving (meaning_of 0 op q.registers) (IsDemandAt e a q)

-- the micro-ops of the words from an index on
abbrev pub AreOps : Elf → ℕ → List MicroOp → Type 0
AreOps e first ops =
    (k : ℕ) (op : MicroOp) → slice_get ops k ≡ Some op → Serves e (index_address 0 (first + k)) op

pub record IsStretchOf (e : Elf) (s : CodeRegion) : Type 0 where
  pub serve : AreOps e s.first s.ops.items

-- the code of a program
pub record IsCodeOf (e : Elf) (code : CodeTable) : Type 0 where
  pub near : IsStretchOf e code.near
  pub far : (j : ℕ) (s : CodeRegion) → slice_get code.far.items j ≡ Some s → IsStretchOf e s

-- a processor at the index of a word, that has no exit
abbrev pub at_index : ℕ → OriginalState → ProcessorParts
at_index at body = record { at = at; body = body; exit = None }

-- a processor after a move from the index of a word
abbrev pub after_move : StepTarget → ℕ → OriginalState → ProcessorParts
after_move Next at body = at_index ((at + 1) % 2 ^ 32) body
after_move (To target) at body = at_index target body
after_move (Ends e) at body = record { at = at; body = body; exit = Some e }

-- all processors, where one of them is this
abbrev pub with_one : (ℕ → Processor) → ℕ → Processor → ℕ → Processor
with_one all p q i = if i == p then q else all i

-- what a processor sees has these bytes and reservations, and else is as it was
pub record IsPut (shared private : ℕ → ℕ) (reserved : ℕ → Option ℕ) (m : MemoryParts)
    (b : OriginalState)
    (m' : MemoryParts) (b' : OriginalState) : Type 0 where
  pub shared_is : lines_memory m'.shared (first_byte m'.program) ≡ shared
  pub private_is : window_memory b'.window ≡ private
  pub reserved_is : reserved_in m'.reserved ≡ reserved
  pub output : m'.output ≡ m.output
  pub registers : b'.registers ≡ b.registers
  pub written : b'.written ≡ b.written

-- processor p has stored
abbrev pub IsStored : ℕ → Width → ℕ → ℕ → MemoryParts → OriginalState → MemoryParts → OriginalState
    → Type 0
IsStored p w a value m b m' b' =
    IsPut
    (shared_after (class_at (program_of m.program) a)
    (lines_memory m.shared (first_byte m.program))
    (stored w (lines_memory m.shared (first_byte m.program)) a value))
    (private_after (class_at (program_of m.program) a) (window_memory b.window)
    (stored w (window_memory b.window) a value))
    (after_store_by m.layout p a (reserved_in m.reserved)) m b m' b'

-- the request of processor p has been answered, whatever the others are
abbrev pub Answers : ℕ → Request → MemoryParts → ProcessorParts → MemoryParts → ProcessorParts
    → Type 0
Answers p r m k m' k' =
    (nodes : ℕ) (all : ℕ → Processor)
    → (answer (original_on m nodes) (state_among all m) p (processor_of k) r).state
    ≡ state_among (with_one all p (processor_of k')) m'

-- the demand of the word at an index has been met, for processor p
abbrev pub Meets : ℕ → Demand → ℕ → MemoryParts → OriginalState → MemoryParts → OriginalState
    → StepTarget → Type 0
Meets p d at m body m' body' move =
    Answers p (request_for (program_of m.program) (processor_of (at_index at body)) d)
    m (at_index at body) m' (after_move move at body')

-- a step from the index of a word has been made, by processor p
abbrev pub Steps : ℕ → ℕ → MemoryParts → OriginalState → MemoryParts → OriginalState → StepTarget
    → Type 0
Steps p at m body m' body' move =
    Answers p (request (program_of m.program) (processor_of (at_index at body)))
    m (at_index at body) m' (after_move move at body')
