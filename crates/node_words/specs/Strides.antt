-- Helps the code alone: strides of a body.
use Rattle.std.specs.Prelude.{◌≡◌, ℕ, ◌+◌, ◌-◌, ◌*◌, ◌/◌, ◌%◌, ◌^◌, ◌<◌, ◌≤◌, Bool, true, false, ◌==◌, if◌then◌else◌, nat_le, List, ◌++◌, Option, Some, None, length}
use Rattle.rv32_decode.specs.declared.LoadKind.{LoadKind}
use Rattle.rv32_decode.specs.declared.Width.{Width}
use Rattle.rv32_decode.specs.Widths.{is_aligned, width_of}
use Rattle.node_memory.specs.exec_map.Contents.{program_of}
use Rattle.node_memory.specs.rv32_step.Memory.{load_value}
use Rattle.node_memory.specs.rv32_step.Registers.{reg, registers_of}
use Rattle.node_memory.specs.micro_op.declared.MicroKind.{MicroKind}
use Rattle.node_memory.specs.micro_op.declared.MicroKind.TheVariants as kind
use Rattle.node_memory.specs.micro_op.declared.micro_op.MicroOp.{MicroOp}
use Rattle.node_memory.specs.micro_op.Micro.{meaning_of}
use Rattle.node_memory.specs.jump_map.Image.{Cell, image_base, most_words}
use Rattle.node_memory.specs.jump_map.Micro.{AreMicrosOf}
use Rattle.node_memory.specs.node_model.Node.{ProcessorState, Memory, Node, Work, byte_at, can_execute, set_register, store}
use Rattle.node_words.specs.declared.exec_state.ExecState.{ExecState}
use Rattle.node_words.specs.declared.strides.Going.{Going}
use Rattle.node_words.specs.GoingOn.{GoesFurther, node_on}
use Rattle.node_words.specs.Runs.{AreWordsOf, LooksAtMost, numbers_from}
use Rattle.node_memory.specs.Shelf.{ground_of, local_of}
use Rattle.node_words.specs.Kept.{LeavesBehind, StepsTo, lane_of}

-- a body does what a micro-op means, by one word
pub record StepsBy (image : List Cell) (m : MicroOp) (from : Going) (b : ExecState) (to : Going)
    (b' : ExecState) : Type 0 where
  pub one : to.left + 1 ≡ from.left
  pub low : to.at < 2 ^ 32
  pub steps : StepsTo image (meaning_of image_base m (registers_of b.lane.registers)) from.at b.lane
      b.local b'.lane b'.local (Some to.at)

-- where the words of a stride stand: they are among so many from its first on; the last few may
-- stand after a jump, up to where it goes on, and the others stand from its first on. Of one word
-- it may be told that it reads something other than the flag word
pub record Trail : Type 0 where
  pub reach : ℕ
  pub behind : ℕ
  pub told : Option ℕ

-- that of words that stand one after another
abbrev pub straight : (reach : ℕ) → Trail
straight reach = record { reach = reach; behind = 0; told = None }

-- that of a checked sequence, of which so many words stand after the jump past its call
abbrev pub checked : (reach behind : ℕ) → Trail
checked reach behind = record { reach = reach; behind = behind; told = None }

-- that of a load that looks at its value, with so many registers spilled
abbrev pub flagged : (at spilled : ℕ) → Trail
flagged at spilled =
    record { reach = 7 + 2 * spilled; behind = spilled; told = Some (at + (spilled + 2)) }

-- the numbers of a stride's words
abbrev pub numbers_by : Trail → (from to : Going) → List ℕ
numbers_by t from to =
    numbers_from from.at (from.left - to.left - t.behind)
    ++ numbers_from (to.at - t.behind) t.behind

-- so many of a body's words from one on, where a node executes them, are those of these numbers, if
-- of the words of its trail none looks, but for the one that is told of
abbrev pub BodyHasWords : List Cell → Trail → (at words : ℕ) → List ℕ → ExecState → Type 0
BodyHasWords image t at words ks b =
    (work : Work) (n : Node) (before : ℕ) (looks : ℕ → Bool) → work.image ≡ image
    → work.program ≡ program_of b.local.program → can_execute n.phase ≡ true
    → n.executed + before + words < work.budget → LooksAtMost looks t.told at t.reach
    → AreWordsOf work looks ks (node_on n b at before)

-- a body goes on by the words of a stride
pub record StridesBy (image : List Cell) (t : Trail) (from : Going) (b : ExecState) (to : Going)
    (b' : ExecState) : Type 0 where
  pub some : to.left + t.behind < from.left
  pub low : to.at < 2 ^ 32
  pub goes : (words : ℕ)
      → GoesFurther image b from.at words b' to.at (words + (from.left - to.left))
  pub within : from.at + t.reach ≤ length image
  pub first : from.left - to.left ≤ t.reach + t.behind
  pub last : 0 < t.behind → to.at ≤ from.at + t.reach
  pub behind : t.behind ≤ to.at
  pub words : BodyHasWords image t from.at (from.left - to.left) (numbers_by t from to) b

-- nothing changed
pub record Stays (from : Going) (b : ExecState) (to : Going) (b' : ExecState) : Type 0 where
  pub place : to ≡ from
  pub lane : b'.lane ≡ b.lane
  pub local : b'.local ≡ b.local

-- this was done where the answer is true; else nothing changed
abbrev pub IsTried : Bool → Type 0 → Going → ExecState → Going → ExecState → Type 0
IsTried true done from b to b' = done
IsTried false done from b to b' = Stays from b to b'

-- a stride of these micro-ops was tried, whichever the image whose words they are
abbrev pub IsStriddenBy : List MicroOp → Trail → Bool → Going → ExecState → Going → ExecState
    → Type 0
IsStriddenBy micros t result from b to b' =
    (image : List Cell) → length image ≤ most_words → AreMicrosOf image micros
    → IsTried result (StridesBy image t from b to b') from b to b'

-- the kind of a sum of two registers, or of a register and a number
abbrev pub add_kind : (registers : Bool) → MicroKind
add_kind true = kind.Add
add_kind false = kind.AddImm

-- what a load from an address gives, where that is aligned and below the state table
pub record Gives (b : ExecState) (k : LoadKind) (a value : ℕ) : Type 0 where
  pub aligned : is_aligned (width_of k) a ≡ true
  pub low : a < 2 ^ 31
  pub loaded : (at : ℕ) → value ≡ load_value k
      (byte_at (program_of b.local.program) (lane_of b.lane at) (local_of b.local)) a

-- a store at such an address was made
pub record IsStored (b : ExecState) (w : Width) (a value : ℕ) (b' : ExecState) : Type 0 where
  pub aligned : is_aligned w a ≡ true
  pub low : a < 2 ^ 31
  pub leaves : (at : ℕ) → LeavesBehind
      (store (program_of b.local.program) (lane_of b.lane at) (local_of b.local) w a value Memory)
      (ground_of b.local) at b'.lane b'.local
  pub registers : b'.lane.registers ≡ b.lane.registers

-- this store was made where the answer is true; else nothing changed
abbrev pub IsStoredOr : Bool → Type 0 → ExecState → ExecState → Type 0
IsStoredOr true stored b b' = stored
IsStoredOr false stored b b' = (b'.lane ≡ b.lane) × (b'.local ≡ b.local)

-- a register is kept in the spill word of a number
abbrev pub spilled : (word r : ℕ) → ProcessorState → ProcessorState
spilled word r l = record l { spills = λ i. if i == word then reg l.registers r else l.spills i }

-- a scratch register as a check leaves it: spilled it keeps its value, which its spill word has
-- too; else it has this one
abbrev pub left_one : Bool → (word r value : ℕ) → ProcessorState → ProcessorState
left_one true word r value l = spilled word r l
left_one false word r value l = set_register l r value

-- both of a check, with so many spilled
abbrev pub left_by_check : (count s t : ℕ) → ProcessorState → ProcessorState
left_by_check count s t l =
    left_one (nat_le 1 count) 1 t 0x80000000 (left_one (count == 2) 0 s 0 l)

-- the three of a batch's head, of which the last has the state of the second line
abbrev pub left_by_head : (count s t u state : ℕ) → ProcessorState → ProcessorState
left_by_head count s t u state l =
    left_one (nat_le 1 count) 2 u state
    (left_one (nat_le 2 count) 1 t 0x80000000 (left_one (count == 3) 0 s 0 l))

-- the state byte of the line of the address that a register and a number make
abbrev pub state_at : ExecState → (base imm : ℕ) → ℕ
state_at b base imm =
    (local_of b.local).state ((reg (registers_of b.lane.registers) base + imm) % 2 ^ 32 / 64)
