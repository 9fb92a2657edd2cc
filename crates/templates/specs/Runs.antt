-- Runs: stretches of code whose accesses, all by one register and within 64 bytes, are served by
-- one check (Scales, Gharachorloo and Thekkath, ASPLOS 1996: the batching of miss checks).
use Rattle.std.specs.Prelude.{◌≡◌, ◌≢◌, ℕ, zero, suc, ℤ, pos, ◌+◌, ◌-◌, ◌*◌, ◌+ℤ◌, ◌<◌, ◌≤◌, ◌≤ℤ◌, int_le, Bool, true, false, not, ◌==◌, ◌&&◌, IsTrue, if◌then◌else◌, List, [], ◌∷◌, ◌++◌, length, slice_get, filter_map, Option, Some, None, is_some, option_to_list}
use Rattle.std.specs.List.{list_all, list_any}
use Rattle.std.specs.Option.{option_map_or}
use Rattle.rv32_decode.specs.Registers.{destination}
use Rattle.rv32_decode.specs.Widths.{size_of, width_of}
use Rattle.rv32_decode.specs.declared.Width.{Width}
use Rattle.rv32_decode.specs.declared.Instr.{Instr}
use Rattle.rv32_decode.specs.declared.Instr.TheVariants.{Lui, Load, Store, OpImm, ShiftImm, Op}
use Rattle.rv32_program.specs.Liveness.{IsDeadAt}
use Rattle.templates.specs.declared.plans.Scratch.{Scratch}
use Rattle.templates.specs.declared.plans.Scratches.{Scratches}
use Rattle.templates.specs.declared.plans.PlanEntry.{PlanEntry}
pub use Rattle.templates.specs.declared.reaches.Reach.{Reach}

-- 1. What an instruction accesses

-- the bytes that a load or a store accesses: its base register, and the offsets of the first byte
-- and of the last
pub record Span : Type 0 where
  pub base : ℕ
  pub low : ℤ
  pub high : ℤ

abbrev pub span_by : ℕ → ℤ → Width → Span
span_by base imm w = record { base = base; low = imm; high = imm +ℤ pos (size_of w - 1) }

abbrev pub span_of : Instr → Option Span
span_of (Load k rd rs1 imm) = Some (span_by rs1 imm (width_of k))
span_of (Store w rs1 rs2 imm) = Some (span_by rs1 imm w)
span_of i = None

abbrev pub is_access : Instr → Bool
is_access i = is_some (span_of i)

abbrev pub is_store : Instr → Bool
is_store (Store w rs1 rs2 imm) = true
is_store i = false

-- 2. What a run reaches

abbrev pub lesser : ℤ → ℤ → ℤ
lesser x y = if int_le x y then x else y

abbrev pub greater : ℤ → ℤ → ℤ
greater x y = if int_le x y then y else x

-- the least offset of a first byte, and the greatest of a last one
abbrev pub least : ℤ → List Span → ℤ
least low [] = low
least low (x ∷ xs) = least (lesser low x.low) xs

abbrev pub greatest : ℤ → List Span → ℤ
greatest high [] = high
greatest high (x ∷ xs) = greatest (greater high x.high) xs

abbrev pub reach_by : List Span → Bool → Reach
reach_by [] stores = record { base = 0; low = pos 0; high = pos 0; stores = stores }
reach_by (x ∷ xs) stores = record {
  base = x.base;
  low = least x.low xs;
  high = greatest x.high xs;
  stores = stores;
}

abbrev pub reach_of : List Instr → Reach
reach_of instructions = reach_by (filter_map span_of instructions) (list_any is_store instructions)

-- 3. Runs

-- the instructions of so many code words, one after another, from an address on
abbrev pub code_from : (ℕ → Option Instr) → ℕ → ℕ → List Instr
code_from code a zero = []
code_from code a (suc n) = option_to_list (code a) ++ code_from code (a + 4) n

abbrev pub reach_at : (ℕ → Option Instr) → ℕ → ℕ → Reach
reach_at code a count = reach_of (code_from code a count)

-- LUI, an operation on registers, or an access by the base register
abbrev pub is_of_run : ℕ → Instr → Bool
is_of_run base (Lui rd upper) = true
is_of_run base (OpImm o rd rs1 imm) = true
is_of_run base (ShiftImm o rd rs1 amount) = true
is_of_run base (Op o rd rs1 rs2) = true
is_of_run base (Load k rd rs1 imm) = rs1 == base
is_of_run base (Store w rs1 rs2 imm) = rs1 == base
is_of_run base i = false

-- the instruction doesn't define the register
abbrev pub leaves : ℕ → Instr → Bool
leaves r i = option_map_or (λ rd. not (rd == r)) (destination i) true

abbrev pub may_stand : ℕ → Instr → Bool
may_stand base i = is_of_run base i && leaves base i

abbrev pub has_access : List Instr → ℕ → Bool
has_access instructions k = option_map_or is_access (slice_get instructions k) false

-- so many code words from an address on are a run: it begins and ends with an access; each of its
-- words may stand there; and its accesses lie within 64 bytes, whose offsets an immediate can have
pub record IsRun (code : ℕ → Option Instr) (a count : ℕ) : Type 0 where
  pub some : 2 ≤ count
  pub few : count ≤ 16
  pub coded : length (code_from code a count) ≡ count
  pub begins : IsTrue (has_access (code_from code a count) 0)
  pub ends : IsTrue (has_access (code_from code a count) (count - 1))
  pub nonzero : (reach_at code a count).base ≢ 0
  pub each : IsTrue (list_all (may_stand (reach_at code a count).base) (code_from code a count))
  pub near : (reach_at code a count).high ≤ℤ ((reach_at code a count).low +ℤ pos 63)
  pub immediate : (reach_at code a count).high ≤ℤ pos 2047

-- the address lies in the run that starts at the entry's place
pub record IsInRun (e : PlanEntry) (a : ℕ) : Type 0 where
  pub from : e.address ≤ a
  pub below : a < e.address + 4 * e.run

-- 4. Scratch registers of a run

-- the register may be a scratch register of a run by this base that starts at a: it is neither x0
-- nor the base; and where it isn't spilled it is dead at the first instruction
pub record IsRunScratch (code : ℕ → Option Instr) (a base : ℕ) (x : Scratch) : Type 0 where
  pub nonzero : x.register ≢ 0
  pub small : x.register < 32
  pub other : x.register ≢ base
  pub dead : x.spilled ≡ false → (i : Instr) → code a ≡ Some i → IsDeadAt code x.register a i

pub record HasRunScratches (code : ℕ → Option Instr) (a base : ℕ) (x : Scratches) : Type 0 where
  pub s : IsRunScratch code a base x.s
  pub t : IsRunScratch code a base x.t
  pub u : IsRunScratch code a base x.u
  pub s_t : x.s.register ≢ x.t.register
  pub s_u : x.s.register ≢ x.u.register
  pub t_u : x.t.register ≢ x.u.register
