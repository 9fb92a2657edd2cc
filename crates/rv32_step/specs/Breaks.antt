-- Which processor may break another's reservation without a step of its own: one that is about to
-- store into the reserved block (RISC-V Unprivileged ISA, "Load-Reserved/Store-Conditional
-- Instructions": a reservation may end early).
use Rattle.std.specs.Prelude.{◌≡◌, ℕ, ◌+◌, ◌-◌, ◌%◌, ◌^◌, ◌≤◌, Bool, true, false, not, ◌==◌, ◌&&◌, ◌||◌, List, [], ◌∷◌, length, Some}
use Rattle.std.specs.List.{list_all, list_any}
use Rattle.std.specs.Option.{option_map_or}
use Rattle.rv32_decode.specs.Registers.{destination}
use Rattle.rv32_decode.specs.Widths.{size_of, width_of}
use Rattle.rv32_decode.specs.declared.Instr.{Instr}
use Rattle.rv32_decode.specs.declared.Instr.TheVariants.{Lui, Load, Store, OpImm, ShiftImm, Op}
use Rattle.block_layout.specs.Layout.{Shape, block_of}
use Rattle.rv32_program.specs.Program.{Program, line_of}
use Rattle.rv32_program.specs.Targets.{offset_address}
use Rattle.rv32_step.specs.declared.Demand.{Demand}
use Rattle.rv32_step.specs.declared.Demand.TheVariants.{Stores, StoresIf, Updates}
use Rattle.rv32_step.specs.Registers.{reg}
use Rattle.rv32_step.specs.Demands.{demand_of}

-- the address is in the block
abbrev pub is_in_block : Shape → ℕ → ℕ → Bool
is_in_block layout b a = option_map_or (λ c. c == b) (block_of layout (line_of a)) false

-- a store, an AMO or an SC, to an address in the block
abbrev pub stores_in : Shape → ℕ → Demand → Bool
stores_in layout b (Stores w a value) = is_in_block layout b a
stores_in layout b (StoresIf r a value) = is_in_block layout b a
stores_in layout b (Updates o r a value) = is_in_block layout b a
stores_in layout b d = false

-- the word at pc is a store, an AMO or an SC, to an address in the block
abbrev pub stands_at_store : Program → Shape → ℕ → (ℕ → ℕ) → ℕ → Bool
stands_at_store program layout b registers pc =
    option_map_or (λ i. stores_in layout b (demand_of i registers pc)) (program.code pc) false

-- LUI, an operation on registers, a load or a store
abbrev pub is_plain : Instr → Bool
is_plain (Lui rd upper) = true
is_plain (OpImm o rd rs1 imm) = true
is_plain (ShiftImm o rd rs1 amount) = true
is_plain (Op o rd rs1 rs2) = true
is_plain (Load k rd rs1 imm) = true
is_plain (Store w rs1 rs2 imm) = true
is_plain i = false

-- it leaves the register as it is; x0 stays in any case
abbrev pub leaves : ℕ → Instr → Bool
leaves r i = option_map_or (λ rd. (rd == 0) || not (rd == r)) (destination i) true

-- a store by the base register
abbrev pub stores_by : ℕ → Instr → Bool
stores_by base (Store w rs1 rs2 imm) = rs1 == base
stores_by base i = false

-- the first or the last of so many bytes is in the block
abbrev pub touches : Shape → ℕ → ℕ → ℕ → Bool
touches layout b a size = is_in_block layout b a || is_in_block layout b ((a + (size - 1)) % 2 ^ 32)

-- a load or a store by the base register, which has this value, to a byte of the block
abbrev pub accesses_by : Shape → ℕ → ℕ → ℕ → Instr → Bool
accesses_by layout b base value (Load k rd rs1 imm) =
    (rs1 == base) && touches layout b (offset_address value imm) (size_of (width_of k))
accesses_by layout b base value (Store w rs1 rs2 imm) =
    (rs1 == base) && touches layout b (offset_address value imm) (size_of w)
accesses_by layout b base value i = false

-- these are the instructions from an address on
abbrev pub StandFrom : Program → ℕ → List Instr → Type 0
StandFrom program a [] = Unit {0}
StandFrom program a (i ∷ is) = (program.code a ≡ Some i) × StandFrom program ((a + 4) % 2 ^ 32) is

-- from pc on there is a stretch of at most 16 plain instructions that leave a base register as it
-- is, store by it, and access a byte of the block by it
pub record RunsToStore (program : Program) (layout : Shape) (b : ℕ) (registers : ℕ → ℕ) (pc : ℕ)
    : Type 0 where
  pub base : ℕ
  pub stretch : List Instr
  pub few : length stretch ≤ 16
  pub stand : StandFrom program pc stretch
  pub plain : list_all (λ i. is_plain i && leaves base i) stretch ≡ true
  pub stores : list_any (stores_by base) stretch ≡ true
  pub accesses : list_any (accesses_by layout b base (reg registers base)) stretch ≡ true
