-- Helps the code alone: how many words sequences have.
use Rattle.std.specs.Prelude.{◌≡◌, ℕ, ℤ, ◌+◌, if◌then◌else◌, length}
use Rattle.rv32_decode.specs.declared.Cond.{Cond}
use Rattle.rv32_decode.specs.declared.LoadKind.{LoadKind}
use Rattle.templates.specs.declared.plans.Scratches.{Scratches}
use Rattle.templates.specs.Plans.{is_flag_checked}
use Rattle.templates.specs.Sequences.{load_sequence}
use Rattle.templates.specs.Writing.{jump_items, branch_items}

-- how many registers of a sequence are spilled
abbrev pub spilled_count : Scratches → ℕ
spilled_count x = (if x.s.spilled then 1 else 0) + (if x.t.spilled then 1 else 0)

-- a load has so many words
abbrev pub IsLoadLength : Scratches → LoadKind → ℕ → ℕ → ℕ → Type 0
IsLoadLength x k rd rs1 n =
    (imm : ℤ) → n ≡ length (load_sequence (is_flag_checked k rd rs1) x k rd rs1 imm)

-- a jump to the target has so many words
abbrev pub IsJumpLength : ℕ → ℕ → Type 0
IsJumpLength target n =
    (rd next : ℕ) → n ≡ length (jump_items rd next target)

-- a branch to the target has so many words
abbrev pub IsBranchLength : ℕ → ℕ → Type 0
IsBranchLength target n =
    (c : Cond) (rs1 rs2 : ℕ) → n ≡ length (branch_items c rs1 rs2 target)
