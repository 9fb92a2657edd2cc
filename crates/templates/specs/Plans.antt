-- A plan says of each place which template serves it, and which scratch registers its sequences
-- take; an admissible one is what rewritten code may rest on.
use Rattle.std.specs.Prelude.{◌≡◌, ◌≢◌, ℕ, zero, suc, ◌+◌, ◌<◌, ◌≤◌, ◌⊎◌, Bool, true, false, not, ◌||◌, ◌==◌, nat_le, IsTrue, if◌then◌else◌, is_some, List, [], ◌∷◌, Option, Some, None, map, Contains}
use Rattle.std.specs.Option.{option_map_or}
use Rattle.rv32_decode.specs.Registers.{destination}
use Rattle.rv32_decode.specs.declared.LoadKind.{LoadKind}
use Rattle.rv32_decode.specs.declared.LoadKind.TheVariants.{Word}
use Rattle.rv32_decode.specs.declared.Instr.{Instr}
use Rattle.rv32_decode.specs.declared.Instr.TheVariants.{Lui, Auipc, Jal, Jalr, Branch as BranchTo, Load, Store as StoreTo, OpImm, ShiftImm, Op, Fence, Ecall, Ebreak, Lr, Sc, Amo, Illegal}
use Rattle.rv32_program.specs.Program.{Program}
use Rattle.rv32_program.specs.Targets.{aligned_target}
use Rattle.rv32_program.specs.Liveness.{Uses, IsDeadAfter}
use Rattle.templates.specs.declared.plans.Template.{Template}
use Rattle.templates.specs.declared.plans.Template.TheVariants.{Plain, Const, Branch, BranchBad, Jump, JumpBad, Indirect, Call, Trap, Stop, FlagLoad, StateLoad, Store, StoreCond}
use Rattle.templates.specs.declared.plans.Scratch.{Scratch}
use Rattle.templates.specs.declared.plans.Scratches.{Scratches}
use Rattle.templates.specs.declared.plans.PlanEntry.{PlanEntry}
use Rattle.templates.specs.Places.{IsPlace}
use Rattle.templates.specs.Runs.{IsRun, IsInRun, HasRunScratches, reach_at}

-- the template of a direct branch or jump at a: its target is a multiple of four, or isn't
abbrev pub by_target : Instr → ℕ → Template → Template → Template
by_target i a good bad = if is_some (aligned_target i a) then good else bad

-- a load looks at its value where that is a word in a register of its own: neither x0 nor the base
abbrev pub is_flag_checked : LoadKind → ℕ → ℕ → Bool
is_flag_checked Word rd rs1 = not ((rd == 0) || (rd == rs1))
is_flag_checked k rd rs1 = false

-- the template of an instruction at a
abbrev pub template_of : Instr → ℕ → Template
template_of (Lui rd upper) a = Plain
template_of (Auipc rd upper) a = Const
template_of (Jal rd offset) a = by_target (Jal rd offset) a Jump JumpBad
template_of (Jalr rd rs1 imm) a = Indirect
template_of (BranchTo c rs1 rs2 offset) a =
    by_target (BranchTo c rs1 rs2 offset) a Branch BranchBad
template_of (Load k rd rs1 imm) a = if is_flag_checked k rd rs1 then FlagLoad else StateLoad
template_of (StoreTo w rs1 rs2 imm) a = Store
template_of (OpImm o rd rs1 imm) a = Plain
template_of (ShiftImm o rd rs1 amount) a = Plain
template_of (Op o rd rs1 rs2) a = Plain
template_of (Fence rd rs1 bits) a = Plain
template_of Ecall a = Call
template_of Ebreak a = Trap
template_of (Lr rd rs1 aq rl) a = StateLoad
template_of (Sc rd rs1 rs2 aq rl) a = StoreCond
template_of (Amo o rd rs1 rs2 aq rl) a = Store
template_of (Illegal word) a = Trap

-- the template of a place
abbrev pub template_at : ℕ → Option Instr → Template
template_at a None = Stop
template_at a (Some i) = template_of i a

abbrev pub no_scratch : Scratch
no_scratch = record { register = 0; spilled = false }

abbrev pub no_scratches : Scratches
no_scratches = record { s = no_scratch; t = no_scratch; u = no_scratch }

-- the register may be a scratch register of the instruction at a: it is none of the instruction's
-- own; and where it isn't spilled it is dead after the instruction
pub record IsScratch (code : ℕ → Option Instr) (a : ℕ) (i : Instr) (x : Scratch) : Type 0 where
  pub nonzero : x.register ≢ 0
  pub small : x.register < 32
  pub unused : Uses i x.register → ⊥
  pub undefined : destination i ≡ Some x.register → ⊥
  pub dead : x.spilled ≡ false → IsDeadAfter code x.register a i

-- how many scratch registers the single sequence of a template takes
abbrev pub scratch_count : Template → ℕ
scratch_count FlagLoad = 1
scratch_count StateLoad = 2
scratch_count Store = 2
scratch_count template = 0

-- one scratch register, s
pub record HasOneScratch (code : ℕ → Option Instr) (a : ℕ) (i : Instr) (x : Scratches) : Type 0
  where
    pub s : IsScratch code a i x.s
    pub t : x.t ≡ no_scratch
    pub u : x.u ≡ no_scratch

-- two scratch registers, s and t
pub record HasTwoScratches (code : ℕ → Option Instr) (a : ℕ) (i : Instr) (x : Scratches) : Type 0
  where
    pub s : IsScratch code a i x.s
    pub t : IsScratch code a i x.t
    pub apart : x.s.register ≢ x.t.register
    pub u : x.u ≡ no_scratch

-- so many scratch registers of the instruction at a, and no more
abbrev pub HasSoMany : ℕ → (ℕ → Option Instr) → ℕ → Instr → Scratches → Type 0
HasSoMany zero code a i x = x ≡ no_scratches
HasSoMany (suc zero) code a i x = HasOneScratch code a i x
HasSoMany (suc (suc n)) code a i x = HasTwoScratches code a i x

-- what the template of an instruction at a asks of the scratch registers of its single sequence
abbrev pub HasScratches : Template → (ℕ → Option Instr) → ℕ → Instr → Scratches → Type 0
HasScratches template code a i x = HasSoMany (scratch_count template) code a i x

abbrev pub HasScratchesAt : Template → (ℕ → Option Instr) → ℕ → Option Instr → Scratches → Type 0
HasScratchesAt template code a None x = x ≡ no_scratches
HasScratchesAt template code a (Some i) x = HasScratches template code a i x

-- a sequence of this template may begin with a poll
abbrev pub may_poll : Template → Bool
may_poll Branch = true
may_poll Jump = true
may_poll Indirect = true
may_poll template = false

-- an instruction at a that may close a loop, which has to poll: an indirect jump, or a direct one
-- that doesn't go forward
abbrev pub closes_loop : Instr → ℕ → Bool
closes_loop (Jalr rd rs1 imm) a = true
closes_loop i a = option_map_or (λ target. nat_le target a) (aligned_target i a) false

abbrev pub closes_loop_at : ℕ → Option Instr → Bool
closes_loop_at a None = false
closes_loop_at a (Some i) = closes_loop i a

-- no run starts at the entry's place
pub record StartsNoRun (e : PlanEntry) : Type 0 where
  pub run : e.run ≡ 0
  pub batch : e.batch ≡ no_scratches

-- a run starts there
pub record StartsRun (code : ℕ → Option Instr) (e : PlanEntry) : Type 0 where
  pub run : IsRun code e.address e.run
  pub batch : HasRunScratches code e.address (reach_at code e.address e.run).base e.batch

-- the entry serves its place
pub record Serves (code : ℕ → Option Instr) (e : PlanEntry) : Type 0 where
  pub template : e.template ≡ template_at e.address (code e.address)
  pub single : HasScratchesAt e.template code e.address (code e.address) e.single
  pub may_poll : IsTrue e.polls → IsTrue (may_poll e.template)
  pub polls : IsTrue (closes_loop_at e.address (code e.address)) → IsTrue e.polls
  pub run : StartsNoRun e ⊎ StartsRun code e

-- the addresses ascend, from this one on
abbrev pub AscendsFrom : ℕ → List PlanEntry → Type 0
AscendsFrom low [] = Unit {0}
AscendsFrom low (e ∷ es) = (low ≤ e.address) × AscendsFrom (e.address + 1) es

abbrev pub addresses : List PlanEntry → List ℕ
addresses plan = map (λ e. e.address) plan

-- no address lies in two runs
abbrev pub RunsApart : List PlanEntry → Type 0
RunsApart plan = (e f : PlanEntry) (a : ℕ) → Contains plan e → Contains plan f → IsInRun e a
    → IsInRun f a → e ≡ f

-- the plan has an entry for each place, in ascending order, and no other; each serves its place;
-- and no two runs share a place
pub record IsAdmissible (program : Program) (plan : List PlanEntry) : Type 0 where
  pub ascends : AscendsFrom 0 plan
  pub complete : (a : ℕ) → IsPlace program.code a → Contains (addresses plan) a
  pub sound : (a : ℕ) → Contains (addresses plan) a → IsPlace program.code a
  pub serves : (e : PlanEntry) → Contains plan e → Serves program.code e
  pub apart : RunsApart plan
