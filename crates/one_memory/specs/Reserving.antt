-- When a conditional store stores, and what a reservation is lost by
-- (RISC-V Unprivileged ISA, "Load-Reserved/Store-Conditional Instructions").
use Rattle.std.specs.Prelude.{◌≡◌, ◌≢◌, ℕ, Bool, true, if◌then◌else◌, Option, Some, ◌⊎◌}
use Rattle.rv32_decode.specs.Widths.{is_aligned}
use Rattle.rv32_decode.specs.declared.Width.TheVariants.{Word}
use Rattle.block_layout.specs.Layout.{Shape, block_of, has_line}
use Rattle.llsc.specs.Reservation.{holds}
use Rattle.rv32_program.specs.Program.{class_at, is_writable, line_of}
use Rattle.rv32_step.specs.Registers.{put}
use Rattle.rv32_step.specs.declared.Demand.TheVariants.{StoresIf}
use Rattle.rv32_step.specs.Demands.{demand_of}
use Rattle.rv32_step.specs.OneMemory.{Original, State, Request, Becomes, Prints, LoadsFrom, StoresTo, ReservesAt, StoresWhere, UpdatesAt, Pick, Step, Break, WritesIf, request, shared_stored, step}
use Rattle.rv32_decode.specs.declared.Instr.{Instr}

-- processor p is at an aligned SC to a line that may be written
pub record IsAtConditional (original : Original) (s : State) (p r a value : ℕ) : Type 0 where
  pub instruction : Instr
  pub here : original.program.code (s.processors p).pc ≡ Some instruction
  pub demands : demand_of instruction (s.processors p).registers (s.processors p).pc
      ≡ StoresIf r a value
  pub aligned : is_aligned Word a ≡ true
  pub writable : is_writable (class_at original.program a) ≡ true

-- it stores, and its register gets 0, where this is so; else its register gets 1
pub record StoresExactly (original : Original) (s : State) (p r a value : ℕ) (reserved : Bool)
    : Type 0 where
  pub access : (step original s p).access ≡ WritesIf a value reserved
  pub shared : (step original s p).state.shared
      ≡ (if reserved then shared_stored original.program s Word a value else s.shared)
  pub result : ((step original s p).state.processors p).registers
      ≡ put (s.processors p).registers r (if reserved then 0 else 1)

-- the address lies in the block of a reservation
pub record IsInBlockOf (layout : Shape) (a : ℕ) (held : Option ℕ) : Type 0 where
  pub reserved : ℕ
  pub has : held ≡ Some reserved
  pub block : ℕ
  pub lies : block_of layout (line_of a) ≡ Some block
  pub line : has_line layout block (line_of reserved) ≡ true

-- a request of processor q that replaces or ends the reservation of processor p: its own LR or SC,
-- or another's store, AMO or storing SC in the block
abbrev pub Replaces : Shape → (ℕ → Option ℕ) → ℕ → ℕ → Request → Type 0
Replaces layout held p q (Becomes x) = ⊥
Replaces layout held p q (Prints a) = ⊥
Replaces layout held p q (LoadsFrom k r a) = ⊥
Replaces layout held p q (StoresTo w a value) = (p ≢ q) × IsInBlockOf layout a (held p)
Replaces layout held p q (ReservesAt r a) = p ≡ q
Replaces layout held p q (StoresWhere r a value) =
    (p ≡ q) ⊎ ((holds (held q) a ≡ true) × IsInBlockOf layout a (held p))
Replaces layout held p q (UpdatesAt o r a value) = (p ≢ q) × IsInBlockOf layout a (held p)

-- a pick that does so: such a request, or a break
abbrev pub ReplacesBy : Original → State → ℕ → Pick → Type 0
ReplacesBy original s p (Step q) =
    Replaces original.layout s.reservations p q (request original.program (s.processors q))
ReplacesBy original s p (Break r q) = p ≡ r
