-- What a micro-op does: an instruction with its address worked in, decoded flat for machines that
-- execute it many times (RISC-V Unprivileged ISA, "RV32I Base Integer Instruction Set" and "M" for
-- multiplication and division).
use Rattle.std.specs.Prelude.{◌≡◌, ℕ, ◌+◌, ◌*◌, ◌/◌, ◌%◌, ◌^◌, Bool, true, false, not, ◌==◌}
use Rattle.rv32_decode.specs.declared.Instr.{Instr}
use Rattle.rv32_decode.specs.declared.Instr.TheVariants as instr
use Rattle.rv32_decode.specs.declared.Op.{Op as Operation}
use Rattle.rv32_decode.specs.declared.Op.TheVariants as op
use Rattle.rv32_decode.specs.declared.Cond.{Cond}
use Rattle.rv32_decode.specs.declared.Cond.TheVariants.{Eq, Ne, Lt, Ge, Ltu, Geu}
use Rattle.rv32_decode.specs.declared.LoadKind.{LoadKind}
use Rattle.rv32_decode.specs.declared.LoadKind.TheVariants as load_kind
use Rattle.rv32_decode.specs.declared.Width.{Width}
use Rattle.rv32_decode.specs.declared.Width.TheVariants as width
use Rattle.rv32_step.specs.rv32_ops.Operations.{alu, taken}
use Rattle.rv32_step.specs.rv32_program.Targets.{offset_address}
use Rattle.rv32_step.specs.Registers.{reg}
use Rattle.rv32_step.specs.Demands.{demand_of, branch_demand}
use Rattle.rv32_step.specs.declared.Demand.{Demand}
use Rattle.rv32_step.specs.declared.Demand.TheVariants.{Sets, Continues, Jumps, Loads, Stores}
use Rattle.micro_op.specs.declared.micro_op.MicroOp.{MicroOp}
use Rattle.micro_op.specs.declared.MicroKind.{MicroKind}
use Rattle.micro_op.specs.declared.MicroKind.TheVariants.{Slow, Nothing, Constant, Jump, JumpBy, EnterBy, BranchEq, BranchNe, BranchLt, BranchGe, BranchLtu, BranchGeu, LoadByte, LoadHalf, LoadWord, LoadByteU, LoadHalfU, StoreByte, StoreHalf, StoreWord, AddImm, SltImm, SltuImm, XorImm, OrImm, AndImm, SllImm, SrlImm, SraImm, Add, Sub, Sll, Slt, Sltu, Xor, Srl, Sra, Or, And, Mul, Mulh, Mulhsu, Mulhu, Div, Divu, Rem, Remu}

-- what a micro-op does: it is left to the path that serves every word; or it demands what an
-- instruction may demand; or it enters the sequence of an original address
pub data Meaning : Type 0 where
  Unserved : Meaning
  Demands : (demand : Demand) → Meaning
  Enters : (original : ℕ) → Meaning

-- the address of a word, by its index from a base on
abbrev pub index_address : ℕ → ℕ → ℕ
index_address base k = (base + 4 * k) % 2 ^ 32

-- the address that rs1 and the immediate make
abbrev pub sum_address : MicroOp → (ℕ → ℕ) → ℕ
sum_address m registers = (reg registers m.rs1 + m.imm) % 2 ^ 32

-- rd gets the result of an operation on rs1 and rs2, or on rs1 and the immediate
abbrev pub by_registers : Operation → MicroOp → (ℕ → ℕ) → Meaning
by_registers o m registers =
    Demands (Sets m.rd (alu o (reg registers m.rs1) (reg registers m.rs2)))

abbrev pub by_immediate : Operation → MicroOp → (ℕ → ℕ) → Meaning
by_immediate o m registers = Demands (Sets m.rd (alu o (reg registers m.rs1) m.imm))

-- the word whose index is the immediate follows, where the condition holds of rs1 and rs2
abbrev pub branches : Cond → ℕ → MicroOp → (ℕ → ℕ) → Meaning
branches c base m registers =
    Demands (branch_demand (taken c (reg registers m.rs1) (reg registers m.rs2))
    (index_address base m.imm))

abbrev pub loads : LoadKind → MicroOp → (ℕ → ℕ) → Meaning
loads k m registers = Demands (Loads k m.rd (sum_address m registers))

abbrev pub stores : Width → MicroOp → (ℕ → ℕ) → Meaning
stores w m registers = Demands (Stores w (sum_address m registers) (reg registers m.rs2))

-- what a micro-op of this kind does, where indices are from this base on
abbrev pub meaning_by : MicroKind → ℕ → MicroOp → (ℕ → ℕ) → Meaning
meaning_by Slow base m registers = Unserved
meaning_by Nothing base m registers = Demands Continues
meaning_by Constant base m registers = Demands (Sets m.rd m.imm)
meaning_by Jump base m registers = Demands (Jumps m.rd (index_address base m.imm))
meaning_by JumpBy base m registers = Demands (Jumps m.rd (sum_address m registers / 2 * 2))
meaning_by EnterBy base m registers = Enters (sum_address m registers / 2 * 2)
meaning_by BranchEq base m registers = branches Eq base m registers
meaning_by BranchNe base m registers = branches Ne base m registers
meaning_by BranchLt base m registers = branches Lt base m registers
meaning_by BranchGe base m registers = branches Ge base m registers
meaning_by BranchLtu base m registers = branches Ltu base m registers
meaning_by BranchGeu base m registers = branches Geu base m registers
meaning_by LoadByte base m registers = loads load_kind.Byte m registers
meaning_by LoadHalf base m registers = loads load_kind.Half m registers
meaning_by LoadWord base m registers = loads load_kind.Word m registers
meaning_by LoadByteU base m registers = loads load_kind.ByteU m registers
meaning_by LoadHalfU base m registers = loads load_kind.HalfU m registers
meaning_by StoreByte base m registers = stores width.Byte m registers
meaning_by StoreHalf base m registers = stores width.Half m registers
meaning_by StoreWord base m registers = stores width.Word m registers
meaning_by AddImm base m registers = by_immediate op.Add m registers
meaning_by SltImm base m registers = by_immediate op.Slt m registers
meaning_by SltuImm base m registers = by_immediate op.Sltu m registers
meaning_by XorImm base m registers = by_immediate op.Xor m registers
meaning_by OrImm base m registers = by_immediate op.Or m registers
meaning_by AndImm base m registers = by_immediate op.And m registers
meaning_by SllImm base m registers = by_immediate op.Sll m registers
meaning_by SrlImm base m registers = by_immediate op.Srl m registers
meaning_by SraImm base m registers = by_immediate op.Sra m registers
meaning_by Add base m registers = by_registers op.Add m registers
meaning_by Sub base m registers = by_registers op.Sub m registers
meaning_by Sll base m registers = by_registers op.Sll m registers
meaning_by Slt base m registers = by_registers op.Slt m registers
meaning_by Sltu base m registers = by_registers op.Sltu m registers
meaning_by Xor base m registers = by_registers op.Xor m registers
meaning_by Srl base m registers = by_registers op.Srl m registers
meaning_by Sra base m registers = by_registers op.Sra m registers
meaning_by Or base m registers = by_registers op.Or m registers
meaning_by And base m registers = by_registers op.And m registers
meaning_by Mul base m registers = by_registers op.Mul m registers
meaning_by Mulh base m registers = by_registers op.Mulh m registers
meaning_by Mulhsu base m registers = by_registers op.Mulhsu m registers
meaning_by Mulhu base m registers = by_registers op.Mulhu m registers
meaning_by Div base m registers = by_registers op.Div m registers
meaning_by Divu base m registers = by_registers op.Divu m registers
meaning_by Rem base m registers = by_registers op.Rem m registers
meaning_by Remu base m registers = by_registers op.Remu m registers

-- what a micro-op does with these registers
abbrev pub meaning_of : ℕ → MicroOp → (ℕ → ℕ) → Meaning
meaning_of base m registers = meaning_by m.kind base m registers

-- it does what is demanded, or is left to the path that serves every word
abbrev pub Meets : Meaning → Demand → Type 0
Meets Unserved d = Unit {0}
Meets (Demands e) d = e ≡ d
Meets (Enters original) d = ⊥

-- the micro-op does what the instruction at an address demands, whatever the registers
pub record IsMicroOf (base address : ℕ) (i : Instr) (m : MicroOp) : Type 0 where
  pub meets : (registers : ℕ → ℕ)
      → Meets (meaning_of base m registers) (demand_of i registers address)

-- it enters this original address and keeps no link, or is left to the path that serves every word
abbrev pub EntersAt : Meaning → ℕ → ℕ → Type 0
EntersAt Unserved rd original = Unit {0}
EntersAt (Demands d) rd original = ⊥
EntersAt (Enters target) rd original = (rd ≡ 0) × (target ≡ original)

-- the micro-op enters what an indirect jump of rewritten code enters
pub record IsEntryOf (base rd rs1 imm : ℕ) (m : MicroOp) : Type 0 where
  pub enters : (registers : ℕ → ℕ)
      → EntersAt (meaning_of base m registers) rd ((reg registers rs1 + imm) % 2 ^ 32 / 2 * 2)

-- the instruction at an address is left to the path that serves every word: a call, a trap, an
-- instruction of the A extension, or a direct jump or branch whose target isn't a multiple of four
abbrev pub is_slow : Instr → ℕ → Bool
is_slow (instr.Jal rd offset) address = not (offset_address address offset % 4 == 0)
is_slow (instr.Branch c rs1 rs2 offset) address = not (offset_address address offset % 4 == 0)
is_slow instr.Ecall address = true
is_slow instr.Ebreak address = true
is_slow (instr.Lr rd rs1 aq rl) address = true
is_slow (instr.Sc rd rs1 rs2 aq rl) address = true
is_slow (instr.Amo o rd rs1 rs2 aq rl) address = true
is_slow (instr.Illegal word) address = true
is_slow i address = false
