-- What an instruction asks for, apart from any memory: one meaning, which every machine cites
-- (RISC-V Unprivileged ISA, "RV32I Base Integer Instruction Set", "M" for multiplication and
-- division, and "A" for atomic instructions).
use Rattle.std.specs.Prelude.{ℕ, pos, ◌+◌, ◌-◌, ◌*◌, ◌/◌, ◌%◌, ◌^◌, Bool, true, false, if◌then◌else◌, ◌||◌, ◌==◌, nat_lt}
use Rattle.rv32_decode.specs.Fields.{unsigned}
use Rattle.rv32_decode.specs.declared.Instr.{Instr}
use Rattle.rv32_decode.specs.declared.Instr.TheVariants.{Lui, Auipc, Jal, Jalr, Branch, Load, Store, OpImm, ShiftImm, Op, Fence, Ecall, Ebreak, Lr, Sc, Amo, Illegal as IllegalWord}
use Rattle.rv32_decode.specs.declared.Op.{Op as Operation}
use Rattle.rv32_decode.specs.declared.Op.TheVariants as op
use Rattle.rv32_decode.specs.declared.ImmOp.{ImmOp}
use Rattle.rv32_decode.specs.declared.ImmOp.TheVariants as imm_op
use Rattle.rv32_decode.specs.declared.ShiftOp.{ShiftOp}
use Rattle.rv32_decode.specs.declared.ShiftOp.TheVariants as shift_op
use Rattle.rv32_ops.specs.Operations.{alu, taken}
use Rattle.rv32_program.specs.declared.CallKind.{CallKind}
use Rattle.rv32_program.specs.declared.CallKind.TheVariants.{Exit, Write, Unknown}
use Rattle.rv32_program.specs.Program.{call_of}
use Rattle.rv32_program.specs.Targets.{offset_address}
use Rattle.rv32_step.specs.Registers.{reg}
use Rattle.rv32_program.specs.declared.Exit.TheVariants.{Ebreak as EbreakExit, Illegal as IllegalExit}
use Rattle.rv32_step.specs.declared.Demand.{Demand}
use Rattle.rv32_step.specs.declared.Demand.TheVariants.{Sets, Continues, Jumps, Branches, Loads, Stores, Calls, Traps, Reserves, StoresIf, Updates}
use Rattle.rv32_step.specs.declared.CallStep.{CallStep}
use Rattle.rv32_step.specs.declared.CallStep.TheVariants.{Ends, Returns, Puts}

-- the operation of OP that an operation of OP-IMM makes with its immediate
abbrev pub operation_of : ImmOp → Operation
operation_of imm_op.Add = op.Add
operation_of imm_op.Slt = op.Slt
operation_of imm_op.Sltu = op.Sltu
operation_of imm_op.Xor = op.Xor
operation_of imm_op.Or = op.Or
operation_of imm_op.And = op.And

abbrev pub shift_of : ShiftOp → Operation
shift_of shift_op.Sll = op.Sll
shift_of shift_op.Srl = op.Srl
shift_of shift_op.Sra = op.Sra

-- a branch goes to its target where it is taken
abbrev pub branch_demand : Bool → ℕ → Demand
branch_demand true target = Branches target
branch_demand false target = Continues

-- what an instruction at pc asks for, with these registers
abbrev pub demand_of : Instr → (ℕ → ℕ) → ℕ → Demand
demand_of (Lui rd upper) registers pc = Sets rd (upper * 2 ^ 12)
demand_of (Auipc rd upper) registers pc = Sets rd ((pc + upper * 2 ^ 12) % 2 ^ 32)
demand_of (Jal rd offset) registers pc = Jumps rd (offset_address pc offset)
demand_of (Jalr rd rs1 imm) registers pc = Jumps rd (offset_address (reg registers rs1) imm / 2 * 2)
demand_of (Branch c rs1 rs2 offset) registers pc =
    branch_demand (taken c (reg registers rs1) (reg registers rs2)) (offset_address pc offset)
demand_of (Load k rd rs1 imm) registers pc = Loads k rd (offset_address (reg registers rs1) imm)
demand_of (Store w rs1 rs2 imm) registers pc =
    Stores w (offset_address (reg registers rs1) imm) (reg registers rs2)
demand_of (OpImm o rd rs1 imm) registers pc =
    Sets rd (alu (operation_of o) (reg registers rs1) (unsigned 32 imm))
demand_of (ShiftImm o rd rs1 amount) registers pc =
    Sets rd (alu (shift_of o) (reg registers rs1) amount)
demand_of (Op o rd rs1 rs2) registers pc = Sets rd (alu o (reg registers rs1) (reg registers rs2))
demand_of (Fence rd rs1 bits) registers pc = Continues
demand_of Ecall registers pc = Calls
demand_of Ebreak registers pc = Traps (EbreakExit pc)
demand_of (IllegalWord word) registers pc = Traps (IllegalExit pc)
demand_of (Lr rd rs1 aq rl) registers pc = Reserves rd (offset_address (reg registers rs1) (pos 0))
demand_of (Sc rd rs1 rs2 aq rl) registers pc =
    StoresIf rd (offset_address (reg registers rs1) (pos 0)) (reg registers rs2)
demand_of (Amo o rd rs1 rs2 aq rl) registers pc =
    Updates o rd (offset_address (reg registers rs1) (pos 0)) (reg registers rs2)

-- a negative result of a call, as a word
abbrev pub failure : ℕ → ℕ
failure code = 2 ^ 32 - code

-- a write of the a2 bytes from a1 on to file a0, so many of them written: the next byte, or the
-- result. Only files 1 and 2 are there; another one is a bad file number, 9
abbrev pub write_step : (ℕ → ℕ) → ℕ → CallStep
write_step registers written =
    if (reg registers 10 == 1) || (reg registers 10 == 2) then
    (if nat_lt written (reg registers 12) then Puts ((reg registers 11 + written) % 2 ^ 32)
    else Returns written)
    else Returns (failure 9)

-- one step of a call: exit, write, or none that is there (38)
abbrev pub step_of : CallKind → (ℕ → ℕ) → ℕ → CallStep
step_of Exit registers written = Ends (reg registers 10 % 2 ^ 8)
step_of Write registers written = write_step registers written
step_of Unknown registers written = Returns (failure 38)

-- one step of the call that a7 names
abbrev pub call_step : (ℕ → ℕ) → ℕ → CallStep
call_step registers written = step_of (call_of (reg registers 17)) registers written

-- the result of a write whose next byte is not mapped: the bytes written, or a bad address, 14
abbrev pub cut_short : ℕ → ℕ
cut_short written = if written == 0 then failure 14 else written
