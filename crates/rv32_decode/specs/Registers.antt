-- The registers that an instruction reads and writes, and sets of registers.
use Rattle.std.specs.Prelude.{◌≡◌, ◌≢◌, ℕ, List, [], ◌∷◌, Contains, Option, Some, None}
use Rattle.rv32_decode.specs.Fields.{field}
use Rattle.rv32_decode.specs.declared.Instr.{Instr}
use Rattle.rv32_decode.specs.declared.Instr.TheVariants.{Lui, Auipc, Jal, Jalr, Branch, Load, Store, OpImm, ShiftImm, Op, Fence, Ecall, Ebreak, Lr, Sc, Amo, Illegal}

-- the registers that the fields name as read
abbrev pub sources : Instr → List ℕ
sources (Lui rd upper) = []
sources (Auipc rd upper) = []
sources (Jal rd offset) = []
sources (Jalr rd rs1 imm) = rs1 ∷ []
sources (Branch c rs1 rs2 offset) = rs1 ∷ rs2 ∷ []
sources (Load kind rd rs1 imm) = rs1 ∷ []
sources (Store width rs1 rs2 imm) = rs1 ∷ rs2 ∷ []
sources (OpImm o rd rs1 imm) = rs1 ∷ []
sources (ShiftImm o rd rs1 amount) = rs1 ∷ []
sources (Op o rd rs1 rs2) = rs1 ∷ rs2 ∷ []
sources (Fence rd rs1 bits) = []
sources Ecall = []
sources Ebreak = []
sources (Lr rd rs1 aq rl) = rs1 ∷ []
sources (Sc rd rs1 rs2 aq rl) = rs1 ∷ rs2 ∷ []
sources (Amo o rd rs1 rs2 aq rl) = rs1 ∷ rs2 ∷ []
sources (Illegal word) = []

-- the register that the fields name as written
abbrev pub destination : Instr → Option ℕ
destination (Lui rd upper) = Some rd
destination (Auipc rd upper) = Some rd
destination (Jal rd offset) = Some rd
destination (Jalr rd rs1 imm) = Some rd
destination (Branch c rs1 rs2 offset) = None
destination (Load kind rd rs1 imm) = Some rd
destination (Store width rs1 rs2 imm) = None
destination (OpImm o rd rs1 imm) = Some rd
destination (ShiftImm o rd rs1 amount) = Some rd
destination (Op o rd rs1 rs2) = Some rd
destination (Fence rd rs1 bits) = None
destination Ecall = None
destination Ebreak = None
destination (Lr rd rs1 aq rl) = Some rd
destination (Sc rd rs1 rs2 aq rl) = Some rd
destination (Amo o rd rs1 rs2 aq rl) = Some rd
destination (Illegal word) = None

-- the register is in the set: the set's bit of its number is 1
abbrev pub IsMember : ℕ → ℕ → Type 0
IsMember set r = field set r 1 ≡ 1

-- the instruction reads the register, which isn't x0
abbrev pub Reads : Instr → ℕ → Type 0
Reads i r = (r ≢ 0) × Contains (sources i) r

-- the instruction writes the register, which isn't x0
abbrev pub Writes : Instr → ℕ → Type 0
Writes i r = (r ≢ 0) × (destination i ≡ Some r)
