-- The instructions of RV32I, M and A, by rows of a mask, a match and the fields
-- (RISC-V Unprivileged ISA, "RV32/64G Instruction Set Listings").
use Rattle.std.specs.Prelude.{ℕ, ◌+◌, ◌*◌, ◌^◌, Bool, ◌==◌, List, [], ◌∷◌, ◌++◌, map, Option, find, bit_and}
use Rattle.std.specs.Option.{option_map}
use Rattle.rv32_decode.specs.Fields.{field, bit, imm_i, imm_s, imm_b, imm_j}
use Rattle.rv32_decode.specs.declared.Cond.{Cond}
use Rattle.rv32_decode.specs.declared.Cond.TheVariants.{Eq, Ne, Lt, Ge, Ltu, Geu}
use Rattle.rv32_decode.specs.declared.LoadKind.{LoadKind}
use Rattle.rv32_decode.specs.declared.LoadKind.TheVariants as load_kind
use Rattle.rv32_decode.specs.declared.Width.{Width}
use Rattle.rv32_decode.specs.declared.Width.TheVariants as width
use Rattle.rv32_decode.specs.declared.Op.{Op as Operation}
use Rattle.rv32_decode.specs.declared.Op.TheVariants as op
use Rattle.rv32_decode.specs.declared.ImmOp.{ImmOp}
use Rattle.rv32_decode.specs.declared.ImmOp.TheVariants as imm_op
use Rattle.rv32_decode.specs.declared.ShiftOp.{ShiftOp}
use Rattle.rv32_decode.specs.declared.ShiftOp.TheVariants as shift_op
use Rattle.rv32_decode.specs.declared.AmoOp.{AmoOp}
use Rattle.rv32_decode.specs.declared.AmoOp.TheVariants as amo_op
use Rattle.rv32_decode.specs.declared.IllegalWord.TheVariants.{Zeros, Ones, CycleWrite}
use Rattle.rv32_decode.specs.declared.Instr.{Instr}
use Rattle.rv32_decode.specs.declared.Instr.TheVariants.{Lui, Auipc, Jal, Jalr, Branch, Load, Store, OpImm, ShiftImm, Op, Fence, Ecall, Ebreak, Lr, Sc, Amo, Illegal}

pub record Row : Type 0 where
  pub mask : ℕ
  pub match : ℕ
  pub fields : ℕ → Instr

abbrev pub row : ℕ → ℕ → (ℕ → Instr) → Row
row mask match fields = record { mask = mask; match = match; fields = fields }

-- the major opcode alone is fixed
abbrev pub opcode_row : ℕ → (ℕ → Instr) → Row
opcode_row opcode fields = row 0x7f opcode fields

-- the major opcode and funct3 are fixed
abbrev pub funct3_row : ℕ → ℕ → (ℕ → Instr) → Row
funct3_row funct3 opcode fields = row 0x707f (funct3 * 2 ^ 12 + opcode) fields

-- the major opcode, funct3 and funct7 are fixed
abbrev pub funct7_row : ℕ → ℕ → ℕ → (ℕ → Instr) → Row
funct7_row funct7 funct3 opcode fields =
    row 0xfe00707f (funct7 * 2 ^ 25 + funct3 * 2 ^ 12 + opcode) fields

-- the major opcode, funct3 and funct5 are fixed; aq and rl are not
abbrev pub funct5_row : ℕ → ℕ → ℕ → (ℕ → Instr) → Row
funct5_row funct5 funct3 opcode fields =
    row 0xf800707f (funct5 * 2 ^ 27 + funct3 * 2 ^ 12 + opcode) fields

-- funct3 of each condition of BRANCH
abbrev pub branch_table : List (ℕ × Cond)
branch_table = (0, Eq) ∷ (1, Ne) ∷ (4, Lt) ∷ (5, Ge) ∷ (6, Ltu) ∷ (7, Geu) ∷ []

-- funct3 of each kind of LOAD
abbrev pub load_table : List (ℕ × LoadKind)
load_table =
    (0, load_kind.Byte) ∷ (1, load_kind.Half) ∷ (2, load_kind.Word) ∷ (4, load_kind.ByteU)
    ∷ (5, load_kind.HalfU) ∷ []

-- funct3 of each width of STORE
abbrev pub store_table : List (ℕ × Width)
store_table = (0, width.Byte) ∷ (1, width.Half) ∷ (2, width.Word) ∷ []

-- funct3 of each operation of OP-IMM that has a 12-bit immediate
abbrev pub imm_table : List (ℕ × ImmOp)
imm_table =
    (0, imm_op.Add) ∷ (2, imm_op.Slt) ∷ (3, imm_op.Sltu) ∷ (4, imm_op.Xor) ∷ (6, imm_op.Or)
    ∷ (7, imm_op.And) ∷ []

-- funct7 and funct3 of each shift of OP-IMM
abbrev pub shift_table : List (ℕ × ℕ × ShiftOp)
shift_table = (0, 1, shift_op.Sll) ∷ (0, 5, shift_op.Srl) ∷ (32, 5, shift_op.Sra) ∷ []

-- funct7 and funct3 of each operation of OP; multiplication and division have funct7 1
abbrev pub op_table : List (ℕ × ℕ × Operation)
op_table =
    (0, 0, op.Add) ∷ (32, 0, op.Sub) ∷ (0, 1, op.Sll) ∷ (0, 2, op.Slt) ∷ (0, 3, op.Sltu)
    ∷ (0, 4, op.Xor) ∷ (0, 5, op.Srl) ∷ (32, 5, op.Sra) ∷ (0, 6, op.Or) ∷ (0, 7, op.And)
    ∷ (1, 0, op.Mul) ∷ (1, 1, op.Mulh) ∷ (1, 2, op.Mulhsu) ∷ (1, 3, op.Mulhu)
    ∷ (1, 4, op.Div) ∷ (1, 5, op.Divu) ∷ (1, 6, op.Rem) ∷ (1, 7, op.Remu) ∷ []

-- funct5 of each read-modify-write of AMO
abbrev pub amo_table : List (ℕ × AmoOp)
amo_table =
    (1, amo_op.Swap) ∷ (0, amo_op.Add) ∷ (4, amo_op.Xor) ∷ (12, amo_op.And) ∷ (8, amo_op.Or)
    ∷ (16, amo_op.Min) ∷ (20, amo_op.Max) ∷ (24, amo_op.Minu) ∷ (28, amo_op.Maxu) ∷ []

abbrev pub branch_row : ℕ × Cond → Row
branch_row t = funct3_row t.0 0x63 (λ w. Branch t.1 (field w 15 5) (field w 20 5) (imm_b w))

abbrev pub load_row : ℕ × LoadKind → Row
load_row t = funct3_row t.0 0x03 (λ w. Load t.1 (field w 7 5) (field w 15 5) (imm_i w))

abbrev pub store_row : ℕ × Width → Row
store_row t = funct3_row t.0 0x23 (λ w. Store t.1 (field w 15 5) (field w 20 5) (imm_s w))

abbrev pub imm_row : ℕ × ImmOp → Row
imm_row t = funct3_row t.0 0x13 (λ w. OpImm t.1 (field w 7 5) (field w 15 5) (imm_i w))

abbrev pub shift_row : ℕ × ℕ × ShiftOp → Row
shift_row t =
    funct7_row t.0 t.1 0x13 (λ w. ShiftImm t.2 (field w 7 5) (field w 15 5) (field w 20 5))

abbrev pub op_row : ℕ × ℕ × Operation → Row
op_row t = funct7_row t.0 t.1 0x33 (λ w. Op t.2 (field w 7 5) (field w 15 5) (field w 20 5))

abbrev pub amo_row : ℕ × AmoOp → Row
amo_row t =
    funct5_row t.0 2 0x2f (λ w. Amo t.1 (field w 7 5) (field w 15 5) (field w 20 5) (bit w 26)
    (bit w 25))

-- a row whose one word has no fields
abbrev pub word_row : ℕ → Instr → Row
word_row word i = row 0xffffffff word (λ w. i)

-- every row
unfoldable pub rows : List Row
rows =
    opcode_row 0x37 (λ w. Lui (field w 7 5) (field w 12 20))
    ∷ opcode_row 0x17 (λ w. Auipc (field w 7 5) (field w 12 20))
    ∷ opcode_row 0x6f (λ w. Jal (field w 7 5) (imm_j w))
    ∷ funct3_row 0 0x67 (λ w. Jalr (field w 7 5) (field w 15 5) (imm_i w))
    ∷ funct3_row 0 0x0f (λ w. Fence (field w 7 5) (field w 15 5) (field w 20 12))
    ∷ row 0xf9f0707f 0x1000202f (λ w. Lr (field w 7 5) (field w 15 5) (bit w 26) (bit w 25))
    ∷ funct5_row 3 2 0x2f
    (λ w. Sc (field w 7 5) (field w 15 5) (field w 20 5) (bit w 26) (bit w 25))
    ∷ word_row 0x73 Ecall
    ∷ word_row 0x100073 Ebreak
    ∷ word_row 0 (Illegal Zeros)
    ∷ word_row 0xffffffff (Illegal Ones)
    ∷ word_row 0xc0001073 (Illegal CycleWrite)
    ∷ (map branch_row branch_table ++ map load_row load_table ++ map store_row store_table
    ++ map imm_row imm_table ++ map shift_row shift_table ++ map op_row op_table
    ++ map amo_row amo_table)

-- the row stands for the word
abbrev pub fits : ℕ → Row → Bool
fits word r = bit_and word r.mask == r.match

-- the instruction of a word, by the row that fits it
unfoldable pub instruction_of : ℕ → Option Instr
instruction_of word = option_map (λ r. r.fields word) (find (fits word) rows)
