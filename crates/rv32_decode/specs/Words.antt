-- The word of an instruction, by its format, and the ranges of its parts.
use Rattle.std.specs.Prelude.{◌≡◌, ℕ, ◌^◌, ◌%◌, ◌<◌, pos, negsuc, ◌≤ℤ◌}
use Rattle.rv32_decode.specs.Fields.{unsigned}
use Rattle.rv32_decode.specs.Formats.{r_word, i_word, s_word, b_word, u_word, j_word}
use Rattle.rv32_decode.specs.Codes.{branch_code, load_code, store_code, imm_code, shift_codes, op_codes, amo_code, illegal_word, ordered}
use Rattle.rv32_decode.specs.declared.Instr.{Instr}
use Rattle.rv32_decode.specs.declared.Instr.TheVariants.{Lui, Auipc, Jal, Jalr, Branch, Load, Store, OpImm, ShiftImm, Op, Fence, Ecall, Ebreak, Lr, Sc, Amo, Illegal}

abbrev pub word_of : Instr → ℕ
word_of (Lui rd upper) = u_word upper rd 0x37
word_of (Auipc rd upper) = u_word upper rd 0x17
word_of (Jal rd offset) = j_word (unsigned 21 offset) rd 0x6f
word_of (Jalr rd rs1 imm) = i_word (unsigned 12 imm) rs1 0 rd 0x67
word_of (Branch c rs1 rs2 offset) = b_word (unsigned 13 offset) rs2 rs1 (branch_code c) 0x63
word_of (Load kind rd rs1 imm) = i_word (unsigned 12 imm) rs1 (load_code kind) rd 0x03
word_of (Store width rs1 rs2 imm) = s_word (unsigned 12 imm) rs2 rs1 (store_code width) 0x23
word_of (OpImm o rd rs1 imm) = i_word (unsigned 12 imm) rs1 (imm_code o) rd 0x13
word_of (ShiftImm o rd rs1 amount) = r_word (shift_codes o).0 amount rs1 (shift_codes o).1 rd 0x13
word_of (Op o rd rs1 rs2) = r_word (op_codes o).0 rs2 rs1 (op_codes o).1 rd 0x33
word_of (Fence rd rs1 bits) = i_word bits rs1 0 rd 0x0f
word_of Ecall = 0x73
word_of Ebreak = 0x100073
word_of (Lr rd rs1 aq rl) = r_word (ordered 2 aq rl) 0 rs1 2 rd 0x2f
word_of (Sc rd rs1 rs2 aq rl) = r_word (ordered 3 aq rl) rs2 rs1 2 rd 0x2f
word_of (Amo o rd rs1 rs2 aq rl) = r_word (ordered (amo_code o) aq rl) rs2 rs1 2 rd 0x2f
word_of (Illegal word) = illegal_word word

-- each part is within its range
abbrev pub IsInRange : Instr → Type 0
IsInRange (Lui rd upper) = (rd < 32) × (upper < 2 ^ 20)
IsInRange (Auipc rd upper) = (rd < 32) × (upper < 2 ^ 20)
IsInRange (Jal rd offset) =
    (rd < 32) × (negsuc 1048575 ≤ℤ offset) × (offset ≤ℤ pos 1048574)
    × (unsigned 32 offset % 2 ≡ 0)
IsInRange (Jalr rd rs1 imm) = (rd < 32) × (rs1 < 32) × (negsuc 2047 ≤ℤ imm) × (imm ≤ℤ pos 2047)
IsInRange (Branch c rs1 rs2 offset) =
    (rs1 < 32) × (rs2 < 32) × (negsuc 4095 ≤ℤ offset) × (offset ≤ℤ pos 4094)
    × (unsigned 32 offset % 2 ≡ 0)
IsInRange (Load kind rd rs1 imm) = (rd < 32) × (rs1 < 32) × (negsuc 2047 ≤ℤ imm) × (imm ≤ℤ pos 2047)
IsInRange (Store width rs1 rs2 imm) =
    (rs1 < 32) × (rs2 < 32) × (negsuc 2047 ≤ℤ imm) × (imm ≤ℤ pos 2047)
IsInRange (OpImm o rd rs1 imm) = (rd < 32) × (rs1 < 32) × (negsuc 2047 ≤ℤ imm) × (imm ≤ℤ pos 2047)
IsInRange (ShiftImm o rd rs1 amount) = (rd < 32) × (rs1 < 32) × (amount < 32)
IsInRange (Op o rd rs1 rs2) = (rd < 32) × (rs1 < 32) × (rs2 < 32)
IsInRange (Fence rd rs1 bits) = (rd < 32) × (rs1 < 32) × (bits < 2 ^ 12)
IsInRange Ecall = Unit {0}
IsInRange Ebreak = Unit {0}
IsInRange (Lr rd rs1 aq rl) = (rd < 32) × (rs1 < 32)
IsInRange (Sc rd rs1 rs2 aq rl) = (rd < 32) × (rs1 < 32) × (rs2 < 32)
IsInRange (Amo o rd rs1 rs2 aq rl) = (rd < 32) × (rs1 < 32) × (rs2 < 32)
IsInRange (Illegal word) = Unit {0}
