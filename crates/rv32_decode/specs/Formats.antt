-- The words of the six formats (RISC-V Unprivileged ISA, "Base Instruction Formats" and "Immediate
-- Encoding Variants").
use Rattle.std.specs.Prelude.{ℕ, ◌+◌, ◌*◌, ◌^◌}
use Rattle.rv32_decode.specs.Fields.{field}

abbrev pub r_word : ℕ → ℕ → ℕ → ℕ → ℕ → ℕ → ℕ
r_word funct7 rs2 rs1 funct3 rd opcode =
    funct7 * 2 ^ 25 + rs2 * 2 ^ 20 + rs1 * 2 ^ 15 + funct3 * 2 ^ 12 + rd * 2 ^ 7 + opcode

abbrev pub i_word : ℕ → ℕ → ℕ → ℕ → ℕ → ℕ
i_word imm rs1 funct3 rd opcode =
    imm * 2 ^ 20 + rs1 * 2 ^ 15 + funct3 * 2 ^ 12 + rd * 2 ^ 7 + opcode

-- bits 11 to 5 of the immediate, and 4 to 0
abbrev pub s_word : ℕ → ℕ → ℕ → ℕ → ℕ → ℕ
s_word imm rs2 rs1 funct3 opcode = r_word (field imm 5 7) rs2 rs1 funct3 (field imm 0 5) opcode

-- bits 12 and 10 to 5 of the immediate, then 4 to 1 and 11
abbrev pub b_word : ℕ → ℕ → ℕ → ℕ → ℕ → ℕ
b_word imm rs2 rs1 funct3 opcode =
    r_word (field imm 12 1 * 2 ^ 6 + field imm 5 6) rs2 rs1 funct3
    (field imm 1 4 * 2 + field imm 11 1) opcode

abbrev pub u_word : ℕ → ℕ → ℕ → ℕ
u_word imm rd opcode = imm * 2 ^ 12 + rd * 2 ^ 7 + opcode

-- bits 20, 10 to 1, 11 and 19 to 12 of the immediate
abbrev pub j_word : ℕ → ℕ → ℕ → ℕ
j_word imm rd opcode =
    u_word (field imm 20 1 * 2 ^ 19 + field imm 1 10 * 2 ^ 9 + field imm 11 1 * 2 ^ 8
    + field imm 12 8) rd opcode
