-- The opcodes custom-0 and custom-1 have no row, so their words are free for other uses.
use Rattle.std.proofs.Common.{◌≡◌, ℕ, arith}
use Rattle.std.specs.Prelude.{None}
use Rattle.rv32_decode.specs.Fields.{field}
use Rattle.rv32_decode.specs.Rows.{instruction_of}
use Rattle.rv32_decode.proofs.Groups.{no_opcode}

pub custom_0-None : (w : ℕ) → field w 0 7 ≡ 0x0b → instruction_of w ≡ None
custom_0-None w e =
    no_opcode w (omega arith) (omega arith) (omega arith) (omega arith) (omega arith) (omega arith) (omega arith) (omega arith) (omega arith)
    (omega arith) (omega arith) (omega arith) (omega arith) (omega arith)

pub custom_1-None : (w : ℕ) → field w 0 7 ≡ 0x2b → instruction_of w ≡ None
custom_1-None w e =
    no_opcode w (omega arith) (omega arith) (omega arith) (omega arith) (omega arith) (omega arith) (omega arith) (omega arith) (omega arith)
    (omega arith) (omega arith) (omega arith) (omega arith) (omega arith)
