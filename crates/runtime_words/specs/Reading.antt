-- The words of rewritten code: native instructions, and runtime words in the opcodes custom-0 and
-- custom-1 (RISC-V Unprivileged ISA, "RV32/64G Instruction Set Listings": RISC-V base opcode map).
use Rattle.std.specs.Prelude.{ℕ, ◌+◌, ◌*◌, ◌==◌, ◌&&◌, nat_lt, if◌then◌else◌, Option, Some, None}
use Rattle.std.specs.Option.{option_map}
use Rattle.rv32_decode.specs.Fields.{field, imm_i}
use Rattle.rv32_decode.specs.Rows.{instruction_of}
use Rattle.rv32_decode.specs.declared.Width.{Width}
use Rattle.rv32_decode.specs.declared.Width.TheVariants.{Byte, Half, Word}
use Rattle.runtime_words.specs.declared.RtWord.{RtWord}
use Rattle.runtime_words.specs.declared.RtWord.TheVariants.{Native, MissR, MissW, Poll, Call, Xjalr, Batch, Prepare, Far, TrapFetch, TrapOff, TrapIllegal, TrapEbreak}

-- the width of which this is the logarithm
abbrev pub width_of_log : ℕ → Option Width
width_of_log n =
    if n == 0 then Some Byte
    else (if n == 1 then Some Half else (if n == 2 then Some Word else None))

-- miss.r and miss.w have format I, with the logarithm of the width in the place of rd
abbrev pub miss_r_of : ℕ → Option RtWord
miss_r_of word =
    option_map (λ w. MissR w (field word 15 5) (imm_i word)) (width_of_log (field word 7 5))

abbrev pub miss_w_of : ℕ → Option RtWord
miss_w_of word =
    option_map (λ w. MissW w (field word 15 5) (imm_i word)) (width_of_log (field word 7 5))

-- sc.prepare has format I, with rd and the immediate zero
abbrev pub prepare_of : ℕ → Option RtWord
prepare_of word =
    if (field word 7 5 == 0) && (field word 20 12 == 0) then Some (Prepare (field word 15 5))
    else None

-- batch has format R, with 1 in the place of rd where the run stores, else 0, and funct7 zero
abbrev pub batch_of : ℕ → Option RtWord
batch_of word =
    if (nat_lt (field word 7 5) 2) && (field word 25 7 == 0)
    then Some (Batch (field word 7 5 == 1) (field word 15 5) (field word 20 5)) else None

-- far has the number of the word to which it goes in bits 31 to 15, and its low five bits in the
-- place of rd
abbrev pub far_number : ℕ → ℕ
far_number word = 32 * field word 15 17 + field word 7 5

-- the runtime words of custom-0, by funct3: miss.r 0, miss.w 1, poll 2, call 3, xjalr 4, batch 5,
-- sc.prepare 6, far 7
abbrev pub custom_0 : ℕ → ℕ → Option RtWord
custom_0 word funct3 =
    if funct3 == 0 then miss_r_of word
    else (if funct3 == 1 then miss_w_of word
    else (if word == 0x200b then Some Poll
    else (if word == 0x300b then Some Call
    else (if funct3 == 4
    then Some (Xjalr (field word 7 5) (field word 15 5) (imm_i word))
    else (if funct3 == 5 then batch_of word
    else (if funct3 == 6 then prepare_of word
    else (if funct3 == 7 then Some (Far (far_number word)) else None)))))))

-- the runtime words of custom-1, whose other fields are zero
abbrev pub custom_1 : ℕ → Option RtWord
custom_1 word =
    if word == 0x2b then Some TrapFetch
    else (if word == 0x102b then Some TrapOff
    else (if word == 0x202b then Some TrapIllegal
    else (if word == 0x302b then Some TrapEbreak else None)))

-- what a word is in rewritten code; None where it is no word of it
unfoldable pub read_word : ℕ → Option RtWord
read_word word =
    if field word 0 7 == 0x0b then custom_0 word (field word 12 3)
    else (if field word 0 7 == 0x2b then custom_1 word
    else option_map Native (instruction_of word))
