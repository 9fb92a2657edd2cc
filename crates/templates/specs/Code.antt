-- The code of a program as a list of its code words.
use Rattle.std.specs.Prelude.{◌≡◌, ℕ, ◌+◌, ◌%◌, ◌^◌, ◌<◌, ◌≤◌, ◌==◌, if◌then◌else◌, List, [], ◌∷◌, Option, Some, None}
use Rattle.rv32_decode.specs.declared.Instr.{Instr}
use Rattle.rv32_program.specs.Program.{Program}
use Rattle.templates.specs.declared.code.CodeWord.{CodeWord}

abbrev pub code_word : ℕ → Instr → CodeWord
code_word address instruction = record { address = address; instruction = instruction }

-- the instruction at an address
abbrev pub code_of : List CodeWord → ℕ → Option Instr
code_of [] a = None
code_of (w ∷ ws) a = if w.address == a then Some w.instruction else code_of ws a

-- the words are the code words of the program
abbrev pub HasCode : Program → List CodeWord → Type 0
HasCode program words = program.code ≡ code_of words

-- the words stand at ascending multiples of four, from this address on
abbrev pub Ascends : ℕ → List CodeWord → Type 0
Ascends low [] = Unit {0}
Ascends low (w ∷ ws) =
    (low ≤ w.address) × (w.address % 4 ≡ 0) × (w.address + 4 < 2 ^ 32) × Ascends (w.address + 4) ws

-- the address after the last word
abbrev pub end_from : ℕ → List CodeWord → ℕ
end_from low [] = low
end_from low (w ∷ ws) = end_from (w.address + 4) ws

abbrev pub end_of : List CodeWord → ℕ
end_of words = end_from 0 words
