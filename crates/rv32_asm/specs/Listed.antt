-- The lines of a listing as lines of a text.
use Rattle.std.specs.Prelude.{◌≡◌, ℕ, List, Option, Some}
use Rattle.rv32_decode.specs.Rows.{instruction_of}
use Rattle.rv32_decode.specs.declared.Instr.{Instr}
use Rattle.rv32_decode.specs.declared.Instr.TheVariants.{Fence, Illegal}
use Rattle.rv32_lines.specs.Texts.{Written}
use Rattle.rv32_lines.specs.Statements.{Statement, Instruction, Says}
use Rattle.rv32_asm.specs.Places.{here, place_behind}
use Rattle.rv32_asm.specs.Assembling.{IsWordOf}

-- the word that the text of a decoded word gives: the word itself, but one for all words of FENCE
-- and one for all illegal words, which have one text each
abbrev pub given_by : ℕ → Option Instr → ℕ
given_by word (Some (Fence rd rs1 bits)) = 0x0ff0000f
given_by word (Some (Illegal w)) = 0
given_by word i = word

abbrev pub given_word : ℕ → ℕ
given_word word = given_by word (instruction_of word)

-- a text says an instruction that has the word wherever its line stands at the address
pub record IsListed (address : ℕ) (text : List ℕ) (word : ℕ) : Type 0 where
  pub written : Written
  pub says : Says text (Instruction written)
  pub words : (all before : List Statement) → here (place_behind before) ≡ Some address
      → IsWordOf all before written word
