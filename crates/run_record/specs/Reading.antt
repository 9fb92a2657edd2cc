-- Helps the code alone: the lines of a text, one after another.
use Rattle.std.specs.Prelude.{◌≡◌, ℕ, ◌+◌, ◌^◌, ◌<◌, List, [], ◌∷◌, ◌++◌, length}
use Rattle.std.specs.Fmt.{decimal}
use Rattle.rv32_text.specs.Listing.{word_digits}
use Rattle.run_record.specs.declared.refused.RecordRule.TheVariants.{Syntax}
use Rattle.run_record.specs.declared.refused.RecordRefused.{RecordRefused}
use Rattle.run_record.specs.declared.refused.RecordRefused.TheVariants.{Broken, OutOfMemory}
use Rattle.run_record.specs.Rules.{Awaits, IsFirstBroken, text_lines}

-- what is left of a text, and the number of its first line
pub record Left : Type 0 where
  pub bytes : List ℕ
  pub number : ℕ

-- the line, of this number, is the first that was left
pub record IsNext (old : Left) (line : List ℕ) (number : ℕ) (new : Left) : Type 0 where
  pub bytes_are : old.bytes ≡ line ++ new.bytes
  pub lines_are : text_lines old.bytes ≡ line ∷ text_lines new.bytes
  pub number_is : number ≡ old.number
  pub next_is : new.number ≡ old.number + 1
  pub some : 0 < length line

-- the refusal is of the first line left that breaks a rule
abbrev pub IsFault : Awaits → Left → RecordRefused → Type 0
IsFault awaited left (Broken rule number) =
    IsFirstBroken awaited left.number (text_lines left.bytes) rule number
IsFault awaited left OutOfMemory = Unit {0}

-- no line is left, which the refusal says
pub record IsLack (left : Left) (e : RecordRefused) : Type 0 where
  pub none : left.bytes ≡ []
  pub refusal : e ≡ Broken Syntax left.number

-- what is at fault in what is left later is at fault in what was left before
abbrev pub FaultsPass : Awaits → Left → Awaits → Left → Type 0
FaultsPass before old behind new = (e : RecordRefused) → IsFault behind new e → IsFault before old e

-- lines without a fault were read, and the last is awaited after them
pub record IsRead (before : Awaits) (old : Left) (lines : List ℕ) (behind : Awaits) (new : Left)
    : Type 0 where
  pub bytes_are : old.bytes ≡ lines ++ new.bytes
  pub faults : FaultsPass before old behind new

-- a word, a number below 2^63, and what stands from a space on
pub record IsNumberThen (text word : List ℕ) (number : ℕ) (rest : List ℕ) : Type 0 where
  pub behind : List ℕ
  pub text_is : text ≡ word ++ (decimal number ++ rest)
  pub rest_is : rest ≡ 32 ∷ behind
  pub low : number < 2 ^ 63

-- a word, eight digits of an address, and the rest
pub record IsPlaceThen (text word : List ℕ) (address : ℕ) (rest : List ℕ) : Type 0 where
  pub text_is : text ≡ word ++ (word_digits address ++ rest)
  pub low : address < 2 ^ 32
