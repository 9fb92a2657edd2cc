-- The executable of a text.
use Rattle.std.specs.Prelude.{◌≡◌, ℕ, ◌+◌, ◌^◌, ◌<◌, List, [], ◌∷◌, ◌++◌, length, replicate, Option, None, Some}
use Rattle.std.specs.Int.{bytes_low_first}
use Rattle.rv32_decode.specs.declared.Instr.TheVariants.{Fence, Illegal}
use Rattle.rv32_text.specs.Listing.{word_digits, text_of_word}
use Rattle.elf32_read.specs.Elf.{Elf, Segment as AssembledSegment}
use Rattle.rv32_lines.specs.Texts.{Target, Address, Name, Written, Plain, NegativeShift, Jump, Conditional, plain_text, written_text}
use Rattle.rv32_lines.specs.Statements.{Statement, Segment, Bytes, Word, Space, Zero, Entry, Instruction, IsReading}
use Rattle.rv32_asm.specs.Places.{place_behind, here, IsNamed}
use Rattle.rv32_asm.specs.Rules.{AreSound, IsEmpty}

-- a target with its name replaced by the name's address, in eight digits
abbrev pub IsResolved : List Statement → Target → Target → Type 0
IsResolved all (Address digits) to = to ≡ Address digits
IsResolved all (Name name) to =
    (address : ℕ) × IsNamed all name address × (to ≡ Address (word_digits address))

-- the word at an address has the text of the instruction, with a name replaced; FENCE and the
-- illegal word, whose texts don't tell their words, have one each, and a shift by a number below
-- zero has none
abbrev pub HasText : List Statement → ℕ → Written → ℕ → Type 0
HasText all address (Plain (Fence rd rs1 bits)) word = word ≡ 0x0ff0000f
HasText all address (Plain (Illegal w)) word = word ≡ 0
HasText all address (Plain i) word = text_of_word address word ≡ plain_text i
HasText all address (NegativeShift o rd rs1 below) word = ⊥
HasText all address (Jump rd to) word =
    (given : Target) × IsResolved all to given
    × (text_of_word address word ≡ written_text (Jump rd given))
HasText all address (Conditional c rs1 rs2 to) word =
    (given : Target) × IsResolved all to given
    × (text_of_word address word ≡ written_text (Conditional c rs1 rs2 given))

-- the word of an instruction after other statements
pub record IsWordOf (all before : List Statement) (w : Written) (word : ℕ) : Type 0 where
  pub address : ℕ
  pub stands : here (place_behind before) ≡ Some address
  pub low : word < 2 ^ 32
  pub text : HasText all address w word

-- the bytes that a statement appends
abbrev pub AreBytesOf : (all before : List Statement) → Statement → List ℕ → Type 0
AreBytesOf all before (Bytes bytes) appended = appended ≡ bytes
AreBytesOf all before (Word word) appended = appended ≡ bytes_low_first 0 4 word
AreBytesOf all before (Space count) appended = appended ≡ replicate count 0
AreBytesOf all before (Instruction w) appended =
    (word : ℕ) × IsWordOf all before w word × (appended ≡ bytes_low_first 0 4 word)
AreBytesOf all before s appended = appended ≡ []

-- the bytes of each of the statements that are left
abbrev pub AreBytesBehind : (all before left : List Statement) → List (List ℕ) → Type 0
AreBytesBehind all before [] appended = appended ≡ []
AreBytesBehind all before (s ∷ left) [] = ⊥
AreBytesBehind all before (s ∷ left) (bytes ∷ more) =
    AreBytesOf all before s bytes × AreBytesBehind all (before ++ s ∷ []) left more

-- what lines make: bytes and zeros up to the first segment, and the segments from there on
pub record Pieces : Type 0 where
  pub bytes : List ℕ
  pub zeros : ℕ
  pub segments : List AssembledSegment

-- lines with a line more before them
abbrev pub with_line : Statement → List ℕ → Pieces → Pieces
with_line (Segment flags start) bytes p = record {
  bytes = [];
  zeros = 0;
  segments =
      record { flags = flags; vaddr = start; memsz = length p.bytes + p.zeros; bytes = p.bytes }
      ∷ p.segments;
}
with_line (Zero count) bytes p =
    record { bytes = p.bytes; zeros = count + p.zeros; segments = p.segments }
with_line s bytes p = record { bytes = bytes ++ p.bytes; zeros = p.zeros; segments = p.segments }

abbrev pub pieces_of : List Statement → List (List ℕ) → Pieces
pieces_of [] appended = record { bytes = []; zeros = 0; segments = [] }
pieces_of (s ∷ ss) [] = record { bytes = []; zeros = 0; segments = [] }
pieces_of (s ∷ ss) (bytes ∷ more) = with_line s bytes (pieces_of ss more)

-- the name of the first entry line
abbrev pub entry_name : List Statement → Option (List ℕ)
entry_name [] = None
entry_name (Entry name ∷ ss) = Some name
entry_name (s ∷ ss) = entry_name ss

-- the address of the name, or that of the first segment where there is no name
abbrev pub IsEntry : List Statement → List AssembledSegment → Option (List ℕ) → ℕ → Type 0
IsEntry all segments (Some name) entry = IsNamed all name entry
IsEntry all [] None entry = ⊥
IsEntry all (first ∷ segments) None entry = entry ≡ first.vaddr

-- the text's executable
pub record IsAssembled (text : List ℕ) (elf : Elf) : Type 0 where
  pub statements : List Statement
  pub reading : IsReading text statements
  pub sound : AreSound statements
  pub some : IsEmpty statements → ⊥
  pub appended : List (List ℕ)
  pub appended_are : AreBytesBehind statements [] statements appended
  pub segments_are : elf.segments ≡ (pieces_of statements appended).segments
  pub entry_is : IsEntry statements elf.segments (entry_name statements) elf.entry
  pub flags_are : elf.flags ≡ 0
  pub no_sections : elf.sections ≡ []
