-- What a line of the text says.
use Rattle.std.specs.Prelude.{◌≡◌, ℕ, ◌^◌, ◌<◌, ◌≤◌, ◌/◌, ◌%◌, Bool, true, false, ◌==◌, ◌&&◌, ◌||◌, nat_le, if◌then◌else◌, List, [], ◌∷◌, ◌++◌, length, replicate, reverse, not, codes, All, ◌⊎◌}
use Rattle.std.specs.Fmt.{digit_glyph}
use Rattle.std.specs.List.{list_all, flat_map}
use Rattle.std.specs.Str.Parse.{digits_value}
use Rattle.rv32_text.specs.Listing.{word_digits}
use Rattle.rv32_lines.specs.Texts.{Target, Address, Name, Written, Plain, NegativeShift, Jump, Conditional, IsPlain, written_text}

-- what a line says, if it is one of the text's lines
pub data Statement : Type 0 where
  Nothing : Statement
  Segment : (flags start : ℕ) → Statement
  Label : (name : List ℕ) → Statement
  Bytes : (bytes : List ℕ) → Statement
  Word : (word : ℕ) → Statement
  Space : (count : ℕ) → Statement
  Zero : (count : ℕ) → Statement
  Entry : (name : List ℕ) → Statement
  Instruction : (w : Written) → Statement
  Unread : Statement

abbrev pub is_decimal_digit : ℕ → Bool
is_decimal_digit c = nat_le 48 c && nat_le c 57

-- 0 to 9 and a to f
abbrev pub is_hexadecimal_digit : ℕ → Bool
is_hexadecimal_digit c = is_decimal_digit c || (nat_le 97 c && nat_le c 102)

abbrev pub is_letter : ℕ → Bool
is_letter c = nat_le 97 c && nat_le c 122

-- a lower-case letter, a digit or '_'
abbrev pub is_name_byte : ℕ → Bool
is_name_byte c = is_letter c || (is_decimal_digit c || c == 95)

-- 1 to 31 such bytes, a letter first
abbrev pub is_name : List ℕ → Bool
is_name [] = false
is_name (c ∷ cs) = is_letter c && (list_all is_name_byte cs && nat_le (length cs) 30)

-- 1 to 8 digits that pass, and the number that they make in a base
pub record IsNumber (base : ℕ) (is_digit : ℕ → Bool) (digits : List ℕ) (n : ℕ) : Type 0 where
  pub some : 0 < length digits
  pub few : length digits ≤ 8
  pub all : list_all is_digit digits ≡ true
  pub value : n ≡ digits_value base digits

-- what a segment may be: read alone, read and executed, or read and written
abbrev pub IsKind : List ℕ → ℕ → Type 0
IsKind kind flags =
    ((kind ≡ codes "r") × (flags ≡ 4)) ⊎ (((kind ≡ codes "rx") × (flags ≡ 5))
    ⊎ ((kind ≡ codes "rw") × (flags ≡ 6)))

pub record SaysSegment (line : List ℕ) (flags start : ℕ) : Type 0 where
  pub kind : List ℕ
  pub digits : List ℕ
  pub line_is : line ≡ codes ".segment " ++ (kind ++ (codes " 0x" ++ digits))
  pub flags_are : IsKind kind flags
  pub start_is : IsNumber 16 is_hexadecimal_digit digits start

-- a word, and a number in decimal
pub record SaysCount (word line : List ℕ) (count : ℕ) : Type 0 where
  pub digits : List ℕ
  pub line_is : line ≡ word ++ digits
  pub count_is : IsNumber 10 is_decimal_digit digits count

-- a byte in two digits
abbrev pub byte_digits : ℕ → List ℕ
byte_digits byte = digit_glyph false (byte / 16) ∷ digit_glyph false (byte % 16) ∷ []

pub record SaysBytes (line bytes : List ℕ) : Type 0 where
  pub line_is : line ≡ codes ".bytes " ++ flat_map byte_digits bytes
  pub bytes_are : All (λ b. b < 256) bytes
  pub some : 0 < length bytes
  pub few : length bytes ≤ 64

pub record SaysWord (line : List ℕ) (word : ℕ) : Type 0 where
  pub line_is : line ≡ codes ".word 0x" ++ word_digits word
  pub low : word < 2 ^ 32

-- a name with what stands before it and after it
pub record SaysName (front name end line : List ℕ) : Type 0 where
  pub line_is : line ≡ front ++ (name ++ end)
  pub named : is_name name ≡ true

-- 8 lower-case hexadecimal digits or more, or a name
abbrev pub IsTarget : Target → Type 0
IsTarget (Address digits) = (8 ≤ length digits) × (list_all is_hexadecimal_digit digits ≡ true)
IsTarget (Name name) = is_name name ≡ true

abbrev pub IsWritten : Written → Type 0
IsWritten (Plain i) = IsPlain i
IsWritten (NegativeShift o rd rs1 below) = Unit {0}
IsWritten (Jump rd to) = IsTarget to
IsWritten (Conditional c rs1 rs2 to) = IsTarget to

pub record SaysInstruction (line : List ℕ) (w : Written) : Type 0 where
  pub line_is : line ≡ written_text w
  pub written : IsWritten w

-- an empty line and a line that begins with '#' say nothing
abbrev pub SaysNothing : List ℕ → Type 0
SaysNothing [] = Unit {0}
SaysNothing (c ∷ cs) = c ≡ 35

-- what a line says that has no spaces at its ends
abbrev pub Says : List ℕ → Statement → Type 0
Says line Nothing = SaysNothing line
Says line (Segment flags start) = SaysSegment line flags start
Says line (Label name) = SaysName [] name (codes ":") line
Says line (Bytes bytes) = SaysBytes line bytes
Says line (Word word) = SaysWord line word
Says line (Space count) = SaysCount (codes ".space ") line count
Says line (Zero count) = SaysCount (codes ".zero ") line count
Says line (Entry name) = SaysName (codes ".entry ") name [] line
Says line (Instruction w) = SaysInstruction line w
Says line Unread = ⊥

-- a text doesn't begin with a space
abbrev pub begins_bare : List ℕ → Bool
begins_bare [] = true
begins_bare (c ∷ cs) = not (c == 32)

-- a line without the spaces at its ends
pub record IsBare (line middle : List ℕ) : Type 0 where
  pub before : ℕ
  pub behind : ℕ
  pub line_is : line ≡ replicate before 32 ++ (middle ++ replicate behind 32)
  pub begins : begins_bare middle ≡ true
  pub ends : begins_bare (reverse middle) ≡ true

-- what a line says without the spaces at its ends
pub record SaysWithin (line : List ℕ) (s : Statement) : Type 0 where
  pub middle : List ℕ
  pub bare : IsBare line middle
  pub says : Says middle s

-- the line says the statement, or says none
abbrev pub IsRead : List ℕ → Statement → Type 0
IsRead line Unread = (s : Statement) → SaysWithin line s → ⊥
IsRead line s = SaysWithin line s

-- each line is read so
abbrev pub AreRead : List (List ℕ) → List Statement → Type 0
AreRead [] statements = statements ≡ []
AreRead (line ∷ lines) [] = ⊥
AreRead (line ∷ lines) (s ∷ ss) = IsRead line s × AreRead lines ss

-- a byte stands before the first line
abbrev pub onto_line : ℕ → List (List ℕ) → List (List ℕ)
onto_line c [] = (c ∷ []) ∷ []
onto_line c (line ∷ lines) = (c ∷ line) ∷ lines

-- lines end with a line feed; the last may lack it
abbrev pub lines_of : List ℕ → List (List ℕ)
lines_of [] = []
lines_of (c ∷ cs) = if c == 10 then [] ∷ lines_of cs else onto_line c (lines_of cs)

abbrev pub IsReading : List ℕ → List Statement → Type 0
IsReading text statements = AreRead (lines_of text) statements
