-- What is read: numbers, names and operands at the head of a text, and statements.
use Rattle.std.specs.Prelude.{◌≡◌, ℕ, ℤ, pos, negsuc, suc, length, ◌-◌, ◌^◌, ◌<◌, ◌≤◌, Bool, true, false, not, ◌==◌, List, [], ◌∷◌, ◌++◌, min, codes, All}
use Rattle.std.specs.List.{flat_map}
use Rattle.std.specs.Str.Parse.{digits_value}
use Rattle.rv32_lines.specs.declared.numerals.Base.{Base}
use Rattle.rv32_lines.specs.declared.numerals.Base.TheVariants.{Decimal, Hexadecimal}
use Rattle.rv32_lines.specs.declared.mnemonics.Mnemonic.{Mnemonic}
use Rattle.rv32_lines.specs.declared.mnemonics.Mnemonic.TheVariants as mnemonic
use Rattle.rv32_text.specs.Listing.{branch_name, load_name, store_name, imm_name, shift_name, op_name, amo_name, order_suffix}
use Rattle.rv32_decode.specs.Words.{IsInRange}
use Rattle.rv32_decode.specs.declared.Instr.TheVariants.{Lui, Auipc, Jal, Jalr, Branch, Load, Store, OpImm, ShiftImm, Op, Fence, Ecall, Ebreak, Lr, Sc, Amo, Illegal}
use Rattle.rv32_lines.specs.declared.commands.WrittenInstruction.{WrittenInstruction}
use Rattle.rv32_lines.specs.declared.commands.WrittenInstruction.TheVariants as command
use Rattle.rv32_lines.specs.declared.statements.Statement.{Statement as ReadStatement}
use Rattle.rv32_lines.specs.declared.statements.Statement.TheVariants as said
use Rattle.rv32_lines.specs.declared.operands.Target.{Target as ReadTarget}
use Rattle.rv32_lines.specs.declared.operands.Target.TheVariants as read
use Rattle.rv32_lines.specs.Texts.{numeral, register, base, signed_numeral, indexed, upper_digits, Target, Address, Name, target_text, Written, Plain, NegativeShift, Jump, Conditional}
use Rattle.rv32_lines.specs.Statements.{IsTarget, IsWritten, byte_digits, Statement, Nothing, Segment, Label, Bytes, Word, Space, Zero, Entry, Instruction, Unread, is_decimal_digit, is_hexadecimal_digit}

abbrev pub radix : Base → ℕ
radix Decimal = 10
radix Hexadecimal = 16

abbrev pub is_digit : Base → ℕ → Bool
is_digit Decimal c = is_decimal_digit c
is_digit Hexadecimal c = is_hexadecimal_digit c

-- the number, or the highest of 32 bits where it is higher
abbrev pub capped : ℕ → ℕ
capped n = min n (2 ^ 32 - 1)

-- the text doesn't begin with a digit
abbrev pub EndsDigits : Base → List ℕ → Type 0
EndsDigits b [] = Unit {0}
EndsDigits b (c ∷ cs) = is_digit b c ≡ false

-- a number, and then what doesn't begin with a digit
pub record IsNumeralThen (b : Base) (text : List ℕ) (n : ℕ) (rest : List ℕ) : Type 0 where
  pub text_is : text ≡ numeral (radix b) n ++ rest
  pub ends : EndsDigits b rest

-- one digit, or more of which the first is no zero
abbrev pub has_no_zero : List ℕ → Bool
has_no_zero [] = false
has_no_zero (c ∷ []) = true
has_no_zero (c ∷ d ∷ ds) = not (c == 48)

-- the mnemonic of a kind of instruction
abbrev pub mnemonic_text : Mnemonic → List ℕ
mnemonic_text mnemonic.Lui = codes "lui"
mnemonic_text mnemonic.Auipc = codes "auipc"
mnemonic_text mnemonic.Jal = codes "jal"
mnemonic_text mnemonic.Jalr = codes "jalr"
mnemonic_text (mnemonic.Branch c) = branch_name c
mnemonic_text (mnemonic.Load kind) = load_name kind
mnemonic_text (mnemonic.Store w) = store_name w
mnemonic_text (mnemonic.OpImm o) = imm_name o
mnemonic_text (mnemonic.ShiftImm o) = shift_name o
mnemonic_text (mnemonic.Op o) = op_name o
mnemonic_text mnemonic.Fence = codes "fence"
mnemonic_text mnemonic.Ecall = codes "ecall"
mnemonic_text mnemonic.Ebreak = codes "ebreak"
mnemonic_text (mnemonic.Lr aq rl) = codes "lr.w" ++ order_suffix aq rl
mnemonic_text (mnemonic.Sc aq rl) = codes "sc.w" ++ order_suffix aq rl
mnemonic_text (mnemonic.Amo o aq rl) = amo_name o ++ order_suffix aq rl
mnemonic_text mnemonic.Illegal = codes "illegal"

-- a mnemonic of one instruction
abbrev pub IsSingle : Mnemonic → Type 0
IsSingle mnemonic.Lui = Unit {0}
IsSingle mnemonic.Auipc = Unit {0}
IsSingle mnemonic.Jal = Unit {0}
IsSingle mnemonic.Jalr = Unit {0}
IsSingle mnemonic.Fence = Unit {0}
IsSingle mnemonic.Ecall = Unit {0}
IsSingle mnemonic.Ebreak = Unit {0}
IsSingle mnemonic.Illegal = Unit {0}
IsSingle m = ⊥

-- a mnemonic of several of a kind
abbrev pub IsOperation : Mnemonic → Type 0
IsOperation mnemonic.Lui = ⊥
IsOperation mnemonic.Auipc = ⊥
IsOperation mnemonic.Jal = ⊥
IsOperation mnemonic.Jalr = ⊥
IsOperation mnemonic.Fence = ⊥
IsOperation mnemonic.Ecall = ⊥
IsOperation mnemonic.Ebreak = ⊥
IsOperation mnemonic.Illegal = ⊥
IsOperation m = Unit {0}

-- a mnemonic with acquire and release bits
abbrev pub IsAtomic : Mnemonic → Type 0
IsAtomic (mnemonic.Lr aq rl) = Unit {0}
IsAtomic (mnemonic.Sc aq rl) = Unit {0}
IsAtomic (mnemonic.Amo o aq rl) = Unit {0}
IsAtomic m = ⊥

-- the same of a signed number
abbrev pub clipped : ℤ → ℤ
clipped (pos n) = pos (capped n)
clipped (negsuc n) = negsuc (capped (suc n) - 1)

-- a register, and then what doesn't begin with a digit
pub record IsRegisterThen (text : List ℕ) (r : ℕ) (rest : List ℕ) : Type 0 where
  pub text_is : text ≡ register r ++ rest
  pub ends : EndsDigits Decimal rest

-- a signed number, and then what doesn't begin with a digit
pub record IsSignedThen (text : List ℕ) (z : ℤ) (rest : List ℕ) : Type 0 where
  pub text_is : text ≡ signed_numeral z ++ rest
  pub ends : EndsDigits Decimal rest

-- a target, read
abbrev pub IsReadTarget : ReadTarget → Target → Type 0
IsReadTarget (read.Address address) (Address digits) =
    (length digits ≡ 8) × (address ≡ digits_value 16 digits)
IsReadTarget (read.Address address) (Name name) = ⊥
IsReadTarget read.Long (Address digits) = 8 < length digits
IsReadTarget read.Long (Name name) = ⊥
IsReadTarget (read.Name name) (Address digits) = ⊥
IsReadTarget (read.Name name) (Name other) = name.now ≡ other

-- the text of a target
pub record IsTargetText (text : List ℕ) (to : Target) : Type 0 where
  pub text_is : text ≡ target_text to
  pub written : IsTarget to

-- a number of an instruction doesn't fit it, whatever its target
abbrev pub IsTooLarge : Written → Type 0
IsTooLarge (Plain i) = IsInRange i → ⊥
IsTooLarge (NegativeShift o rd rs1 below) = Unit {0}
IsTooLarge (Jump rd to) = IsInRange (Jal rd (pos 0)) → ⊥
IsTooLarge (Conditional c rs1 rs2 to) = IsInRange (Branch c rs1 rs2 (pos 0)) → ⊥

-- an instruction, read
abbrev pub IsReadCommand : WrittenInstruction → Written → Type 0
IsReadCommand (command.Plain i) (Plain j) = i ≡ j
IsReadCommand (command.Jump rd to) (Jump r other) = (rd ≡ r) × IsReadTarget to other × (r < 32)
IsReadCommand (command.Conditional c rs1 rs2 to) (Conditional d r q other) =
    (c ≡ d) × (rs1 ≡ r) × (rs2 ≡ q) × IsReadTarget to other × (r < 32) × (q < 32)
IsReadCommand command.OutOfRange w = IsTooLarge w
IsReadCommand read w = ⊥

-- the mnemonic of an instruction
abbrev pub mnemonic_in : Written → Mnemonic
mnemonic_in (Plain (Lui rd n)) = mnemonic.Lui
mnemonic_in (Plain (Auipc rd n)) = mnemonic.Auipc
mnemonic_in (Plain (Jalr rd r z)) = mnemonic.Jalr
mnemonic_in (Plain (Load k rd r z)) = mnemonic.Load k
mnemonic_in (Plain (Store k r rd z)) = mnemonic.Store k
mnemonic_in (Plain (OpImm k rd r z)) = mnemonic.OpImm k
mnemonic_in (Plain (ShiftImm k rd r n)) = mnemonic.ShiftImm k
mnemonic_in (Plain (Op k rd r n)) = mnemonic.Op k
mnemonic_in (Plain (Lr rd r aq rl)) = mnemonic.Lr aq rl
mnemonic_in (Plain (Sc rd r n aq rl)) = mnemonic.Sc aq rl
mnemonic_in (Plain (Amo k rd r n aq rl)) = mnemonic.Amo k aq rl
mnemonic_in (NegativeShift k rd r below) = mnemonic.ShiftImm k
mnemonic_in (Jump rd to) = mnemonic.Jal
mnemonic_in (Conditional k r n to) = mnemonic.Branch k
mnemonic_in (Plain (Jal rd z)) = mnemonic.Jal
mnemonic_in (Plain (Branch k r n z)) = mnemonic.Branch k
mnemonic_in (Plain (Fence rd r bits)) = mnemonic.Fence
mnemonic_in (Plain Ecall) = mnemonic.Ecall
mnemonic_in (Plain Ebreak) = mnemonic.Ebreak
mnemonic_in (Plain (Illegal word)) = mnemonic.Illegal

-- its operands
abbrev pub operands_in : Written → List ℕ
operands_in (Plain (Lui rd n)) = register rd ++ (codes ", " ++ upper_digits n)
operands_in (Plain (Auipc rd n)) = register rd ++ (codes ", " ++ upper_digits n)
operands_in (Plain (Jalr rd r z)) = register rd ++ (codes ", " ++ indexed z r)
operands_in (Plain (Load k rd r z)) = register rd ++ (codes ", " ++ indexed z r)
operands_in (Plain (Store k r rd z)) = register rd ++ (codes ", " ++ indexed z r)
operands_in (Plain (OpImm k rd r z)) =
    register rd ++ (codes ", " ++ register r ++ (codes ", " ++ signed_numeral z))
operands_in (Plain (ShiftImm k rd r n)) =
    register rd ++ (codes ", " ++ register r ++ (codes ", " ++ numeral 10 n))
operands_in (Plain (Op k rd r n)) =
    register rd ++ (codes ", " ++ register r ++ (codes ", " ++ register n))
operands_in (Plain (Lr rd r aq rl)) = register rd ++ (codes ", " ++ base r)
operands_in (Plain (Sc rd r n aq rl)) =
    register rd ++ (codes ", " ++ register n ++ (codes ", " ++ base r))
operands_in (Plain (Amo k rd r n aq rl)) =
    register rd ++ (codes ", " ++ register n ++ (codes ", " ++ base r))
operands_in (NegativeShift k rd r below) =
    register rd ++ (codes ", " ++ register r ++ (codes ", " ++ signed_numeral (negsuc below)))
operands_in (Jump rd to) = register rd ++ (codes ", " ++ target_text to)
operands_in (Conditional k r n to) =
    register r ++ (codes ", " ++ register n ++ (codes ", " ++ target_text to))
operands_in (Plain i) = []

-- it has operands
abbrev pub HasOperands : Written → Type 0
HasOperands (Plain (Fence rd r bits)) = ⊥
HasOperands (Plain Ecall) = ⊥
HasOperands (Plain Ebreak) = ⊥
HasOperands (Plain (Illegal word)) = ⊥
HasOperands w = Unit {0}

-- an instruction of a mnemonic, with operands or without, read
pub record IsCommandWith (m : Mnemonic) (text : List ℕ) (c : WrittenInstruction) (w : Written) :
    Type 0 where
  pub written : IsWritten w
  pub some : HasOperands w
  pub mnemonic_is : mnemonic_in w ≡ m
  pub text_is : text ≡ operands_in w
  pub read : IsReadCommand c w

pub record IsCommandWithout (m : Mnemonic) (c : WrittenInstruction) (w : Written) : Type 0 where
  pub written : IsWritten w
  pub none : HasOperands w → ⊥
  pub mnemonic_is : mnemonic_in w ≡ m
  pub read : IsReadCommand c w

abbrev pub is_mark : ℕ → Bool
is_mark c = not (c == 32)

-- nothing, or a space first
abbrev pub BeginsWithSpace : List ℕ → Type 0
BeginsWithSpace [] = Unit {0}
BeginsWithSpace (c ∷ cs) = c ≡ 32

-- what a line says, read
abbrev pub IsReadStatement : ReadStatement → Statement → Type 0
IsReadStatement said.Nothing Nothing = Unit {0}
IsReadStatement (said.Segment flags start) (Segment f a) = (flags ≡ f) × (start ≡ a)
IsReadStatement (said.Label name) (Label n) = name.now ≡ n
IsReadStatement (said.Bytes digits) (Bytes bytes) =
    (digits.now ≡ flat_map byte_digits bytes) × All (λ b. b < 256) bytes
IsReadStatement (said.Word word) (Word w) = word ≡ w
IsReadStatement (said.Space count) (Space n) = count ≡ n
IsReadStatement (said.Zero count) (Zero n) = count ≡ n
IsReadStatement (said.Entry name) (Entry n) = name.now ≡ n
IsReadStatement (said.Instruction c) (Instruction w) = IsWritten w × IsReadCommand c w
IsReadStatement said.Unread Unread = Unit {0}
IsReadStatement read s = ⊥

-- each of a text's statements is read
abbrev pub AreReadStatements : List ReadStatement → List Statement → Type 0
AreReadStatements [] statements = statements ≡ []
AreReadStatements (read ∷ more) [] = ⊥
AreReadStatements (read ∷ more) (s ∷ ss) = IsReadStatement read s × AreReadStatements more ss

-- a line that begins with a point
abbrev pub IsDirective : Statement → Type 0
IsDirective (Segment flags start) = Unit {0}
IsDirective (Bytes bytes) = Unit {0}
IsDirective (Word word) = Unit {0}
IsDirective (Space count) = Unit {0}
IsDirective (Zero count) = Unit {0}
IsDirective (Entry name) = Unit {0}
IsDirective s = ⊥

abbrev pub is_in_line : ℕ → Bool
is_in_line c = not (c == 10)

-- nothing, or a line feed first
abbrev pub BeginsWithFeed : List ℕ → Type 0
BeginsWithFeed [] = Unit {0}
BeginsWithFeed (c ∷ cs) = c ≡ 10

-- the digits of 1 to 64 bytes
pub record SaysDigits (digits bytes : List ℕ) : Type 0 where
  pub digits_are : digits ≡ flat_map byte_digits bytes
  pub bytes_are : All (λ b. b < 256) bytes
  pub some : 0 < length bytes
  pub few : length bytes ≤ 64
