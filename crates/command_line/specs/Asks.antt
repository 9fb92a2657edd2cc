-- What it is that the words of the command line ask for a command.
use Rattle.std.specs.Prelude.{◌≡◌, ◌≢◌, ℕ, ◌<◌, ◌≤◌, ◌^◌, nat_le, Bool, true, false, if◌then◌else◌, List, [], ◌∷◌, ◌++◌, length, map, All, Contains, None, Some, bytes_eq, codes, slice_index}
use Rattle.std.specs.List.{flat_map}
use Rattle.std.specs.Str.Parse.{IsNumeral, digits_value}
use Rattle.command_line.specs.Tasks.{Task, Saying, Number, MaybeNumber, MaybeAddress, Read, Write, Flag, Row, task_row, IsFitTask}
use Rattle.command_line.specs.Commands.{Command, row_of, IsFit}

-- an argument after the command's word: an operand, which is a word of its own; or an option, by
-- its word, with its value, as two words or as one; or a flag
pub data Argument : Type 0 where
  Operand : (word : List ℕ) → Argument
  Apart : (option value : List ℕ) → Argument
  Joined : (option value : List ℕ) → Argument
  Bare : (option : List ℕ) → Argument

-- the words of an argument; 61 is the equals sign
abbrev pub words_of : Argument → List (List ℕ)
words_of (Operand word) = word ∷ []
words_of (Apart option value) = option ∷ value ∷ []
words_of (Joined option value) = (option ++ (61 ∷ value)) ∷ []
words_of (Bare option) = option ∷ []

-- a word that isn't empty and doesn't begin with a dash, which is 45
pub record IsPlain (word : List ℕ) : Type 0 where
  pub some : 0 < length word
  pub no_dash : slice_index word 0 ≢ 45

abbrev pub takes_value : Saying → Bool
takes_value (Flag there) = false
takes_value saying = true

-- the options that a row has, and whether each takes a value
abbrev pub valued : List (List ℕ × Saying) → List (List ℕ × Bool)
valued options = map (λ option. (option.0, takes_value option.1)) options

-- a command with these options may have the argument
abbrev pub IsArgument : List (List ℕ × Bool) → Argument → Type 0
IsArgument options (Operand word) = IsPlain word
IsArgument options (Apart option value) = Contains options (option, true) × IsPlain value
IsArgument options (Joined option value) = Contains options (option, true)
IsArgument options (Bare option) = Contains options (option, false)

abbrev pub operand_in : Argument → List (List ℕ)
operand_in (Operand word) = word ∷ []
operand_in argument = []

-- the values that an option has, of which a flag's is empty
abbrev pub value_in : List ℕ → Argument → List (List ℕ)
value_in option (Operand word) = []
value_in option (Apart other value) = if bytes_eq other option then value ∷ [] else []
value_in option (Joined other value) = if bytes_eq other option then value ∷ [] else []
value_in option (Bare other) = if bytes_eq other option then [] ∷ [] else []

-- the most decimal digits in which a number is written that is at most so high
abbrev pub most_digits : (high : ℕ) → ℕ
most_digits high = if nat_le high (2 ^ 32) then 10 else 17

-- a word is a number from low to high, in 1 to 10 decimal digits, or in 1 to 17 where it may be
-- greater than 2^32
pub record IsNumber (low high : ℕ) (word : List ℕ) (number : ℕ) : Type 0 where
  pub digits : IsNumeral 10 word
  pub few : length word ≤ most_digits high
  pub value : digits_value 10 word ≡ number
  pub above : low ≤ number
  pub below : number ≤ high

-- a word is an address, in 1 to 8 hexadecimal digits of either case after 0x
pub record IsAddress (word : List ℕ) (address : ℕ) : Type 0 where
  pub digits : List ℕ
  pub word_is : word ≡ codes "0x" ++ digits
  pub numeral : IsNumeral 16 digits
  pub few : length digits ≤ 8
  pub value : digits_value 16 digits ≡ address

-- what is said by the values of an option, which is there at most once
abbrev pub IsSaid : Saying → List (List ℕ) → Type 0
IsSaid (Number low high default number) [] = number ≡ default
IsSaid (Number low high default number) (word ∷ []) = IsNumber low high word number
IsSaid (MaybeNumber low high number) [] = number ≡ None
IsSaid (MaybeNumber low high number) (word ∷ []) =
    (n : ℕ) × IsNumber low high word n × (number ≡ Some n)
IsSaid (MaybeAddress address) [] = address ≡ None
IsSaid (MaybeAddress address) (word ∷ []) = (a : ℕ) × IsAddress word a × (address ≡ Some a)
IsSaid (Read name) [] = name ≡ None
IsSaid (Read name) (word ∷ []) = (0 < length word) × (name ≡ Some word)
IsSaid (Write name) [] = name ≡ None
IsSaid (Write name) (word ∷ []) = (0 < length word) × (name ≡ Some word)
IsSaid (Flag there) [] = there ≡ false
IsSaid (Flag there) (word ∷ []) = there ≡ true
IsSaid saying values = ⊥

-- a word in each place says this
abbrev pub ArePlaced : List Saying → List (List ℕ) → Type 0
ArePlaced [] [] = Unit {0}
ArePlaced (place ∷ places) (word ∷ words) = IsSaid place (word ∷ []) × ArePlaced places words
ArePlaced places words = ⊥

-- the words are the row's, and arguments after it, in any order, that say what the row says
pub record AreOfRow (row : Row) (words : List (List ℕ)) : Type 0 where
  pub arguments : List Argument
  pub words_are : words ≡ row.word ∷ flat_map words_of arguments
  pub are_arguments : All (IsArgument (valued row.options)) arguments
  pub places : ArePlaced row.places (flat_map operand_in arguments)
  pub options : All (λ (option : List ℕ × Saying).
      IsSaid option.1 (flat_map (value_in option.0) arguments)) row.options

-- the words are of the command's row, and the command lacks nothing that it may not go without, and
-- has nothing that it may not have
pub record AsksToRun (words : List (List ℕ)) (task : Task) : Type 0 where
  pub of_row : AreOfRow (task_row task) words
  pub fits : IsFitTask task

-- so for each command
pub record Asks (words : List (List ℕ)) (command : Command) : Type 0 where
  pub of_row : AreOfRow (row_of command) words
  pub fits : IsFit command
