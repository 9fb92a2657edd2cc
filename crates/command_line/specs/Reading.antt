-- Helps the code alone: what `clap` is told of a command's arguments, and what it gives of the
-- words.
use Rattle.std.specs.Prelude.{◌≡◌, ◌⊎◌, ℕ, ◌<◌, length, slice_index, Bool, true, false, List, [], ◌∷◌, All, IsTrue, codes, map, drop, None, Some, unwrap_or, Option}
use Rattle.std.specs.List.{flat_map}
use Rattle.clap.specs.declared.builder.action.ArgAction.TheVariants.{Append}
use Rattle.clap.specs.declared.parser.matches.ArgMatches.{ArgMatches}
use Rattle.clap.specs.Words.{App, Rule, all_of, found_of, new_rule, rows_of}
use Rattle.clap.specs.Simple.{new_shape}
use Rattle.command_line.specs.declared.table.Access.TheVariants as access
use Rattle.command_line.specs.declared.table.Kind.{Kind}
use Rattle.command_line.specs.declared.table.Kind.TheVariants as kind
use Rattle.command_line.specs.declared.table.Setting.{Setting}
use Rattle.command_line.specs.declared.table.Setting.TheVariants.{Nodes}
use Rattle.command_line.specs.declared.table.Role.{Role}
use Rattle.command_line.specs.declared.table.Role.TheVariants as role
use Rattle.command_line.specs.declared.parsing.Given.{Given}
use Rattle.command_line.specs.declared.parsing.Given.TheVariants as are
use Rattle.command_line.specs.Tasks.{Saying, Number, MaybeNumber, MaybeAddress, Read, Write, Flag, Row, is_alone}
use Rattle.command_line.specs.Commands.{Command, IsFit, row_of}
use Rattle.command_line.specs.Asks.{Argument, ArePlaced, IsArgument, IsPlain, IsSaid, operand_in, value_in, words_of}
use Rattle.command_line.specs.Views.{CodeArguments, TimeArguments, View, IsFitView, code_options, time_options, view_row}
use Rattle.command_line.specs.Table.{is_valued, kind_of, name_of, offered, option_word}

-- the name under which `clap` keeps what a role is given
abbrev pub id_of : Role → List ℕ
id_of role.Operand = codes "operand"
id_of (role.Option setting) = name_of setting

-- an option with a value, and one without, whose use counts as an empty text
abbrev pub rule_by : Bool → List ℕ → Rule
rule_by true name = record (new_rule name) { long = Some name; action = Some Append }
rule_by false name = record (new_rule name) {
  long = Some name;
  action = Some Append;
  range = Some (record { start_inclusive = 0; end_inclusive = 0 });
  missing = [] ∷ [];
}

abbrev pub rule_for : Setting → Rule
rule_for setting = rule_by (is_valued setting) (name_of setting)

abbrev pub operand_rule : Rule
operand_rule = record (new_rule (codes "operand")) { action = Some Append }

-- the command that `clap` is told of
abbrev pub app_for : List Setting → App
app_for settings = record {
  top = record (new_shape (codes "shasta")) {
    no_binary_name = true;
    disable_help_flag = true;
    disable_version_flag = true;
    rules = operand_rule ∷ map rule_for settings;
  };
  subs = [];
}

-- what `clap` gives what has a name
abbrev pub given_by : ArgMatches → List ℕ → List (List ℕ)
given_by matches name = unwrap_or (all_of name (rows_of (found_of matches))) []

-- how the code has what is given
abbrev pub IsGivenAs : List (List ℕ) → Given → Type 0
IsGivenAs words are.Nothing = words ≡ []
IsGivenAs words (are.One word) = words ≡ word.now ∷ []
IsGivenAs words (are.Two one other) = words ≡ one.now ∷ other.now ∷ []
IsGivenAs words are.More = 2 < length words

-- what is given is one word, or two, or three, of which none is empty
abbrev pub IsOne : List ℕ → List (List ℕ) → Type 0
IsOne word words = (words ≡ word ∷ []) × (0 < length word)

abbrev pub AreTwo : (one other : List ℕ) → List (List ℕ) → Type 0
AreTwo one other words =
    (words ≡ one ∷ other ∷ []) × (0 < length one) × (0 < length other)

abbrev pub AreThree : (one other third : List ℕ) → List (List ℕ) → Type 0
AreThree one other third words =
    (words ≡ one ∷ other ∷ third ∷ []) × (0 < length one) × (0 < length other)
    × (0 < length third)

-- what is given is one word, or two where there is another; none is empty
abbrev pub AreOneOrTwo : (one : List ℕ) (other : Option (List ℕ)) → List (List ℕ) → Type 0
AreOneOrTwo one None words = IsOne one words
AreOneOrTwo one (Some other) words = AreTwo one other words

-- the words of a role among the arguments
abbrev pub words_for : Role → List Argument → List (List ℕ)
words_for role.Operand arguments = flat_map operand_in arguments
words_for (role.Option setting) arguments = flat_map (value_in (option_word setting)) arguments

-- the words are these arguments'
pub record IsCut (settings : List Setting) (words : List (List ℕ)) (arguments : List Argument) :
    Type 0 where
  pub words_are : words ≡ flat_map words_of arguments
  pub are_arguments : All (IsArgument (offered settings)) arguments

-- the words are arguments, of which `clap` gives each role its words
pub record Reads (settings : List Setting) (words : List (List ℕ)) (matches : ArgMatches) : Type 0
  where
    pub arguments : List Argument
    pub is_cut : IsCut settings words arguments
    pub gives : (r : Role) → given_by matches (id_of r) ≡ words_for r arguments

-- what is given says what the row says
abbrev pub AreGiven : List (List ℕ × Saying) → (List ℕ → List (List ℕ)) → Type 0
AreGiven [] given = Unit {0}
AreGiven (option ∷ options) given =
    IsSaid option.1 (given (drop 2 option.0)) × AreGiven options given

pub record IsOfRow (row : Row) (given : List ℕ → List (List ℕ)) : Type 0 where
  pub places : ArePlaced row.places (given (id_of role.Operand))
  pub options : AreGiven row.options given

-- values say this of an option that has a number; of one that may have one; and of one that names a
-- file
abbrev pub IsNumberOf : Kind → List (List ℕ) → ℕ → Type 0
IsNumberOf (kind.Number low high default) values number =
    IsSaid (Number low high default number) values
IsNumberOf kind values number = ⊥

abbrev pub IsMaybeOf : Kind → List (List ℕ) → Option ℕ → Type 0
IsMaybeOf (kind.MaybeNumber low high) values number = IsSaid (MaybeNumber low high number) values
IsMaybeOf kind values number = ⊥

abbrev pub IsNameOf : Kind → List (List ℕ) → Option (List ℕ) → Type 0
IsNameOf (kind.File access.Read) values name = IsSaid (Read name) values
IsNameOf (kind.File access.Write) values name = IsSaid (Write name) values
IsNameOf kind values name = ⊥

-- what is given says this number of the option
abbrev pub SaysNumber : (List ℕ → List (List ℕ)) → Setting → ℕ → Type 0
SaysNumber given setting number = IsNumberOf (kind_of setting) (given (name_of setting)) number

-- what is given says this number of the option, or none
abbrev pub SaysMaybe : (List ℕ → List (List ℕ)) → Setting → Option ℕ → Type 0
SaysMaybe given setting number = IsMaybeOf (kind_of setting) (given (name_of setting)) number

-- what is given says this address of the option, or none
abbrev pub SaysAt : (List ℕ → List (List ℕ)) → Setting → Option ℕ → Type 0
SaysAt given setting address = IsSaid (MaybeAddress address) (given (name_of setting))

-- what is given says this name of the option, or none
abbrev pub SaysName : (List ℕ → List (List ℕ)) → Setting → Option (List ℕ) → Type 0
SaysName given setting name = IsNameOf (kind_of setting) (given (name_of setting)) name

-- what is given says of the option whether it is there
abbrev pub SaysFlag : (List ℕ → List (List ℕ)) → Setting → Bool → Type 0
SaysFlag given setting there = IsSaid (Flag there) (given (name_of setting))

-- a command's word, and what is given, are of the command's row, and the command lacks nothing
pub record Completes (word : List ℕ) (given : List ℕ → List (List ℕ)) (command : Command)
    : Type 0
  where
    pub word_is : (row_of command).word ≡ word
    pub of_row : IsOfRow (row_of command) given
    pub fits : IsFit command

-- so for a view, which has nothing too much
pub record IsViewGiven (word : List ℕ) (given : List ℕ → List (List ℕ)) (view : View) : Type 0
  where
    pub word_is : (view_row view).word ≡ word
    pub of_row : IsOfRow (view_row view) given
    pub fits : IsFitView view

-- what is given are the options of code that is shown, beside its file, and nothing too much
pub record AreOfCode (given : List ℕ → List (List ℕ)) (a : CodeArguments) : Type 0 where
  pub options : AreGiven (code_options a) given
  pub alone : IsTrue (is_alone a.verified None a.no_batch)

-- so are those of a run by a clock, beside its file and the count of its nodes
pub record AreOfTime (given : List ℕ → List (List ℕ)) (a : TimeArguments) : Type 0 where
  pub options : AreGiven (time_options a) given
  pub alone : IsTrue (is_alone a.verified None a.no_batch)

-- what is given says this number of the most nodes
abbrev pub SaysMost : (List ℕ → List (List ℕ)) → ℕ → Type 0
SaysMost given number = IsSaid (Number 1 16 16 number) (given (name_of Nodes))

-- two dashes and more after them
pub record IsLong (word : List ℕ) : Type 0 where
  pub more : 2 < length word
  pub first : slice_index word 0 ≡ 45
  pub second : slice_index word 1 ≡ 45

-- a word that may be an argument, or a value
abbrev pub IsReadable : List ℕ → Type 0
IsReadable word = IsPlain word ⊎ IsLong word

abbrev pub AreReadable : List (List ℕ) → Type 0
AreReadable [] = Unit {0}
AreReadable (word ∷ words) = IsReadable word × AreReadable words
