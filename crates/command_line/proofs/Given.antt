-- What `clap` gives of a row's words says what the row says, and nothing else does.
use Rattle.std.proofs.Common.{◌≡◌, ℕ, Bool, List, [], ◌∷◌, if◌then◌else◌, codes, bytes_eq, refl, sym, ap, ◌∙◌, subst}
use Rattle.std.specs.Prelude.{All, drop}
use Rattle.std.specs.List.{flat_map}
use Rattle.std.proofs.lemmas.List.Elements.{All-nil, All-cons, All-head, All-tail}
use Rattle.clap.specs.declared.parser.matches.ArgMatches.{ArgMatches}
use Rattle.command_line.specs.declared.table.Setting.{Setting}
use Rattle.command_line.specs.declared.table.Role.{Role}
use Rattle.command_line.specs.declared.table.Role.TheVariants as role
use Rattle.command_line.specs.Tasks.{Row, Saying}
use Rattle.command_line.specs.Asks.{AreOfRow, ArePlaced, Argument, IsArgument, IsSaid, operand_in, value_in, valued}
use Rattle.command_line.specs.Table.{offered, option_word}
use Rattle.command_line.specs.Reading.{AreGiven, IsCut, IsOfRow, Reads, given_by, id_of, words_for}
use Rattle.command_line.proofs.Words.{dashed, no_option}

abbrev Given : Type 0
Given = List ℕ → List (List ℕ)

pub same_head : {A : Type 0} (v w : A) (vs ws : List A) → v ∷ vs ≡ w ∷ ws → v ≡ w
same_head v w vs ws e = cc

pub same_tail : {A : Type 0} (v w : A) (vs ws : List A) → v ∷ vs ≡ w ∷ ws → vs ≡ ws
same_tail v w vs ws e = cc

-- what arguments give a name
abbrev pub given_of : List Argument → Given
given_of arguments name =
    if bytes_eq name (codes "operand") then flat_map operand_in arguments
    else flat_map (value_in (45 ∷ 45 ∷ name)) arguments

pub gives : (arguments : List Argument) (r : Role)
    → given_of arguments (id_of r) ≡ words_for r arguments
gives arguments role.Operand = refl
gives arguments (role.Option s) =
    rw (no_option s) (ap (λ w. flat_map (value_in w) arguments) (sym (dashed s)))

-- an option of a row, and the values that it has
abbrev Says : List Argument → List ℕ × Saying → Type 0
Says arguments option = IsSaid option.1 (flat_map (value_in option.0) arguments)

abbrev Are : Given → List Argument → Type 0
Are g arguments = (r : Role) → g (id_of r) ≡ words_for r arguments

values_are : (g : Given) (arguments : List Argument) (s : Setting) (word : List ℕ)
    → Are g arguments → word ≡ option_word s → g (drop 2 word) ≡ flat_map (value_in word) arguments
values_are g arguments s word e is =
    subst (λ w. g (drop 2 w) ≡ flat_map (value_in w) arguments) (sym is) (e (role.Option s))

abbrev first_word : List ℕ × Bool → List ℕ
first_word option = option.0

word_by : (s : Setting) (settings : List Setting) (o : List ℕ × Saying)
    (options : List (List ℕ × Saying)) → valued (o ∷ options) ≡ offered (s ∷ settings)
    → o.0 ≡ option_word s
word_by s settings o options e = ap first_word (same_head _ _ _ _ e)

are_given : (settings : List Setting) (options : List (List ℕ × Saying))
    (arguments : List Argument) (g : Given) → valued options ≡ offered settings
    → Are g arguments → All (Says arguments) options → AreGiven options g
are_given settings [] arguments g e is h = tt
are_given [] (o ∷ options) arguments g e is h = absurd (cc)
are_given (s ∷ settings) (o ∷ options) arguments g e is h =
    let P = Says arguments in
    let word = word_by s settings o options e in (
      subst (IsSaid o.1) (sym (values_are g arguments s o.0 is word)) (All-head P o options h),
      are_given settings options arguments g (same_tail _ _ _ _ e) is (All-tail P o options h),
    )

given_are : (settings : List Setting) (options : List (List ℕ × Saying))
    (arguments : List Argument) (g : Given) → valued options ≡ offered settings
    → Are g arguments → AreGiven options g → All (Says arguments) options
given_are settings [] arguments g e is h = All-nil (Says arguments)
given_are [] (o ∷ options) arguments g e is h = absurd (cc)
given_are (s ∷ settings) (o ∷ options) arguments g e is h =
    let word = word_by s settings o options e in
    All-cons (Says arguments) o options
    (subst (IsSaid o.1) (values_are g arguments s o.0 is word) h.0)
    (given_are settings options arguments g (same_tail _ _ _ _ e) is h.1)

-- words of a row are its word and arguments of its options
pub row_cut : (row : Row) (settings : List Setting) (first : List ℕ) (rest words : List (List ℕ))
    → valued row.options ≡ offered settings → words ≡ first ∷ rest
    → (h : AreOfRow row words) → IsCut settings rest h.arguments
row_cut row settings first rest words same e h = record {
  words_are = same_tail _ _ _ _ (sym e ∙ h.words_are);
  are_arguments = subst (λ os. All (IsArgument os) h.arguments) same h.are_arguments;
}

pub row_given : (row : Row) (settings : List Setting) (words : List (List ℕ)) (g : Given)
    → valued row.options ≡ offered settings → (h : AreOfRow row words) → Are g h.arguments
    → IsOfRow row g
row_given row settings words g same h is = record {
  places = subst (ArePlaced row.places) (sym (is role.Operand)) h.places;
  options = are_given settings row.options h.arguments g same is h.options;
}

pub row_back : (row : Row) (settings : List Setting) (first : List ℕ) (rest words : List (List ℕ))
    (m : ArgMatches) → valued row.options ≡ offered settings → words ≡ first ∷ rest
    → row.word ≡ first → Reads settings rest m → IsOfRow row (given_by m) → AreOfRow row words
row_back row settings first rest words m same e f r h = record {
  arguments = r.arguments;
  words_are = e ∙ ap (λ w. w ∷ rest) (sym f) ∙ ap (λ ws. row.word ∷ ws) r.is_cut.words_are;
  are_arguments = subst (λ os. All (IsArgument os) r.arguments) (sym same) r.is_cut.are_arguments;
  places = subst (ArePlaced row.places) (r.gives role.Operand) h.places;
  options = given_are settings row.options r.arguments (given_by m) same r.gives h.options;
}
