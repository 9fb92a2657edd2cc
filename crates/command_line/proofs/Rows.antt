-- What is given says of a command's row one command, and nothing else.
use Rattle.std.proofs.Common.{◌≡◌, ℕ, ◌-◌, ◌^◌, Bool, ◌<◌, length, MatchOption, List, [], ◌∷◌, map, get_or, refl, sym, ap, ◌∙◌, subst, arith, Option, Some, None, Bor, option_map, unwrap_or, bytes_eq}
use Rattle.std.specs.Prelude.{IsTrue, find}
use Rattle.clap.specs.declared.parser.matches.ArgMatches.{ArgMatches}
use Rattle.clap.specs.Words.{found_of, matched_of, raw_values}
use Rattle.clap.proofs.WalkLemmas.{raw_values-rows}
use Rattle.command_line.specs.declared.table.Access.TheVariants as access
use Rattle.command_line.specs.declared.table.Kind.{Kind}
use Rattle.command_line.specs.declared.table.Kind.TheVariants as kind
use Rattle.command_line.specs.declared.table.Setting.{Setting}
use Rattle.command_line.specs.declared.table.Setting.TheVariants.{Nodes, Order, Budget, Layout, Code, Verify, Record, Brief, NoBatch, Loss, PerNode}
use Rattle.command_line.specs.declared.table.Role.{Role}
use Rattle.command_line.specs.declared.table.CommandWord.{CommandWord}
use Rattle.command_line.specs.declared.table.CommandWord.TheVariants as word
use Rattle.command_line.specs.declared.Command.{Command as OfCode}
use Rattle.command_line.specs.Tasks.{Execution, RunArguments, OneArguments, SimArguments, ReplayArguments, Number, Read, Write, Flag, AreFew, IsAlone, execution_options, is_alone}
use Rattle.command_line.specs.Commands.{RewriteArguments, ListArguments, GenerateArguments, AssembleArguments, Command, Rewrite, Run, Listing, One, Sim, Replay, Generate, Assemble, IsFit, row_of}
use Rattle.command_line.specs.Asks.{Argument, ArePlaced, Asks, IsNumber, IsSaid, valued}
use Rattle.command_line.specs.Meaning.{meaning_of}
use Rattle.command_line.specs.Table.{kind_of, name_of, offered, settings_of, text_of}
use Rattle.command_line.specs.Reading.{IsCut, Reads, IsOfRow, IsOne, AreTwo, AreGiven, IsMaybeOf, IsNameOf, IsNumberOf, SaysNumber, SaysMaybe, SaysName, SaysFlag, Completes, given_by, id_of, words_for}
use Rattle.command_line.proofs.Cuts.{same_cut}
use Rattle.command_line.proofs.Given.{given_of, gives, row_back, row_cut, row_given, same_head}

abbrev Given : Type 0
Given = List ℕ → List (List ℕ)

-- what the code reads of a role is what it is given
pub given_raw : (m : ArgMatches) (r : Role) (id : List ℕ) (o : Option (Bor (List (Bor (List ℕ))))) →
    id ≡ id_of r →
    option_map (λ s. map (λ v. v.now) s.now) o ≡ option_map raw_values (matched_of (found_of m) id) →
    given_by m (id_of r) ≡ unwrap_or (option_map (λ s. map (λ v. v.now) s.now) o) []
given_raw m r id o f e =
    sym (ap (λ x. unwrap_or x []) (e ∙ ap (λ i. option_map raw_values (matched_of (found_of m) i)) f
    ∙ raw_values-rows (found_of m) (id_of r)))

-- an option says one number
pub number_one : (k : Kind) (values : List (List ℕ)) (n m : ℕ) → IsNumberOf k values n
    → IsNumberOf k values m → n ≡ m
number_one (kind.Number low high default) [] n m h k = h ∙ sym k
number_one (kind.Number low high default) (x ∷ []) n m h k = sym h.value ∙ k.value
number_one (kind.Number low high default) (x ∷ y ∷ more) n m h k = absurd h
number_one (kind.MaybeNumber low high) values n m h k = absurd h
number_one other values n m h k = absurd h

pub says_one : (g : Given) (s : Setting) (n m : ℕ) → SaysNumber g s n → SaysNumber g s m → n ≡ m
says_one g s n m h k = number_one (kind_of s) (g (name_of s)) n m h k

-- an option that is given one value, and none
pub says_by : (g : Given) (s : Setting) (values : List (List ℕ)) (k : Kind) (n : ℕ)
    → g (name_of s) ≡ values → kind_of s ≡ k → IsNumberOf k values n → SaysNumber g s n
says_by g s values k n e f h =
    subst (λ vs. IsNumberOf (kind_of s) vs n) (sym e) (subst (λ x. IsNumberOf x values n) (sym f) h)

pub set_by : (g : Given) (s : Setting) (values : List (List ℕ)) (k : Kind) (n : ℕ)
    → g (name_of s) ≡ values → kind_of s ≡ k → SaysNumber g s n → IsNumberOf k values n
set_by g s values k n e f h =
    subst (λ x. IsNumberOf x values n) f (subst (λ vs. IsNumberOf (kind_of s) vs n) e h)

pub says_read : (g : Given) (s : Setting) (word : List ℕ) (low high default : ℕ) (r : Option ℕ)
    → g (name_of s) ≡ word ∷ [] → kind_of s ≡ kind.Number low high default
    → MatchOption r ((n : ℕ) → IsNumber low high word n → ⊥) (λ n. IsNumber low high word n)
    → MatchOption r ((n : ℕ) → SaysNumber g s n → ⊥) (λ n. SaysNumber g s n)
says_read g s word low high default None e k h = λ n says.
    h n (set_by g s (word ∷ []) (kind.Number low high default) n e k says)
says_read g s word low high default (Some n) e k h =
    says_by g s (word ∷ []) (kind.Number low high default) n e k h

number_few : (k : Kind) (values : List (List ℕ)) (n : ℕ) → 1 < length values
    → IsNumberOf k values n → ⊥
number_few (kind.Number low high default) [] n lt h = omega (arith, lt)
number_few (kind.Number low high default) (x ∷ []) n lt h = omega (arith, lt)
number_few (kind.Number low high default) (x ∷ y ∷ more) n lt h = h
number_few (kind.MaybeNumber low high) values n lt h = h
number_few other values n lt h = h

pub says_few : (g : Given) (s : Setting) (n : ℕ) → 1 < length (g (name_of s)) → SaysNumber g s n → ⊥
says_few g s n lt h = number_few (kind_of s) (g (name_of s)) n lt h

-- an option names one file, or none
read_one : (values : List (List ℕ)) (n m : Option (List ℕ)) → IsSaid (Read n) values
    → IsSaid (Read m) values → n ≡ m
read_one [] n m h k = h ∙ sym k
read_one (x ∷ []) n m h k = h.1 ∙ sym k.1
read_one (x ∷ y ∷ more) n m h k = absurd h

write_one : (values : List (List ℕ)) (n m : Option (List ℕ)) → IsSaid (Write n) values
    → IsSaid (Write m) values → n ≡ m
write_one [] n m h k = h ∙ sym k
write_one (x ∷ []) n m h k = h.1 ∙ sym k.1
write_one (x ∷ y ∷ more) n m h k = absurd h

name_one : (k : Kind) (values : List (List ℕ)) (n m : Option (List ℕ)) → IsNameOf k values n
    → IsNameOf k values m → n ≡ m
name_one (kind.Number low high default) values n m h k = absurd h
name_one (kind.MaybeNumber low high) values n m h k = absurd h
name_one kind.MaybeAddress values n m h k = absurd h
name_one (kind.File access.Read) values n m h k = read_one values n m h k
name_one (kind.File access.Write) values n m h k = write_one values n m h k
name_one kind.Flag values n m h k = absurd h

pub names_one : (g : Given) (s : Setting) (n m : Option (List ℕ)) → SaysName g s n
    → SaysName g s m → n ≡ m
names_one g s n m h k = name_one (kind_of s) (g (name_of s)) n m h k

-- an option has one number, or none
maybe_one : (k : Kind) (values : List (List ℕ)) (n m : Option ℕ) → IsMaybeOf k values n
    → IsMaybeOf k values m → n ≡ m
maybe_one (kind.Number low high default) values n m h k = absurd h
maybe_one (kind.MaybeNumber low high) [] n m h k = h ∙ sym k
maybe_one (kind.MaybeNumber low high) (x ∷ []) n m h k =
    h.2 ∙ ap (λ i. Some i) (sym h.1.value ∙ k.1.value) ∙ sym k.2
maybe_one (kind.MaybeNumber low high) (x ∷ y ∷ more) n m h k = absurd h
maybe_one other values n m h k = absurd h

pub maybes_one : (g : Given) (s : Setting) (n m : Option ℕ) → SaysMaybe g s n → SaysMaybe g s m
    → n ≡ m
maybes_one g s n m h k = maybe_one (kind_of s) (g (name_of s)) n m h k

pub maybe_by : (g : Given) (s : Setting) (values : List (List ℕ)) (k : Kind) (n : Option ℕ)
    → g (name_of s) ≡ values → kind_of s ≡ k → IsMaybeOf k values n → SaysMaybe g s n
maybe_by g s values k n e f h =
    subst (λ vs. IsMaybeOf (kind_of s) vs n) (sym e) (subst (λ x. IsMaybeOf x values n) (sym f) h)

many_maybe : (k : Kind) (values : List (List ℕ)) (n : Option ℕ) → 1 < length values
    → IsMaybeOf k values n → ⊥
many_maybe (kind.Number low high default) values n lt h = h
many_maybe (kind.MaybeNumber low high) [] n lt h = omega (arith, lt)
many_maybe (kind.MaybeNumber low high) (x ∷ []) n lt h = omega (arith, lt)
many_maybe (kind.MaybeNumber low high) (x ∷ y ∷ more) n lt h = h
many_maybe other values n lt h = h

pub maybe_few : (g : Given) (s : Setting) (n : Option ℕ) → 1 < length (g (name_of s))
    → SaysMaybe g s n → ⊥
maybe_few g s n lt h = many_maybe (kind_of s) (g (name_of s)) n lt h

-- a flag is there, or not
switch_one : (values : List (List ℕ)) (b d : Bool) → IsSaid (Flag b) values
    → IsSaid (Flag d) values → b ≡ d
switch_one [] b d h k = h ∙ sym k
switch_one (x ∷ []) b d h k = h ∙ sym k
switch_one (x ∷ y ∷ more) b d h k = absurd h

pub flag_one : (g : Given) (s : Setting) (b d : Bool) → SaysFlag g s b → SaysFlag g s d → b ≡ d
flag_one g s b d h k = switch_one (g (name_of s)) b d h k

pub flag_at : (g : Given) (s : Setting) (values : List (List ℕ)) (b : Bool)
    → g (name_of s) ≡ values → IsSaid (Flag b) values → SaysFlag g s b
flag_at g s values b e h = subst (IsSaid (Flag b)) (sym e) h

many_switch : (values : List (List ℕ)) (b : Bool) → 1 < length values → IsSaid (Flag b) values → ⊥
many_switch [] b lt h = omega (arith, lt)
many_switch (x ∷ []) b lt h = omega (arith, lt)
many_switch (x ∷ y ∷ more) b lt h = h

pub flag_few : (g : Given) (s : Setting) (b : Bool) → 1 < length (g (name_of s))
    → SaysFlag g s b → ⊥
flag_few g s b lt h = many_switch (g (name_of s)) b lt h

pub nothing : (xs : List (Bor (List ℕ))) → length xs ≡ 0 → map (λ v. v.now) xs ≡ []
nothing [] e = refl
nothing (x ∷ xs) e = absurd (omega (arith, e))

pub singleton : (xs : List (Bor (List ℕ))) (d : Bor (List ℕ)) → length xs ≡ 1 →
    map (λ v. v.now) xs ≡ (get_or xs 0 d).now ∷ []
singleton [] d e = absurd (omega (arith, e))
singleton (x ∷ []) d e = refl
singleton (x ∷ y ∷ more) d e = absurd (omega (arith, e))

pub pair : (xs : List (Bor (List ℕ))) (d : Bor (List ℕ)) → length xs ≡ 2 →
    map (λ v. v.now) xs ≡ (get_or xs 0 d).now ∷ (get_or xs 1 d).now ∷ []
pair [] d e = absurd (omega (arith, e))
pair (x ∷ []) d e = absurd (omega (arith, e))
pair (x ∷ y ∷ []) d e = refl
pair (x ∷ y ∷ z ∷ more) d e = absurd (omega (arith, e))

-- ---- places

same_name : (x y : List ℕ) → Some x ≡ Some y → x ≡ y
same_name x y e = cc

pub one_file : (f : List ℕ) (words : List (List ℕ)) → ArePlaced (Read (Some f) ∷ []) words
    → IsOne f words
one_file f [] h = absurd h
one_file f (w ∷ []) h =
    let same : f ≡ w = same_name f w h.0.1 in
    (ap (λ x. x ∷ []) (sym same), subst (λ x. 0 < length x) (sym same) h.0.0)
one_file f (w ∷ x ∷ more) h = absurd h.1

pub placed_file : (f : List ℕ) (words : List (List ℕ)) → IsOne f words
    → ArePlaced (Read (Some f) ∷ []) words
placed_file f words h = subst (ArePlaced (Read (Some f) ∷ [])) (sym h.0) ((h.1, refl), tt)

pub same_file : (x y : List ℕ) (words : List (List ℕ)) → ArePlaced (Read (Some x) ∷ []) words
    → ArePlaced (Read (Some y) ∷ []) words → x ≡ y
same_file x y words h k =
    ap (λ xs. get_or xs 0 []) (sym (one_file x words h).0 ∙ (one_file y words k).0)

-- two files that are read
pub two_read : (x y : List ℕ) (words : List (List ℕ))
    → ArePlaced (Read (Some x) ∷ Read (Some y) ∷ []) words → AreTwo x y words
two_read x y [] h = absurd h
two_read x y (w ∷ []) h = absurd h.1
two_read x y (w ∷ v ∷ []) h =
    let one : x ≡ w = same_name x w h.0.1 in
    let other : y ≡ v = same_name y v h.1.0.1 in (
      cc,
      subst (λ z. 0 < length z) (sym one) h.0.0,
      subst (λ z. 0 < length z) (sym other) h.1.0.0,
    )
two_read x y (w ∷ v ∷ u ∷ more) h = absurd h.1.1

pub placed_read : (x y : List ℕ) (words : List (List ℕ)) → AreTwo x y words
    → ArePlaced (Read (Some x) ∷ Read (Some y) ∷ []) words
placed_read x y words h =
    subst (ArePlaced (Read (Some x) ∷ Read (Some y) ∷ [])) (sym h.0)
    ((h.1, refl), ((h.2, refl), tt))

pub same_read : (x y v w : List ℕ) (words : List (List ℕ))
    → ArePlaced (Read (Some x) ∷ Read (Some y) ∷ []) words
    → ArePlaced (Read (Some v) ∷ Read (Some w) ∷ []) words → (x ≡ v) × (y ≡ w)
same_read x y v w words h k =
    let e = sym (two_read x y words h).0 ∙ (two_read v w words k).0 in
    (ap (λ xs. get_or xs 0 []) e, ap (λ xs. get_or xs 1 []) e)

-- a file that is read, and one that is written
pub two_files : (x y : List ℕ) (words : List (List ℕ))
    → ArePlaced (Read (Some x) ∷ Write (Some y) ∷ []) words → AreTwo x y words
two_files x y [] h = absurd h
two_files x y (w ∷ []) h = absurd h.1
two_files x y (w ∷ v ∷ []) h =
    let one : x ≡ w = same_name x w h.0.1 in
    let other : y ≡ v = same_name y v h.1.0.1 in (
      cc,
      subst (λ z. 0 < length z) (sym one) h.0.0,
      subst (λ z. 0 < length z) (sym other) h.1.0.0,
    )
two_files x y (w ∷ v ∷ u ∷ more) h = absurd h.1.1

pub placed_files : (x y : List ℕ) (words : List (List ℕ)) → AreTwo x y words
    → ArePlaced (Read (Some x) ∷ Write (Some y) ∷ []) words
placed_files x y words h =
    subst (ArePlaced (Read (Some x) ∷ Write (Some y) ∷ [])) (sym h.0)
    ((h.1, refl), ((h.2, refl), tt))

pub same_files : (x y v w : List ℕ) (words : List (List ℕ))
    → ArePlaced (Read (Some x) ∷ Write (Some y) ∷ []) words
    → ArePlaced (Read (Some v) ∷ Write (Some w) ∷ []) words → (x ≡ v) × (y ≡ w)
same_files x y v w words h k =
    let e = sym (two_files x y words h).0 ∙ (two_files v w words k).0 in
    (ap (λ xs. get_or xs 0 []) e, ap (λ xs. get_or xs 1 []) e)

-- a word that is a number, and a file that is written
abbrev pub IsSeedWord : List ℕ → ℕ → Type 0
IsSeedWord word n = IsNumber 0 (2 ^ 32 - 1) word n

abbrev pub ArePlacedSeed : (n : ℕ) (y : List ℕ) → List (List ℕ) → Type 0
ArePlacedSeed n y = ArePlaced (Number 0 (2 ^ 32 - 1) 0 n ∷ Write (Some y) ∷ [])

pub seed_and_file : (n : ℕ) (y : List ℕ) (words : List (List ℕ)) → ArePlacedSeed n y words
    → (word : List ℕ) × AreTwo word y words × IsSeedWord word n
seed_and_file n y [] h = absurd h
seed_and_file n y (w ∷ []) h = absurd h.1
seed_and_file n y (w ∷ v ∷ []) h =
    let other : y ≡ v = same_name y v h.1.0.1 in
    (w, ((cc), h.0.digits.0, subst (λ z. 0 < length z) (sym other) h.1.0.0), h.0)
seed_and_file n y (w ∷ v ∷ u ∷ more) h = absurd h.1.1

same_seeds : (n m : ℕ) (y w : List ℕ) (words : List (List ℕ)) → ArePlacedSeed n y words
    → ArePlacedSeed m w words → (n ≡ m) × (y ≡ w)
same_seeds n m y w words h k =
    let one = seed_and_file n y words h in
    let other = seed_and_file m w words k in
    let e = sym one.1.0 ∙ other.1.0 in
    let word = ap (λ xs. get_or xs 0 []) e in (
      sym (subst (λ x. IsSeedWord x n) word one.2).value ∙ other.2.value,
      ap (λ xs. get_or xs 1 []) e,
    )

-- a command, by its word and its arguments
abbrev pub Arguments : CommandWord → Type 0
Arguments word.Rewrite = RewriteArguments
Arguments word.Run = RunArguments
Arguments word.List = ListArguments
Arguments word.One = OneArguments
Arguments word.Sim = SimArguments
Arguments word.Replay = ReplayArguments
Arguments word.Generate = GenerateArguments
Arguments word.Assemble = AssembleArguments

abbrev pub command : (w : CommandWord) → Arguments w → Command
command word.Rewrite a = Rewrite a
command word.Run a = Run a
command word.List a = Listing a
command word.One a = One a
command word.Sim a = Sim a
command word.Replay a = Replay a
command word.Generate a = Generate a
command word.Assemble a = Assemble a

abbrev pub command_word : Command → CommandWord
command_word (Rewrite a) = word.Rewrite
command_word (Run a) = word.Run
command_word (Listing a) = word.List
command_word (One a) = word.One
command_word (Sim a) = word.Sim
command_word (Replay a) = word.Replay
command_word (Generate a) = word.Generate
command_word (Assemble a) = word.Assemble

abbrev IsWhole : Command → CommandWord → Type 0
IsWhole c w = (a : Arguments w) × (c ≡ command w a)

arguments_of : (c : Command) → IsWhole c (command_word c)
arguments_of (Rewrite a) = (a, refl)
arguments_of (Run a) = (a, refl)
arguments_of (Listing a) = (a, refl)
arguments_of (One a) = (a, refl)
arguments_of (Sim a) = (a, refl)
arguments_of (Replay a) = (a, refl)
arguments_of (Generate a) = (a, refl)
arguments_of (Assemble a) = (a, refl)

pub word_is : (c : Command) → text_of (command_word c) ≡ (row_of c).word
word_is (Rewrite a) = refl
word_is other = refl

-- commands differ in their words
abbrev command_words : List CommandWord
command_words =
    word.Rewrite ∷ word.Run ∷ word.List ∷ word.One ∷ word.Sim ∷ word.Replay ∷ word.Generate
    ∷ word.Assemble ∷ []

abbrev word_at : List ℕ → CommandWord
word_at text = unwrap_or (find (λ w. bytes_eq (text_of w) text) command_words) word.Rewrite

word_found : (w : CommandWord) → word_at (text_of w) ≡ w
word_found word.Rewrite = refl
word_found other = refl

same_word : (v w : CommandWord) → text_of v ≡ text_of w → v ≡ w
same_word v w e = sym (word_found v) ∙ ap word_at e ∙ word_found w

of_word : (w : CommandWord) (c : Command) → text_of w ≡ (row_of c).word → IsWhole c w
of_word w c e = subst (IsWhole c) (same_word (command_word c) w (word_is c ∙ sym e)) (arguments_of c)

-- what completes a word is a command of that word
pub record IsOf (w : CommandWord) (g : Given) (a : Arguments w) : Type 0 where
  pub of_row : IsOfRow (row_of (command w a)) g
  pub fits : IsFit (command w a)

pub as_command : (w : CommandWord) (g : Given) (c : Command) → Completes (text_of w) g c
    → (a : Arguments w) × IsOf w g a
as_command w g c h =
    let is = of_word w c (sym h.word_is) in (
      is.0,
      record {
        of_row = subst (λ d. IsOfRow (row_of d) g) is.1 h.of_row;
        fits = subst IsFit is.1 h.fits;
      },
    )

-- what is given beside a verified file is what the command has there
pub alone_by : (g : Given) (v v' k k' : Option (List ℕ)) (b b' : Bool) → SaysName g Verify v
    → SaysName g Verify v' → SaysName g Code k → SaysName g Code k' → SaysFlag g NoBatch b
    → SaysFlag g NoBatch b' → IsTrue (is_alone v k b) → IsTrue (is_alone v' k' b')
alone_by g v v' k k' b b' verified verified' code code' batch batch' h =
    subst (λ x. IsTrue (is_alone x k' b')) (names_one g Verify v v' verified verified')
    (subst (λ x. IsTrue (is_alone v x b')) (names_one g Code k k' code code')
    (subst (λ x. IsTrue (is_alone v k x)) (flag_one g NoBatch b b' batch batch') h))

-- what is given says of nodes that run one thing
abbrev execution : (file : List ℕ) (nodes budget : ℕ) (code verified layout : Option (List ℕ))
    (brief no_batch : Bool) → Execution
execution file nodes budget code verified layout brief no_batch = record {
  file = file;
  nodes = nodes;
  budget = budget;
  code = code;
  verified = verified;
  layout = layout;
  brief = brief;
  no_batch = no_batch;
}

abbrev IsFor : Given → Execution → Type 0
IsFor g e = AreGiven (execution_options e) g

one_execution : (g : Given) (e f : Execution) → e.file ≡ f.file → IsFor g e → IsFor g f → e ≡ f
one_execution g e f file p q =
    let nodes = says_one g Nodes e.nodes f.nodes p.0 q.0 in
    let budget = says_one g Budget e.budget f.budget p.1.0 q.1.0 in
    let code = names_one g Code e.code f.code p.1.1.0 q.1.1.0 in
    let verified = names_one g Verify e.verified f.verified p.1.1.1.0 q.1.1.1.0 in
    let layout = names_one g Layout e.layout f.layout p.1.1.1.1.0 q.1.1.1.1.0 in
    let brief = flag_one g Brief e.brief f.brief p.1.1.1.1.1.0 q.1.1.1.1.1.0 in
    let batch = flag_one g NoBatch e.no_batch f.no_batch p.1.1.1.1.1.1.0 q.1.1.1.1.1.1.0 in
    ap (λ x. record e { file = x }) file
    ∙ ap (λ x. execution f.file x e.budget e.code e.verified e.layout e.brief e.no_batch) nodes
    ∙ ap (λ x. execution f.file f.nodes x e.code e.verified e.layout e.brief e.no_batch) budget
    ∙ ap (λ x. execution f.file f.nodes f.budget x e.verified e.layout e.brief e.no_batch) code
    ∙ ap (λ x. execution f.file f.nodes f.budget f.code x e.layout e.brief e.no_batch) verified
    ∙ ap (λ x. execution f.file f.nodes f.budget f.code f.verified x e.brief e.no_batch) layout
    ∙ ap (λ x. execution f.file f.nodes f.budget f.code f.verified f.layout x e.no_batch) brief
    ∙ ap (λ x. record f { no_batch = x }) batch

-- what is given beside a verified file is what the nodes run
execution_alone : (g : Given) (e : Execution) (v k : Option (List ℕ)) (b : Bool)
    → SaysName g Code k → SaysName g Verify v → SaysFlag g NoBatch b → IsFor g e → IsAlone e
    → IsTrue (is_alone v k b)
execution_alone g e v k b code verified batch options alone =
    alone_by g e.verified v e.code k e.no_batch b options.1.1.1.0 verified options.1.1.0 code
    options.1.1.1.1.1.1.0 batch alone

pub run_alone : (g : Given) (c : Command) (v k : Option (List ℕ)) (b : Bool)
    → SaysName g Code k → SaysName g Verify v → SaysFlag g NoBatch b
    → Completes (text_of word.Run) g c → IsTrue (is_alone v k b)
run_alone g c v k b code verified batch h =
    let r = as_command word.Run g c h in
    let a : RunArguments = r.0 in
    execution_alone g a.execution v k b code verified batch r.1.of_row.options.1 r.1.fits.1

pub sim_alone : (g : Given) (c : Command) (v k : Option (List ℕ)) (b : Bool)
    → SaysName g Code k → SaysName g Verify v → SaysFlag g NoBatch b
    → Completes (text_of word.Sim) g c → IsTrue (is_alone v k b)
sim_alone g c v k b code verified batch h =
    let r = as_command word.Sim g c h in
    let a : SimArguments = r.0 in
    execution_alone g a.execution v k b code verified batch r.1.of_row.options.1.1.1 r.1.fits.0

-- the nodes, the loss and the processors of each node that are given are those of the command
pub sim_few : (g : Given) (c : Command) (n : ℕ) (l p : Option ℕ) → SaysNumber g Nodes n
    → SaysMaybe g Loss l → SaysMaybe g PerNode p → Completes (text_of word.Sim) g c → AreFew n l p
sim_few g c n l p nodes loss lanes h =
    let r = as_command word.Sim g c h in
    let a : SimArguments = r.0 in
    subst (λ x. AreFew x l p)
    (says_one g Nodes a.execution.nodes n r.1.of_row.options.1.1.1.0 nodes)
    (subst (λ x. AreFew a.execution.nodes x p)
    (maybes_one g Loss a.loss l r.1.of_row.options.1.0 loss)
    (subst (λ x. AreFew a.execution.nodes a.loss x)
    (maybes_one g PerNode a.lanes p r.1.of_row.options.1.1.0 lanes) r.1.fits.1))

abbrev one : (file : List ℕ) (nodes order budget : ℕ) (layout : Option (List ℕ)) → OneArguments
one file nodes order budget layout =
    record { file = file; nodes = nodes; order = order; budget = budget; layout = layout }

abbrev sim : (execution : Execution) (order : ℕ) (loss lanes : Option ℕ) → SimArguments
sim execution order loss lanes =
    record { execution = execution; order = order; loss = loss; lanes = lanes }

abbrev replay : (file record_file : List ℕ) (verified : Option (List ℕ)) (brief : Bool)
    → ReplayArguments
replay file record_file verified brief =
    record { file = file; record_file = record_file; verified = verified; brief = brief }

one_of_word : (g : Given) (w : CommandWord) (a b : Arguments w)
    → IsOfRow (row_of (command w a)) g → IsOfRow (row_of (command w b)) g → a ≡ b
one_of_word g word.Rewrite a b p q =
    let same = same_files a.input a.output b.input b.output _ p.places q.places in
    let batch = flag_one g NoBatch a.no_batch b.no_batch p.options.0 q.options.0 in
    ap (λ x. record a { input = x }) same.0
    ∙ ap (λ x. record b { output = x; no_batch = a.no_batch }) same.1
    ∙ ap (λ x. record b { no_batch = x }) batch
one_of_word g word.Run a b p q =
    let file = same_file a.execution.file b.execution.file _ p.places q.places in
    let same = one_execution g a.execution b.execution file p.options.1 q.options.1 in
    let recorded = names_one g Record a.record_file b.record_file p.options.0 q.options.0 in
    ap (λ x. record a { execution = x }) same ∙ ap (λ x. record b { record_file = x }) recorded
one_of_word g word.List a b p q =
    ap (λ x. record a { file = x }) (same_file a.file b.file _ p.places q.places)
one_of_word g word.One a b p q =
    let file = same_file a.file b.file _ p.places q.places in
    let nodes = says_one g Nodes a.nodes b.nodes p.options.0 q.options.0 in
    let order = says_one g Order a.order b.order p.options.1.0 q.options.1.0 in
    let budget = says_one g Budget a.budget b.budget p.options.1.1.0 q.options.1.1.0 in
    let layout = names_one g Layout a.layout b.layout p.options.1.1.1.0 q.options.1.1.1.0 in
    ap (λ x. one x a.nodes a.order a.budget a.layout) file
    ∙ ap (λ x. one b.file x a.order a.budget a.layout) nodes
    ∙ ap (λ x. one b.file b.nodes x a.budget a.layout) order
    ∙ ap (λ x. one b.file b.nodes b.order x a.layout) budget
    ∙ ap (λ x. one b.file b.nodes b.order b.budget x) layout
one_of_word g word.Sim a b p q =
    let file = same_file a.execution.file b.execution.file _ p.places q.places in
    let same = one_execution g a.execution b.execution file p.options.1.1.1 q.options.1.1.1 in
    let order = says_one g Order a.order b.order p.options.0 q.options.0 in
    let loss = maybes_one g Loss a.loss b.loss p.options.1.0 q.options.1.0 in
    let lanes = maybes_one g PerNode a.lanes b.lanes p.options.1.1.0 q.options.1.1.0 in
    ap (λ x. sim x a.order a.loss a.lanes) same ∙ ap (λ x. sim b.execution x a.loss a.lanes) order
    ∙ ap (λ x. sim b.execution b.order x a.lanes) loss
    ∙ ap (λ x. sim b.execution b.order b.loss x) lanes
one_of_word g word.Replay a b p q =
    let files = same_read a.file a.record_file b.file b.record_file _ p.places q.places in
    let verified = names_one g Verify a.verified b.verified p.options.0 q.options.0 in
    let brief = flag_one g Brief a.brief b.brief p.options.1.0 q.options.1.0 in
    ap (λ x. replay x a.record_file a.verified a.brief) files.0
    ∙ ap (λ x. replay b.file x a.verified a.brief) files.1
    ∙ ap (λ x. replay b.file b.record_file x a.brief) verified
    ∙ ap (λ x. replay b.file b.record_file b.verified x) brief
one_of_word g word.Generate a b p q =
    let same = same_seeds a.number b.number a.output b.output _ p.places q.places in
    ap (λ x. record a { number = x }) same.0 ∙ ap (λ x. record b { output = x }) same.1
one_of_word g word.Assemble a b p q =
    let files = same_files a.text a.output b.text b.output _ p.places q.places in
    ap (λ x. record a { text = x }) files.0 ∙ ap (λ x. record b { output = x }) files.1

one_row : (g : Given) (c d : Command) → IsOfRow (row_of c) g → IsOfRow (row_of d) g
    → (row_of c).word ≡ (row_of d).word → c ≡ d
one_row g c d p q e =
    let w = command_word c in
    let a = of_word w c (word_is c) in
    let b = of_word w d (word_is c ∙ e) in
    a.1 ∙ ap (command w) (one_of_word g w a.0 b.0 (subst (λ x. IsOfRow (row_of x) g) a.1 p)
    (subst (λ x. IsOfRow (row_of x) g) b.1 q)) ∙ sym b.1

-- ---- what words ask for

-- the options of a command are those of its word
settings_by : (w : CommandWord) (a : Arguments w)
    → valued (row_of (command w a)).options ≡ offered (settings_of w)
settings_by word.Rewrite a = refl
settings_by other a = refl

word_settings : (w : CommandWord) (c : Command) → text_of w ≡ (row_of c).word
    → valued (row_of c).options ≡ offered (settings_of w)
word_settings w c e =
    let is = of_word w c e in
    ap (λ d. valued (row_of d).options) is.1 ∙ settings_by w is.0

-- a command that is asked for by a word and the words behind it
record IsBehind (w : CommandWord) (rest words : List (List ℕ)) (c : Command) : Type 0 where
  pub word_is : (row_of c).word ≡ text_of w
  pub asks : Asks words c
  pub is_cut : IsCut (settings_of w) rest asks.of_row.arguments

behind : (first : List ℕ) (rest words : List (List ℕ)) (w : CommandWord) (c : Command)
    → words ≡ first ∷ rest → text_of w ≡ first → Asks words c → IsBehind w rest words c
behind first rest words w c e f h =
    let word = same_head _ _ _ _ (sym h.of_row.words_are ∙ e) ∙ sym f in
    record {
      word_is = word;
      asks = h;
      is_cut = row_cut (row_of c) (settings_of w) first rest words
          (word_settings w c (sym word)) e h.of_row;
    }

completed : (w : CommandWord) (rest words : List (List ℕ)) (c : Command) (m : ArgMatches)
    → Reads (settings_of w) rest m → IsBehind w rest words c → Completes (text_of w) (given_by m) c
completed w rest words c m r h =
    let xs = h.asks.of_row.arguments in
    let same = same_cut (settings_of w) rest r.arguments xs r.is_cut h.is_cut in
    record {
      word_is = h.word_is;
      of_row = row_given (row_of c) (settings_of w) words (given_by m)
          (word_settings w c (sym h.word_is)) h.asks.of_row
          (λ x. r.gives x ∙ ap (words_for x) same);
      fits = h.asks.fits;
    }

asked : (first : List ℕ) (rest words : List (List ℕ)) (w : CommandWord) (c : Command)
    (m : ArgMatches) → words ≡ first ∷ rest → text_of w ≡ first → Reads (settings_of w) rest m
    → Completes (text_of w) (given_by m) c → Asks words c
asked first rest words w c m e f r h = record {
  of_row = row_back (row_of c) (settings_of w) first rest words m
      (word_settings w c (sym h.word_is)) e (h.word_is ∙ f) r h.of_row;
  fits = h.fits;
}

pub only_one : (words : List (List ℕ)) (c d : Command) → Asks words c → Asks words d → c ≡ d
unfolding behind
only_one words c d p q =
    let w = command_word c in
    let first = (row_of c).word in
    let e = p.of_row.words_are in
    let b = behind first _ words w c e (word_is c) p in
    let k = behind first _ words w d e (word_is c) q in
    let xs = p.of_row.arguments in
    let same = same_cut (settings_of w) _ xs q.of_row.arguments b.is_cut k.is_cut in
    one_row (given_of xs) c d
    (row_given (row_of c) (settings_of w) words (given_of xs) (word_settings w c (word_is c))
    p.of_row (gives xs)) (row_given (row_of d) (settings_of w) words (given_of xs)
    (word_settings w d (sym k.word_is)) q.of_row (λ x. gives xs x ∙ ap (words_for x) same))
    (sym (k.word_is ∙ word_is c))

pub answers : (first : List ℕ) (rest words : List (List ℕ)) (w : CommandWord) (m : ArgMatches)
    (r : Option OfCode) → words ≡ first ∷ rest → text_of w ≡ first → Reads (settings_of w) rest m
    → MatchOption r ((c : Command) → Completes (text_of w) (given_by m) c → ⊥)
    (λ c. Completes (text_of w) (given_by m) (meaning_of c))
    → MatchOption r ((c : Command) → Asks words c → ⊥) (λ c. Asks words (meaning_of c))
answers first rest words w m None e f reads h = λ c k.
    h c (completed w rest words c m reads (behind first rest words w c e f k))
answers first rest words w m (Some x) e f reads h =
    asked first rest words w (meaning_of x) m e f reads h

pub answers_none : (first : List ℕ) (rest words : List (List ℕ)) (w : CommandWord)
    → words ≡ first ∷ rest → text_of w ≡ first
    → ((arguments : List Argument) → IsCut (settings_of w) rest arguments → ⊥)
    → (c : Command) → Asks words c → ⊥
unfolding behind
answers_none first rest words w e f none c h =
    let b = behind first rest words w c e f h in none h.of_row.arguments b.is_cut
