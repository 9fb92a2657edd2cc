-- What is given says of `time` one thing, and its costs.
use Rattle.std.proofs.Common.{◌≡◌, ℕ, ◌<◌, ◌≤◌, Bool, MatchOption, List, [], ◌∷◌, length, Option, Some, None, refl, sym, ap, ◌∙◌, subst, arith}
use Rattle.std.specs.Prelude.{IsTrue}
use Rattle.run_limits.specs.Ranges.{IsNodeCount}
use Rattle.command_line.specs.declared.table.Kind.TheVariants as kind
use Rattle.command_line.specs.declared.table.Setting.{Setting}
use Rattle.command_line.specs.declared.table.Setting.TheVariants.{Nodes, Budget, Layout, Verify, NoBatch, Latency, Line, Handling}
use Rattle.command_line.specs.Tasks.{Number, is_alone}
use Rattle.command_line.specs.Asks.{IsSaid}
use Rattle.command_line.specs.Table.{kind_of, name_of}
use Rattle.command_line.specs.Views.{TimeArguments, Speedup, Time, time_options, view_row}
use Rattle.command_line.specs.Reading.{AreGiven, IsNumberOf, IsOfRow, SaysFlag, SaysMost, SaysName, SaysNumber}
use Rattle.command_line.proofs.Rows.{flag_one, names_one, number_one, same_file, same_files, says_one, set_by}

abbrev Given : Type 0
Given = List ℕ → List (List ℕ)

-- a number that is said is no higher than its kind has it
set_low : (low high default n : ℕ) (values : List (List ℕ)) → default ≤ high
    → IsNumberOf (kind.Number low high default) values n → n ≤ high
set_low low high default n [] fits h = omega (arith, h, fits)
set_low low high default n (w ∷ []) fits h = h.below
set_low low high default n (w ∷ x ∷ more) fits h = absurd h

pub says_low : (g : Given) (s : Setting) (low high default n : ℕ) → default ≤ high
    → kind_of s ≡ kind.Number low high default → SaysNumber g s n → n ≤ high
says_low g s low high default n fits is h =
    set_low low high default n (g (name_of s)) fits
    (set_by g s (g (name_of s)) (kind.Number low high default) n refl is h)

-- what is given beside a verified file is what the view has there
pub view_alone : (g : Given) (v v' : Option (List ℕ)) (b b' : Bool) → SaysName g Verify v
    → SaysName g Verify v' → SaysFlag g NoBatch b → SaysFlag g NoBatch b'
    → IsTrue (is_alone v None b) → IsTrue (is_alone v' None b')
view_alone g v v' b b' verified verified' batch batch' alone =
    subst (λ x. IsTrue (is_alone x None b')) (names_one g Verify v v' verified verified')
    (subst (λ x. IsTrue (is_alone v None x)) (flag_one g NoBatch b b' batch batch') alone)

abbrev of : (file : List ℕ) (nodes budget : ℕ) (verified layout : Option (List ℕ)) (no_batch : Bool)
    (latency line handling : ℕ) → TimeArguments
of file nodes budget verified layout no_batch latency line handling = record {
  file = file;
  nodes = nodes;
  budget = budget;
  verified = verified;
  layout = layout;
  no_batch = no_batch;
  latency = latency;
  line = line;
  handling = handling;
}

-- beside its file and its nodes
pub same_time : (g : Given) (a b : TimeArguments) → a.file ≡ b.file → a.nodes ≡ b.nodes
    → AreGiven (time_options a) g → AreGiven (time_options b) g → a ≡ b
same_time g a b file nodes p q =
    let budget = says_one g Budget a.budget b.budget p.0 q.0 in
    let verified = names_one g Verify a.verified b.verified p.1.0 q.1.0 in
    let layout = names_one g Layout a.layout b.layout p.1.1.0 q.1.1.0 in
    let batch = flag_one g NoBatch a.no_batch b.no_batch p.1.1.1.0 q.1.1.1.0 in
    let latency = says_one g Latency a.latency b.latency p.1.1.1.1.0 q.1.1.1.1.0 in
    let line = says_one g Line a.line b.line p.1.1.1.1.1.0 q.1.1.1.1.1.0 in
    let handling = says_one g Handling a.handling b.handling p.1.1.1.1.1.1.0 q.1.1.1.1.1.1.0 in
    ap (λ x. of x a.nodes a.budget a.verified a.layout a.no_batch a.latency a.line a.handling) file
    ∙ ap (λ x. of b.file x a.budget a.verified a.layout a.no_batch a.latency a.line a.handling) nodes
    ∙ ap (λ x. of b.file b.nodes x a.verified a.layout a.no_batch a.latency a.line a.handling) budget
    ∙ ap (λ x. of b.file b.nodes b.budget x a.layout a.no_batch a.latency a.line a.handling) verified
    ∙ ap (λ x. of b.file b.nodes b.budget b.verified x a.no_batch a.latency a.line a.handling) layout
    ∙ ap (λ x. of b.file b.nodes b.budget b.verified b.layout x a.latency a.line a.handling) batch
    ∙ ap (λ x. of b.file b.nodes b.budget b.verified b.layout b.no_batch x a.line a.handling) latency
    ∙ ap (λ x. of b.file b.nodes b.budget b.verified b.layout b.no_batch b.latency x a.handling) line
    ∙ ap (λ x. of b.file b.nodes b.budget b.verified b.layout b.no_batch b.latency b.line x) handling

pub one_time : (g : Given) (a b : TimeArguments) → IsOfRow (view_row (Time a)) g
    → IsOfRow (view_row (Time b)) g → a ≡ b
one_time g a b p q =
    same_time g a b (same_file a.file b.file _ p.places q.places)
    (says_one g Nodes a.nodes b.nodes p.options.0 q.options.0) p.options.1 q.options.1

-- what is given of the most nodes is what is given of nodes, where it is given
most_says : (g : Given) (word : List ℕ) (n : ℕ) → g (name_of Nodes) ≡ word ∷ []
    → SaysNumber g Nodes n → SaysMost g n
most_says g word n e h =
    subst (IsSaid (Number 1 16 16 n)) (sym e) (subst (IsSaid (Number 1 16 1 n)) e h)

says_most : (g : Given) (word : List ℕ) (n : ℕ) → g (name_of Nodes) ≡ word ∷ []
    → SaysMost g n → SaysNumber g Nodes n
says_most g word n e h =
    subst (IsSaid (Number 1 16 1 n)) (sym e) (subst (IsSaid (Number 1 16 16 n)) e h)

pub most_one : (g : Given) (word : List ℕ) (r : Option ℕ) → g (name_of Nodes) ≡ word ∷ []
    → MatchOption r ((n : ℕ) → SaysNumber g Nodes n → ⊥) (λ n. SaysNumber g Nodes n)
    → MatchOption r ((n : ℕ) → SaysMost g n → ⊥) (λ n. SaysMost g n)
most_one g word None e h = λ n k. h n (says_most g word n e k)
most_one g word (Some n) e h = most_says g word n e h

-- and else 16
pub most_sixteen : (g : Given) (r : Option ℕ) → g (name_of Nodes) ≡ []
    → MatchOption r (IsNodeCount 16 → ⊥) (λ n. (n ≡ 16) × IsNodeCount 16)
    → MatchOption r ((n : ℕ) → SaysMost g n → ⊥) (λ n. SaysMost g n)
most_sixteen g None e h = absurd (h (omega arith, omega arith))
most_sixteen g (Some n) e h = subst (IsSaid (Number 1 16 16 n)) (sym e) h.0

few_most : (values : List (List ℕ)) (n : ℕ) → 1 < length values
    → IsSaid (Number 1 16 16 n) values → ⊥
few_most [] n lt h = omega (arith, lt)
few_most (x ∷ []) n lt h = omega (arith, lt)
few_most (x ∷ y ∷ more) n lt h = h

pub most_few : (g : Given) (n : ℕ) → 1 < length (g (name_of Nodes)) → SaysMost g n → ⊥
most_few g n lt h = few_most (g (name_of Nodes)) n lt h

-- what is given says of `speedup` one thing
pub one_speedup : (g : Given) (a b : TimeArguments) (x y : List ℕ)
    → IsOfRow (view_row (Speedup a x)) g → IsOfRow (view_row (Speedup b y)) g → (a ≡ b) × (x ≡ y)
one_speedup g a b x y p q =
    let files = same_files a.file x b.file y _ p.places q.places in
    let nodes = number_one (kind.Number 1 16 16) (g (name_of Nodes)) a.nodes b.nodes p.options.0
    q.options.0 in
    (same_time g a b files.0 nodes p.options.1 q.options.1, files.1)
