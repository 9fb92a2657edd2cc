-- The sums over all functions.
use Rattle.std.proofs.Common.{◌≡◌, ℕ, zero, suc, ◌+◌, ◌<◌, ◌≤◌, Bool, true, false, cond, eqb, List, [], ◌∷◌, ◌++◌, map, length, Option, refl, sym, ap, ◌∙◌, subst, arith, inl, inr}
use Rattle.std.specs.Prelude.{All}
use Rattle.std.specs.List.{count_by, sum_by, flat_map, fold, range_with_len}
use Rattle.std.proofs.lemmas.Bool.Decides.{eqb_tells}
use Rattle.std.proofs.lemmas.List.{length-append, length-map}
use Rattle.std.proofs.lemmas.List.Concat.{length-flat_map}
use Rattle.std.proofs.lemmas.List.FromFn.{get_or-map-range_with_len, length-map-range_with_len}
use Rattle.std.proofs.lemmas.List.Sums.{sum_by-cons}
use Rattle.rv32_decode.specs.declared.Instr.{Instr}
use Rattle.rv32_program.specs.Program.{Program}
use Rattle.templates.specs.declared.places.Part.{Part}
use Rattle.templates.specs.declared.places.Part.TheVariants.{Single, Head, Fast, Fallback}
use Rattle.templates.specs.declared.plans.PlanEntry.{PlanEntry}
use Rattle.templates.specs.declared.code.CodeWord.{CodeWord}
use Rattle.templates.specs.Code.{HasCode, Ascends, code_of}
use Rattle.templates.specs.Sequences.{SequenceItem, items_in}
use Rattle.jump_map.specs.Image.{Cell, PlacedItem, IsExpansion, IsRewriting, read_cell, placed_items, part_of_entry, entry_items, address_in, plan_items, words_at, head_of, address_of_word}
use Rattle.elf_symbols.specs.Symbols.{Symbol}
use Rattle.check_costs.specs.declared.kinds.WordKind.{WordKind}
use Rattle.check_costs.specs.declared.kinds.WordKind.TheVariants.{Own, FlagCheck, StateCheck, StoreCheck, Batch, Poll, Jump, Spill}
use Rattle.check_costs.specs.declared.counts.WordCounts.{WordCounts}
use Rattle.check_costs.specs.Kinds.{kind_of, kinds_in, kinds_of}
use Rattle.check_costs.specs.Counts.{AreSums, is_kind, times, by_kind, plus, counts_by, total, function_of, entries_in, kinds_before, has_code, counts_in, counts_of}
use Rattle.check_costs.proofs.Numbering.{function_below}
use Rattle.check_costs.proofs.Instructions.{instructions_are}

-- 1. A sum over all functions of what is in each

none_there : (w n k a : ℕ) → n < a → sum_by (λ f. cond (eqb n f) w 0) (range_with_len a k) ≡ 0
none_there w n zero a low = refl
none_there w n (suc k) a low =
    let one = sum_by-cons (λ f. cond (eqb n f) w 0) a (range_with_len (a + 1) k) in
    let rest = none_there w n k (a + 1) (omega (arith, low)) in
    let here : cond (eqb n a) w 0 ≡ 0 = ap (λ b. cond b w 0) apart in
    omega (arith, one, rest, here)
  where
    apart : eqb n a ≡ false
    apart = elim (eqb_tells n a) [
      | inl same ↦ let e = same.1 in absurd (omega (arith, e, low))
      | inr other ↦ other.0
    ]

pub one_there : (w n k a : ℕ) → a ≤ n → n < a + k → sum_by (λ f. cond (eqb n f) w 0) (range_with_len a k) ≡ w
one_there w n zero a low high = absurd (omega (arith, low, high))
one_there w n (suc k) a low high = elim (eqb_tells n a) [
  | inl same ↦
      let e = same.1 in
      let rest = none_there w n k (a + 1) (omega (arith, e)) in
      let one = sum_by-cons (λ f. cond (eqb n f) w 0) a (range_with_len (a + 1) k) in
      let here : cond (eqb n a) w 0 ≡ w = ap (λ b. cond b w 0) same.0 in
      omega (arith, one, rest, here)
  | inr other ↦
      let e = other.1 in
      let one = sum_by-cons (λ f. cond (eqb n f) w 0) a (range_with_len (a + 1) k) in
      let rest = one_there w n k (a + 1) (omega (arith, low, e)) (omega (arith, high)) in
      let here : cond (eqb n a) w 0 ≡ 0 = ap (λ b. cond b w 0) other.0 in
      omega (arith, one, rest, here)
]

pub sums_add : (f g : ℕ → ℕ) (xs : List ℕ) → sum_by (λ x. f x + g x) xs ≡ sum_by f xs + sum_by g xs
sums_add f g [] = refl
sums_add f g (x ∷ xs) =
    let one = sum_by-cons (λ y. f y + g y) x xs in
    let two = sum_by-cons f x xs in
    let three = sum_by-cons g x xs in
    let rest = sums_add f g xs in
    omega (arith, one, two, three, rest)

pub sums_same : (f g : ℕ → ℕ) (xs : List ℕ) → ((x : ℕ) → f x ≡ g x) → sum_by f xs ≡ sum_by g xs
sums_same f g [] same = refl
sums_same f g (x ∷ xs) same =
    let one = sum_by-cons f x xs in
    let two = sum_by-cons g x xs in
    let here = same x in
    let rest = sums_same f g xs same in
    omega (arith, one, two, here, rest)

-- whatever is counted of entries
pub all_functions : (symbols : List Symbol) (w : PlanEntry → ℕ) (plan : List PlanEntry)
    → sum_by (λ f. sum_by w (entries_in symbols f plan)) (range_with_len 0 (length symbols + 1)) ≡ sum_by w plan
all_functions symbols w [] = zeros (range_with_len 0 (length symbols + 1))
  where
    zeros : (xs : List ℕ) → sum_by (λ f. sum_by w (entries_in symbols f [])) xs ≡ 0
    zeros [] = refl
    zeros (x ∷ xs) =
        let one = sum_by-cons (λ f. sum_by w (entries_in symbols f [])) x xs in
        let rest = zeros xs in
        omega (arith, one, rest)
all_functions symbols w (e ∷ es) =
    let n = function_of symbols e.address in
    let range = range_with_len 0 (length symbols + 1) in
    let split = sums_same (λ f. sum_by w (entries_in symbols f (e ∷ es)))
    (λ f. cond (eqb n f) (w e) 0 + sum_by w (entries_in symbols f es)) range (λ f. by f (eqb n f) refl) in
    let both = sums_add (λ f. cond (eqb n f) (w e) 0) (λ f. sum_by w (entries_in symbols f es)) range in
    let below = function_below symbols e.address n refl in
    let one = one_there (w e) n (length symbols + 1) 0 (omega arith) (omega (arith, below)) in
    let rest = all_functions symbols w es in
    let whole = sum_by-cons w e es in
    omega (arith, split, both, one, rest, whole)
  where
    by : (f : ℕ) (b : Bool) → eqb (function_of symbols e.address) f ≡ b
        → sum_by w (entries_in symbols f (e ∷ es))
        ≡ cond (eqb (function_of symbols e.address) f) (w e) 0 + sum_by w (entries_in symbols f es)
    by f true is =
        ap (λ b. sum_by w (cond b (e ∷ entries_in symbols f es) (entries_in symbols f es))) is
        ∙ sum_by-cons w e (entries_in symbols f es)
        ∙ ap (λ b. cond b (w e) 0 + sum_by w (entries_in symbols f es)) (sym is)
    by f false is =
        let one : sum_by w (entries_in symbols f (e ∷ es)) ≡ sum_by w (entries_in symbols f es) =
        ap (λ b. sum_by w (cond b (e ∷ entries_in symbols f es) (entries_in symbols f es))) is in
        let here : cond (eqb (function_of symbols e.address) f) (w e) 0 ≡ 0 = ap (λ b. cond b (w e) 0) is in
        omega (arith, one, here)

-- 2. The sums of the counts

pub total_from : (number : WordCounts → ℕ) → ((c d : WordCounts) → number (plus c d) ≡ number c + number d)
    → (c : WordCounts) (cs : List WordCounts) → number (fold plus c cs) ≡ number c + sum_by number cs
total_from number adds c [] = omega arith
total_from number adds c (d ∷ ds) =
    let rest = total_from number adds (plus c d) ds in
    let one = adds c d in
    let more = sum_by-cons number d ds in
    omega (arith, rest, one, more)

pub sum_of_map : (number : WordCounts → ℕ) (f : ℕ → WordCounts) (xs : List ℕ)
    → sum_by number (map f xs) ≡ sum_by (λ x. number (f x)) xs
sum_of_map number f [] = refl
sum_of_map number f (x ∷ xs) =
    sum_by-cons number (f x) (map f xs) ∙ ap (λ n. number (f x) + n) (sum_of_map number f xs)
    ∙ sym (sum_by-cons (λ y. number (f y)) x xs)

pub total_instructions : (symbols : List Symbol) (code : ℕ → Option Instr) (plan : List PlanEntry)
    → (total (counts_of symbols code plan)).instructions ≡ count_by (has_code code) plan
total_instructions symbols code plan =
    let first = total_from (λ c. c.instructions) (λ c d. refl) (counts_by 0 []) (counts_of symbols code plan) in
    let second = sum_of_map (λ c. c.instructions) (counts_in symbols code plan)
    (range_with_len 0 (length symbols + 1)) in
    let all = all_functions symbols (λ e. cond (has_code code e) 1 0) plan in
    omega (arith, first, second, all)

pub total_words : (symbols : List Symbol) (code : ℕ → Option Instr) (plan : List PlanEntry)
    → (total (counts_of symbols code plan)).words ≡ 1 + sum_by (λ e. length (kinds_of code e)) plan
total_words symbols code plan =
    let n = length symbols in
    let range = range_with_len 0 (n + 1) in
    let w : PlanEntry → ℕ = λ e. length (kinds_of code e) in
    let first = total_from (λ c. c.words) (λ c d. refl) (counts_by 0 []) (counts_of symbols code plan) in
    let second = sum_of_map (λ c. c.words) (counts_in symbols code plan) range in
    let split = sums_same (λ f. (counts_in symbols code plan f).words)
    (λ f. cond (eqb n f) 1 0 + sum_by w (entries_in symbols f plan)) range
    (λ f. length-append (kinds_before symbols f) (flat_map (kinds_of code) (entries_in symbols f plan))
    ∙ (λ j. before f (eqb f n) refl j + length-flat_map (kinds_of code) (entries_in symbols f plan) j)) in
    let both = sums_add (λ f. cond (eqb n f) 1 0) (λ f. sum_by w (entries_in symbols f plan)) range in
    let one = one_there 1 n (n + 1) 0 (omega arith) (omega arith) in
    let rest = all_functions symbols w plan in
    omega (arith, first, second, split, both, one, rest)
  where
    swap : (f n : ℕ) → eqb f n ≡ eqb n f
    swap f n = elim (eqb_tells f n) [
      | inl same ↦ (λ j. eqb (same.1 j) (sym same.1 j))
      | inr other ↦ other.0 ∙ elim (eqb_tells n f) [
        | inl same ↦ let e = same.1 in let bad = other.1 in absurd (bad (sym e))
        | inr apart ↦ sym apart.0
      ]
    ]

    before : (f : ℕ) (b : Bool) → eqb f (length symbols) ≡ b
        → length (kinds_before symbols f) ≡ cond (eqb (length symbols) f) 1 0
    before f true is =
        ap (λ b. length (cond b (Jump ∷ []) [])) is ∙ ap (λ b. cond b 1 0) (sym is ∙ swap f (length symbols))
    before f false is =
        ap (λ b. length (cond b (Jump ∷ []) [])) is ∙ ap (λ b. cond b 1 0) (sym is ∙ swap f (length symbols))

-- 3. The words of rewritten code

placed_length : (address : ℕ → ℕ) (part : Part) (k : ℕ) (items : List SequenceItem)
    → length (placed_items address part k items) ≡ length items
placed_length address part k [] = refl
placed_length address part k (i ∷ is) = let more = placed_length address part (k + 1) is in omega (arith, more)

part_length : (p : Program) (e : PlanEntry) (part : Part)
    → length (part_of_entry p e part) ≡ length (kinds_in p.code e part)
part_length p e part =
    placed_length (address_in e part) part 0 (items_in p.code e part)
    ∙ sym (length-map (items_in p.code e part) (kind_of e.template part))

entry_length : (p : Program) (e : PlanEntry) → length (entry_items p e) ≡ length (kinds_of p.code e)
entry_length p e =
    let a = length-append (part_of_entry p e Head)
    (part_of_entry p e Fast ++ (part_of_entry p e Fallback ++ part_of_entry p e Single)) in
    let b = length-append (part_of_entry p e Fast) (part_of_entry p e Fallback ++ part_of_entry p e Single) in
    let c = length-append (part_of_entry p e Fallback) (part_of_entry p e Single) in
    let d = length-append (kinds_in p.code e Head)
    (kinds_in p.code e Fast ++ (kinds_in p.code e Fallback ++ kinds_in p.code e Single)) in
    let f = length-append (kinds_in p.code e Fast) (kinds_in p.code e Fallback ++ kinds_in p.code e Single) in
    let g = length-append (kinds_in p.code e Fallback) (kinds_in p.code e Single) in
    let head = part_length p e Head in
    let fast = part_length p e Fast in
    let fallback = part_length p e Fallback in
    let single = part_length p e Single in
    omega (arith, a, b, c, d, f, g, head, fast, fallback, single)

plan_length : (p : Program) (plan : List PlanEntry)
    → length (plan_items p plan) ≡ sum_by (λ e. length (kinds_of p.code e)) plan
plan_length p [] = refl
plan_length p (e ∷ es) =
    let both = length-append (entry_items p e) (plan_items p es) in
    let one = entry_length p e in
    let rest = plan_length p es in
    let whole = sum_by-cons (λ x. length (kinds_of p.code x)) e es in
    omega (arith, both, one, rest, whole)

words_length : (head : ℕ → ℕ) (at : ℕ) (items : List PlacedItem) → length (words_at head at items) ≡ length items
words_length head at [] = refl
words_length head at (i ∷ is) = let more = words_length head (at + 4) is in omega (arith, more)

pub image_length : (p : Program) (plan : List PlanEntry) (image : List Cell) → IsExpansion p plan image
    → length image ≡ 1 + sum_by (λ e. length (kinds_of p.code e)) plan
image_length p plan image h =
    let all = ap length h.words in
    let cells = length-map image read_cell in
    let words = words_length (head_of p plan) (address_of_word 1) (plan_items p plan) in
    let items = plan_length p plan in
    omega (arith, all, cells, words, items)

-- 4. Each word is of one kind

pub all_by_kind : (ks : List WordKind) → by_kind (counts_by 0 ks) ≡ length ks
all_by_kind [] = refl
all_by_kind (k ∷ ks) =
    let rest = all_by_kind ks in
    one_kind k ks rest (one Own k ks) (one FlagCheck k ks) (one StateCheck k ks) (one StoreCheck k ks)
    (one Batch k ks) (one Poll k ks) (one Jump k ks) (one Spill k ks)
  where
    one : (q k : WordKind) (ks : List WordKind) → times q (k ∷ ks) ≡ cond (is_kind q k) 1 0 + times q ks
    one q k ks = sum_by-cons (λ x. cond (is_kind q x) 1 0) k ks

    one_kind : (k : WordKind) (ks : List WordKind) → by_kind (counts_by 0 ks) ≡ length ks
        → times Own (k ∷ ks) ≡ cond (is_kind Own k) 1 0 + times Own ks
        → times FlagCheck (k ∷ ks) ≡ cond (is_kind FlagCheck k) 1 0 + times FlagCheck ks
        → times StateCheck (k ∷ ks) ≡ cond (is_kind StateCheck k) 1 0 + times StateCheck ks
        → times StoreCheck (k ∷ ks) ≡ cond (is_kind StoreCheck k) 1 0 + times StoreCheck ks
        → times Batch (k ∷ ks) ≡ cond (is_kind Batch k) 1 0 + times Batch ks
        → times Poll (k ∷ ks) ≡ cond (is_kind Poll k) 1 0 + times Poll ks
        → times Jump (k ∷ ks) ≡ cond (is_kind Jump k) 1 0 + times Jump ks
        → times Spill (k ∷ ks) ≡ cond (is_kind Spill k) 1 0 + times Spill ks
        → by_kind (counts_by 0 (k ∷ ks)) ≡ length (k ∷ ks)
    one_kind Own ks r a b c d e f g h = omega (arith, r, a, b, c, d, e, f, g, h)
    one_kind FlagCheck ks r a b c d e f g h = omega (arith, r, a, b, c, d, e, f, g, h)
    one_kind StateCheck ks r a b c d e f g h = omega (arith, r, a, b, c, d, e, f, g, h)
    one_kind StoreCheck ks r a b c d e f g h = omega (arith, r, a, b, c, d, e, f, g, h)
    one_kind Batch ks r a b c d e f g h = omega (arith, r, a, b, c, d, e, f, g, h)
    one_kind Poll ks r a b c d e f g h = omega (arith, r, a, b, c, d, e, f, g, h)
    one_kind Jump ks r a b c d e f g h = omega (arith, r, a, b, c, d, e, f, g, h)
    one_kind Spill ks r a b c d e f g h = omega (arith, r, a, b, c, d, e, f, g, h)

-- 5. What the sums are

pub sums_are : (program : Program) (symbols : List Symbol) (plan : List PlanEntry) (words : List CodeWord)
    (image : List Cell) → HasCode program words → Ascends 0 words → IsRewriting program plan image
    → AreSums words image (counts_of symbols (code_of words) plan)
sums_are program symbols plan words image same ascends rewriting = record {
  words =
      let mine = total_words symbols (code_of words) plan in
      let theirs = image_length program plan image rewriting.expansion in
      let equal = ap (λ (c : ℕ → Option Instr). sum_by (λ e. length (kinds_of c e)) plan) same in
      omega (arith, mine, theirs, equal);
  instructions = total_instructions symbols (code_of words) plan
      ∙ instructions_are program plan words same rewriting.admissible ascends;
}

pub kinds_are : (symbols : List Symbol) (code : ℕ → Option Instr) (plan : List PlanEntry)
    → All (λ c. by_kind c ≡ c.words) (counts_of symbols code plan)
kinds_are symbols code plan = λ k d within.
    let n = length symbols + 1 in
    let long = length-map-range_with_len (counts_in symbols code plan) 0 n in
    let low : k < n = omega (arith, within, long) in
    let is = get_or-map-range_with_len (counts_in symbols code plan) 0 n k k d low (omega arith) in
    subst (λ c. by_kind c ≡ c.words) (sym is)
    (all_by_kind (kinds_before symbols k ++ flat_map (kinds_of code) (entries_in symbols k plan)))
