-- Words that count alike.
use Rattle.std.proofs.Common.{◌≡◌, ℕ, zero, suc, ◌+◌, ◌*◌, ◌<◌, Bool, true, false, cond, ◌&&◌, eqb, List, [], ◌∷◌, ◌++◌, map, length, replicate, set, get_or, refl, sym, ap, ◌∙◌, arith}
use Rattle.std.specs.List.{count_by, filter, range_with_len}
use Rattle.std.proofs.lemmas.List.{length-map}
use Rattle.std.proofs.lemmas.List.Folds.{sum_by-replicate}
use Rattle.std.proofs.lemmas.List.Sums.{length-filter, sum_by-cons}
use Rattle.check_costs.specs.declared.kinds.WordKind.{WordKind}
use Rattle.check_costs.specs.declared.kinds.WordKind.TheVariants.{Own, FlagCheck, StateCheck, StoreCheck, Batch, Poll, Jump, Spill}
use Rattle.check_costs.specs.declared.counts.WordCounts.{WordCounts}
use Rattle.check_costs.specs.Counts.{counts_by, is_kind, plus, times}
use Rattle.check_costs.specs.Tally.{Executed, executed_in, kinds_executed, tally_in, tally_of}
use Rattle.check_costs.proofs.Tallying.{more_tallied}

-- 1. So many words of one label

-- how many of the same pass a test
count_same : {X : Type 0} (p : X → Bool) (n : ℕ) (x : X) → count_by p (replicate n x) ≡ cond (p x) n 0
count_same p n x = by (p x) refl
  where
    by : (b : Bool) → p x ≡ b → count_by p (replicate n x) ≡ cond (p x) n 0
    by true is =
        let all = sum_by-replicate (λ y. cond (p y) 1 0) n x in
        let each : n * cond (p x) 1 0 ≡ n * 1 = ap (λ b. n * cond b 1 0) is in
        let whole : cond (p x) n 0 ≡ n = ap (λ b. cond b n 0) is in
        omega (arith, all, each, whole)
    by false is =
        let all = sum_by-replicate (λ y. cond (p y) 1 0) n x in
        let each : n * cond (p x) 1 0 ≡ n * 0 = ap (λ b. n * cond b 1 0) is in
        let whole : cond (p x) n 0 ≡ 0 = ap (λ b. cond b n 0) is in
        omega (arith, all, each, whole)

pub times_same : (other kind : WordKind) (n : ℕ) → times other (replicate n kind) ≡ cond (is_kind other kind) n 0
times_same other kind n = count_same (is_kind other) n kind

same_in : (w : Executed) (n f : ℕ) → eqb w.label.function f ≡ true → executed_in f (replicate n w) ≡ replicate n w
same_in w zero f is = refl
same_in w (suc n) f is =
    ap (λ b. cond b (w ∷ executed_in f (replicate n w)) (executed_in f (replicate n w))) is
    ∙ ap (λ ws. w ∷ ws) (same_in w n f is)

same_out : (w : Executed) (n f : ℕ) → eqb w.label.function f ≡ false → executed_in f (replicate n w) ≡ []
same_out w zero f is = refl
same_out w (suc n) f is =
    ap (λ b. cond b (w ∷ executed_in f (replicate n w)) (executed_in f (replicate n w))) is
    ∙ same_out w n f is

same_kinds : (w : Executed) (n : ℕ) → kinds_executed (replicate n w) ≡ replicate n w.label.kind
same_kinds w zero = refl
same_kinds w (suc n) = ap (λ ks. w.label.kind ∷ ks) (same_kinds w n)

pub words_tallied : (words : List Executed) (w : Executed) (k n : ℕ) (old : List WordCounts) (here sum : WordCounts)
    → old ≡ tally_of n words → w.label.function < length old → here ≡ get_or old w.label.function here
    → sum ≡ plus here (counts_by (cond w.commits k 0) (replicate k w.label.kind))
    → set old w.label.function sum ≡ tally_of n (words ++ replicate k w)
words_tallied words w k n old here sum is low at sum_is =
    more_tallied words (replicate k w) w.label.function (same_in w k) (same_out w k) n old here sum is low at
    (sum_is ∙ (λ j. plus here (counts_by (sym (count_same (λ (x : Executed). x.commits) k w) j) (sym (same_kinds w k) j))))

-- 2. Words of which as many pass each test

in_filter : (q r : Executed → Bool) (xs : List Executed) → count_by r (filter q xs) ≡ count_by (λ w. q w && r w) xs
in_filter q r [] = refl
in_filter q r (x ∷ xs) = by (q x) refl (in_filter q r xs)
  where
    by : (b : Bool) → q x ≡ b → count_by r (filter q xs) ≡ count_by (λ w. q w && r w) xs
        → count_by r (filter q (x ∷ xs)) ≡ count_by (λ w. q w && r w) (x ∷ xs)
    by true is rest =
        let kept = ap (λ b. count_by r (cond b (x ∷ filter q xs) (filter q xs))) is in
        let here = sum_by-cons (λ (w : Executed). cond (r w) 1 0) x (filter q xs) in
        let there = sum_by-cons (λ (w : Executed). cond (q w && r w) 1 0) x xs in
        let one : ℕ = 1 in
        let none : ℕ = 0 in
        let same : cond (q x && r x) one none ≡ cond (r x) one none = ap (λ b. cond (b && r x) one none) is in
        omega (arith, kept, here, there, same, rest)
    by false is rest =
        let kept = ap (λ b. count_by r (cond b (x ∷ filter q xs) (filter q xs))) is in
        let there = sum_by-cons (λ (w : Executed). cond (q w && r w) 1 0) x xs in
        let one : ℕ = 1 in
        let none : ℕ = 0 in
        let same : cond (q x && r x) one none ≡ none = ap (λ b. cond (b && r x) one none) is in
        omega (arith, kept, there, same, rest)

in_kinds : (k : WordKind) (xs : List Executed) → times k (kinds_executed xs) ≡ count_by (λ (w : Executed). is_kind k w.label.kind) xs
in_kinds k [] = refl
in_kinds k (x ∷ xs) =
    let here = sum_by-cons (λ (other : WordKind). cond (is_kind k other) 1 0) x.label.kind (kinds_executed xs) in
    let there = sum_by-cons (λ (w : Executed). cond (is_kind k w.label.kind) 1 0) x xs in
    let rest = in_kinds k xs in
    omega (arith, here, there, rest)

module _ (one other : List Executed) (same : (p : Executed → Bool) → count_by p one ≡ count_by p other) where
  same_passing : (f : ℕ) (r : Executed → Bool) → count_by r (executed_in f one) ≡ count_by r (executed_in f other)
  same_passing f r =
      in_filter (λ (w : Executed). eqb w.label.function f) r one
      ∙ same (λ (w : Executed). eqb w.label.function f && r w)
      ∙ sym (in_filter (λ (w : Executed). eqb w.label.function f) r other)

  same_length : (f : ℕ) → length (kinds_executed (executed_in f one)) ≡ length (kinds_executed (executed_in f other))
  same_length f =
      length-map (executed_in f one) (λ (w : Executed). w.label.kind)
      ∙ length-filter (λ (w : Executed). eqb w.label.function f) one
      ∙ same (λ (w : Executed). eqb w.label.function f)
      ∙ sym (length-filter (λ (w : Executed). eqb w.label.function f) other)
      ∙ sym (length-map (executed_in f other) (λ (w : Executed). w.label.kind))

  same_times : (f : ℕ) (k : WordKind)
      → times k (kinds_executed (executed_in f one)) ≡ times k (kinds_executed (executed_in f other))
  same_times f k =
      in_kinds k (executed_in f one) ∙ same_passing f (λ (w : Executed). is_kind k w.label.kind)
      ∙ sym (in_kinds k (executed_in f other))

  same_function : (f : ℕ) → tally_in one f ≡ tally_in other f
  same_function f = λ j. record {
    instructions = same_passing f (λ (w : Executed). w.commits) j;
    words = same_length f j;
    own = same_times f Own j;
    flag_checks = same_times f FlagCheck j;
    state_checks = same_times f StateCheck j;
    store_checks = same_times f StoreCheck j;
    batches = same_times f Batch j;
    polls = same_times f Poll j;
    jumps = same_times f Jump j;
    spills = same_times f Spill j;
  }

  pub same_tally : (n : ℕ) → tally_of n one ≡ tally_of n other
  same_tally n = λ j. map (λ f. same_function f j) (range_with_len 0 (n + 1))
