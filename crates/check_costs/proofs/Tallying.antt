-- What words count that are executed: with one more, and in all.
use Rattle.std.proofs.Common.{◌≡◌, ℕ, zero, suc, ◌+◌, ◌<◌, ◌≤◌, Bool, true, false, cond, eqb, List, [], ◌∷◌, ◌++◌, map, length, replicate, set, get_or, refl, sym, ap, ◌∙◌, subst, arith, inl, inr, append-nil}
use Rattle.std.specs.List.{sum_by, range_with_len}
use Rattle.std.proofs.lemmas.Bool.Decides.{eqb_tells}
use Rattle.std.proofs.lemmas.List.{length-map, length-set, get_or-set_same, get_or-set_other, map-append, same_lists}
use Rattle.std.proofs.lemmas.List.Elements.{filter-append}
use Rattle.std.proofs.lemmas.List.FromFn.{get_or-map-range_with_len, length-map-range_with_len}
use Rattle.std.proofs.lemmas.List.Sums.{sum_by-append, sum_by-cons}
use Rattle.check_costs.specs.declared.counts.WordCounts.{WordCounts}
use Rattle.check_costs.specs.Counts.{counts_by, plus, by_kind}
use Rattle.check_costs.specs.Tally.{Executed, executed_in, steps_in, kinds_executed, tally_in, tally_of, AreTotals, AreWithin}
use Rattle.check_costs.proofs.Adding.{plus_is}
use Rattle.check_costs.proofs.Totals.{one_there, sums_add, sums_same, total_from, sum_of_map, all_by_kind}

-- what one word counts
abbrev pub count_of : Executed → WordCounts
count_of w = counts_by (cond w.commits 1 0) (w.label.kind ∷ [])

-- 1. Words more, of one function

module _ (words more : List Executed) (m : ℕ) (mine : (f : ℕ) → eqb m f ≡ true → executed_in f more ≡ more)
    (others : (f : ℕ) → eqb m f ≡ false → executed_in f more ≡ []) where
  more_in : (f : ℕ) → eqb m f ≡ true → executed_in f (words ++ more) ≡ executed_in f words ++ more
  more_in f is =
      filter-append (λ (x : Executed). eqb x.label.function f) words more
      ∙ ap (λ ys. executed_in f words ++ ys) (mine f is)

  more_out : (f : ℕ) → eqb m f ≡ false → executed_in f (words ++ more) ≡ executed_in f words
  more_out f is =
      filter-append (λ (x : Executed). eqb x.label.function f) words more
      ∙ ap (λ ys. executed_in f words ++ ys) (others f is)
      ∙ append-nil (executed_in f words)

  with_more : (f : ℕ) → eqb m f ≡ true
      → tally_in (words ++ more) f ≡ plus (tally_in words f) (counts_by (steps_in more) (kinds_executed more))
  with_more f is =
      let old = executed_in f words in
      (λ j. counts_by (steps_in (more_in f is j)) (kinds_executed (more_in f is j)))
      ∙ (λ j. counts_by (sum_by-append (λ (x : Executed). cond x.commits 1 0) old more j)
      (map-append (λ (x : Executed). x.label.kind) old more j))
      ∙ sym (plus_is (steps_in old) (steps_in more) (kinds_executed old) (kinds_executed more))

  without : (f : ℕ) → eqb m f ≡ false → tally_in (words ++ more) f ≡ tally_in words f
  without f is = λ j. counts_by (steps_in (more_out f is j)) (kinds_executed (more_out f is j))

  pub more_tallied : (n : ℕ) (old : List WordCounts) (here sum : WordCounts) → old ≡ tally_of n words
      → m < length old → here ≡ get_or old m here
      → sum ≡ plus here (counts_by (steps_in more) (kinds_executed more)) → set old m sum ≡ tally_of n (words ++ more)
  more_tallied n old here sum is low at sum_is =
      let long = length-map-range_with_len (tally_in words) 0 (n + 1) in
      let longer = length-map-range_with_len (tally_in (words ++ more)) 0 (n + 1) in
      let same = ap length is in
      let kept = length-set old m sum in
      same_lists (set old m sum) (tally_of n (words ++ more))
      (omega (arith, long, longer, same, kept))
      (λ k d within. let low : k < n + 1 = omega (arith, within, kept, same, long) in
      at_one k d low ∙ sym (get_or-map-range_with_len (tally_in (words ++ more)) 0 (n + 1) k k d low (omega arith)))
    where
      was : (k : ℕ) (d : WordCounts) → k < n + 1 → get_or old k d ≡ tally_in words k
      was k d low = ap (λ xs. get_or xs k d) is
          ∙ get_or-map-range_with_len (tally_in words) 0 (n + 1) k k d low (omega arith)

      at_one : (k : ℕ) (d : WordCounts) → k < n + 1 → get_or (set old m sum) k d ≡ tally_in (words ++ more) k
      at_one k d high = elim (eqb_tells m k) [
        | inl there ↦
            let found : here ≡ tally_in words k =
            at ∙ ap (λ f. get_or old f here) there.1 ∙ was k here high in
            ap (λ f. get_or (set old m sum) f d) (sym there.1)
            ∙ get_or-set_same old m sum d low
            ∙ sum_is ∙ ap (λ c. plus c (counts_by (steps_in more) (kinds_executed more))) found
            ∙ sym (with_more k there.0)
        | inr apart ↦
            get_or-set_other old m k sum d (λ s. apart.1 (sym s))
            ∙ was k d high ∙ sym (without k apart.0)
      ]

pub one_tallied : (words : List Executed) (w : Executed) (n : ℕ) (old : List WordCounts) (here sum : WordCounts)
    → old ≡ tally_of n words → w.label.function < length old → here ≡ get_or old w.label.function here
    → sum ≡ plus here (count_of w) → set old w.label.function sum ≡ tally_of n (words ++ w ∷ [])
one_tallied words w n old here sum is low at sum_is =
    let one = sum_by-cons (λ (x : Executed). cond x.commits 1 0) w [] in
    let steps : cond w.commits 1 0 ≡ steps_in (w ∷ []) = omega (arith, one) in
    more_tallied words (w ∷ []) w.label.function (λ f there. ap (λ b. cond b (w ∷ []) []) there)
    (λ f apart. ap (λ b. cond b (w ∷ []) []) apart) n old here sum is low at
    (sum_is ∙ ap (λ k. plus here (counts_by k (w.label.kind ∷ []))) steps)

-- of no words
pub none_tallied : (n : ℕ) → replicate n (counts_by 0 []) ++ counts_by 0 [] ∷ [] ≡ tally_of n []
none_tallied n =
    let more : suc n ≡ n + 1 = omega arith in
    subst (λ k. replicate n (counts_by 0 []) ++ counts_by 0 [] ∷ [] ≡ map (tally_in []) (range_with_len 0 k)) more
    (each 0 n)
  where
    each : (a m : ℕ) → replicate m (counts_by 0 []) ++ counts_by 0 [] ∷ [] ≡ map (tally_in []) (range_with_len a (suc m))
    each a zero = refl
    each a (suc m) = ap (λ cs. counts_by 0 [] ∷ cs) (each (a + 1) m)

-- 2. All words

-- a number of each word, summed over all functions
all_words : (n : ℕ) (g : Executed → ℕ) (words : List Executed) → AreWithin n words
    → sum_by (λ f. sum_by g (executed_in f words)) (range_with_len 0 (n + 1)) ≡ sum_by g words
all_words n g [] within = zeros (range_with_len 0 (n + 1))
  where
    zeros : (xs : List ℕ) → sum_by (λ f. sum_by g (executed_in f [])) xs ≡ 0
    zeros [] = refl
    zeros (x ∷ xs) =
        let one = sum_by-cons (λ f. sum_by g (executed_in f [])) x xs in
        let rest = zeros xs in
        omega (arith, one, rest)
all_words n g (w ∷ ws) within =
    let m = w.label.function in
    let range = range_with_len 0 (n + 1) in
    let split = sums_same (λ f. sum_by g (executed_in f (w ∷ ws)))
    (λ f. cond (eqb m f) (g w) 0 + sum_by g (executed_in f ws)) range (λ f. by f (eqb m f) refl) in
    let both = sums_add (λ f. cond (eqb m f) (g w) 0) (λ f. sum_by g (executed_in f ws)) range in
    let below : m ≤ n = within 0 w (omega arith) in
    let one = one_there (g w) m (n + 1) 0 (omega arith) (omega (arith, below)) in
    let rest = all_words n g ws (λ k d low. within (suc k) d (omega (arith, low))) in
    let whole = sum_by-cons g w ws in
    omega (arith, split, both, one, rest, whole)
  where
    by : (f : ℕ) (b : Bool) → eqb w.label.function f ≡ b → sum_by g (executed_in f (w ∷ ws))
        ≡ cond (eqb w.label.function f) (g w) 0 + sum_by g (executed_in f ws)
    by f true is =
        ap (λ b. sum_by g (cond b (w ∷ executed_in f ws) (executed_in f ws))) is
        ∙ sum_by-cons g w (executed_in f ws)
        ∙ ap (λ b. cond b (g w) 0 + sum_by g (executed_in f ws)) (sym is)
    by f false is =
        let one : sum_by g (executed_in f (w ∷ ws)) ≡ sum_by g (executed_in f ws) =
        ap (λ b. sum_by g (cond b (w ∷ executed_in f ws) (executed_in f ws))) is in
        let here : cond (eqb w.label.function f) (g w) 0 ≡ 0 = ap (λ b. cond b (g w) 0) is in
        omega (arith, one, here)

ones : (words : List Executed) → length words ≡ sum_by (λ (w : Executed). 1) words
ones [] = refl
ones (w ∷ ws) =
    let one = sum_by-cons (λ (x : Executed). 1) w ws in
    let rest = ones ws in
    omega (arith, one, rest)

pub totals_are : (n : ℕ) (words : List Executed) → AreWithin n words → AreTotals words (tally_of n words)
totals_are n words within = record {
  words_are =
      let range = range_with_len 0 (n + 1) in
      let first = total_from (λ c. c.words) (λ c d. refl) (counts_by 0 []) (tally_of n words) in
      let second = sum_of_map (λ c. c.words) (tally_in words) range in
      let each = sums_same (λ f. (tally_in words f).words) (λ f. sum_by (λ (w : Executed). 1) (executed_in f words)) range
      (λ f. length-map (executed_in f words) (λ (w : Executed). w.label.kind) ∙ ones (executed_in f words)) in
      let all = all_words n (λ w. 1) words within in
      let long = ones words in
      omega (arith, first, second, each, all, long);
  steps_are =
      let first = total_from (λ c. c.instructions) (λ c d. refl) (counts_by 0 []) (tally_of n words) in
      let second = sum_of_map (λ c. c.instructions) (tally_in words) (range_with_len 0 (n + 1)) in
      let all = all_words n (λ w. cond w.commits 1 0) words within in
      omega (arith, first, second, all);
  kinds_are = λ k d low.
      let long = length-map-range_with_len (tally_in words) 0 (n + 1) in
      let here : k < n + 1 = omega (arith, low, long) in
      let is = get_or-map-range_with_len (tally_in words) 0 (n + 1) k k d here (omega arith) in
      subst (λ c. by_kind c ≡ c.words) (sym is) (all_by_kind (kinds_executed (executed_in k words)));
}
