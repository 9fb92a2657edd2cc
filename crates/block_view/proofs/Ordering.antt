-- The order of blocks by what they cost.
use Rattle.std.proofs.Common.{◌≡◌, ℕ, ◌+◌, ◌-◌, ◌^◌, ◌<◌, ◌≤◌, Bool, true, false, cond, List, [], ◌∷◌, ◌++◌, length, sym, ap, ◌∙◌, subst, inl, inr, arith, slice_index_or}
use Rattle.std.specs.Prelude.{All}
use Rattle.std.specs.List.Sorted.{IsPermutation, IsNonDecreasingBy, IsSortedByKey}
use Rattle.std.specs.Ordering.{nat_cmp, is_lt}
use Rattle.std.specs.declared.cmp.Ordering.TheVariants.{Equal, Greater}
use Rattle.std.specs.Cmp.{nat_cmp_is}
use Rattle.std.proofs.lemmas.List.Sorted.{All-permutation}
use Rattle.std.proofs.lemmas.List.{length-append, append-nil, get_or_append_left}
use Rattle.std.proofs.lemmas.List.Elements.{All-append, All-cons, All-nil}
use Rattle.std.proofs.lemmas.Bool.Decides.{eqb_tells}
use Rattle.std.proofs.Math.Seq.{get_or-append_seam}
use Rattle.block_view.specs.declared.order.Ranked.{Ranked}
use Rattle.block_view.specs.Order.{IsOrder, AreUpTo}

pub ordered : (xs ys : List Ranked) → IsPermutation xs ys → All (λ r. r.cost < 2 ^ 64) xs
    → IsNonDecreasingBy (λ r. 2 ^ 64 - 1 - r.cost) ys
    → ((k : ℕ) (d : Ranked) → k + 1 < length ys
    → 2 ^ 64 - 1 - (slice_index_or ys k d).cost ≡ 2 ^ 64 - 1 - (slice_index_or ys (k + 1) d).cost
    → (slice_index_or ys k d).block ≤ (slice_index_or ys (k + 1) d).block) → IsOrder xs ys
ordered xs ys same fit rising ties = record {
  same = same;
  falling = λ k d within.
      let fits = All-permutation (λ r. r.cost < 2 ^ 64) xs ys same fit in
      let here = fits k d (omega (arith, within)) in
      let next = fits (k + 1) d within in
      let rise = rising k (k + 1) d (omega arith) within in
      omega (arith, here, next, rise);
  ties = λ k d within equal. ties k d within (ap (λ n. 2 ^ 64 - 1 - n) equal);
}

wider : (xs : List Ranked) (n : ℕ) → AreUpTo xs n → AreUpTo xs (n + 1)
wider xs n h = record {
  below = λ k d within. let low = h.below k d within in omega (arith, low);
  fit = h.fit;
  ascending = h.ascending;
}

pub one_more : (xs : List Ranked) (n cost : ℕ) → cost < 2 ^ 64 → (t : Bool) → AreUpTo xs n
    → AreUpTo (xs ++ cond t (record { block = n; cost = cost } ∷ []) []) (n + 1)
one_more xs n cost fits false h = subst (λ ys. AreUpTo ys (n + 1)) (sym (append-nil xs)) (wider xs n h)
one_more xs n cost fits true h =
    let y : Ranked = record { block = n; cost = cost } in
    let more = length-append xs (y ∷ []) in
    record {
      below = All-append (λ r. r.block < n + 1) xs (y ∷ []) (wider xs n h).below
          (All-cons (λ r. r.block < n + 1) y [] (omega arith) (All-nil (λ r. r.block < n + 1)));
      fit = All-append (λ r. r.cost < 2 ^ 64) xs (y ∷ []) h.fit
          (All-cons (λ r. r.cost < 2 ^ 64) y [] fits (All-nil (λ r. r.cost < 2 ^ 64)));
      ascending = λ k d within.
          let here = get_or_append_left xs (y ∷ []) d k (omega (arith, within, more)) in
          elim (eqb_tells (k + 1) (length xs)) [
            | inl same ↦
                let next = ap (λ j. slice_index_or (xs ++ y ∷ []) j d) same.1 ∙ get_or-append_seam xs y [] d in
                let low = h.below k d (omega (arith, same.1)) in
                let one = ap (λ (r : Ranked). r.block) here in
                let two = ap (λ (r : Ranked). r.block) next in
                omega (arith, one, two, low)
            | inr apart ↦
                let before : k + 1 < length xs = omega (arith, within, more, apart.1) in
                let next = get_or_append_left xs (y ∷ []) d (k + 1) before in
                let rise = h.ascending k d before in
                let one = ap (λ (r : Ranked). r.block) here in
                let two = ap (λ (r : Ranked). r.block) next in
                omega (arith, one, two, rise)
          ];
    }

not_less : (a b : ℕ) → b ≤ a → is_lt (nat_cmp a b) ≡ false
not_less a b low = elim (eqb_tells a b) [
  | inl same ↦ ap is_lt (sym (nat_cmp_is a b Equal same.1))
  | inr apart ↦ ap is_lt (sym (nat_cmp_is a b Greater (omega (arith, low, apart.1))))
]

pub sorted_by_block : (xs : List Ranked)
    → ((k : ℕ) (d : Ranked) → k + 1 < length xs → (slice_index_or xs k d).block ≤ (slice_index_or xs (k + 1) d).block)
    → IsSortedByKey (λ r. r.block) nat_cmp xs
sorted_by_block xs rising = λ k d low within.
    not_less (slice_index_or xs (k + 1) d).block (slice_index_or xs k d).block (rising k d within)
