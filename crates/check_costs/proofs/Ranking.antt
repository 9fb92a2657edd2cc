-- The rows of the table, by the words added.
use Rattle.std.proofs.Common.{◌≡◌, ℕ, ◌+◌, ◌-◌, ◌^◌, ◌<◌, ◌≤◌, false, List, length, slice_index_or, sym, ap, arith, inl, inr}
use Rattle.std.specs.Prelude.{All}
use Rattle.std.specs.List.Sorted.{IsPermutation, IsNonDecreasingBy, IsSortedByKey}
use Rattle.std.specs.Ordering.{nat_cmp, is_lt}
use Rattle.std.specs.declared.cmp.Ordering.TheVariants.{Equal, Greater}
use Rattle.std.specs.Cmp.{nat_cmp_is}
use Rattle.std.proofs.lemmas.Bool.Decides.{eqb_tells}
use Rattle.std.proofs.lemmas.List.Sorted.{All-permutation}
use Rattle.check_costs.specs.declared.table.FunctionCounts.{FunctionCounts}
use Rattle.check_costs.specs.Text.{added, IsOrder}

-- so much room is left above what is added
abbrev room : FunctionCounts → ℕ
room r = 2 ^ 64 - 1 - added r.counts

pub ordered : (xs ys : List FunctionCounts) → IsPermutation xs ys → All (λ r. added r.counts < 2 ^ 64) xs
    → IsNonDecreasingBy room ys
    → ((k : ℕ) (d : FunctionCounts) → k + 1 < length ys → room (slice_index_or ys k d) ≡ room (slice_index_or ys (k + 1) d)
    → (slice_index_or ys k d).function ≤ (slice_index_or ys (k + 1) d).function)
    → IsOrder xs ys
ordered xs ys same fit rising ties = record {
  same = same;
  falling = λ k d within.
      let fits = All-permutation (λ r. added r.counts < 2 ^ 64) xs ys same fit in
      let here = fits k d (omega (arith, within)) in
      let next = fits (k + 1) d within in
      let rise = rising k (k + 1) d (omega arith) within in
      omega (arith, here, next, rise);
  ties = λ k d within equal. ties k d within (ap (λ n. 2 ^ 64 - 1 - n) equal);
}

not_less : (a b : ℕ) → b ≤ a → is_lt (nat_cmp a b) ≡ false
not_less a b low = elim (eqb_tells a b) [
  | inl same ↦ ap is_lt (sym (nat_cmp_is a b Equal same.1))
  | inr apart ↦ ap is_lt (sym (nat_cmp_is a b Greater (let other = apart.1 in omega (arith, low, other))))
]

pub sorted_by_function : (xs : List FunctionCounts)
    → ((k : ℕ) (d : FunctionCounts) → k + 1 < length xs
    → (slice_index_or xs k d).function ≤ (slice_index_or xs (k + 1) d).function)
    → IsSortedByKey (λ r. r.function) nat_cmp xs
sorted_by_function xs rising = λ k d low within.
    not_less (slice_index_or xs (k + 1) d).function (slice_index_or xs k d).function (rising k d within)
