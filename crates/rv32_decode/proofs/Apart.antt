-- No word fits two rows.
use Rattle.std.proofs.Common.{◌≡◌, ℕ, ◌+◌, ◌≤◌, Bool, true, false, cond, eqb, List, [], ◌∷◌, refl, sym, ap, ◌∙◌, arith}
use Rattle.std.specs.Prelude.{bit_and, ◌&&◌, not, count_by}
use Rattle.std.specs.List.{list_all}
use Rattle.std.proofs.lemmas.Nat.{and_assoc, and_comm}
use Rattle.std.proofs.lemmas.List.Sums.{sum_by-cons}
use Rattle.std.proofs.lemmas.Bool.{eqb-true, eq-eqb}
use Rattle.rv32_decode.specs.Rows.{Row, fits, rows}
use Rattle.rv32_decode.proofs.Fitting.{and_parts}

-- the matches of the two rows differ in a bit that both masks cover
abbrev are_apart : Row → Row → Bool
are_apart r s = not (eqb (bit_and r.match s.mask) (bit_and s.match r.mask))

abbrev all_apart : List Row → Bool
all_apart [] = true
all_apart (r ∷ rs) = list_all (are_apart r) rs && all_apart rs

rows_apart : all_apart rows ≡ true
unfolding rows
rows_apart = refl

-- a word that fits both rows gives their matches the same bits in both masks
same_bits : (w : ℕ) (r s : Row) → fits w r ≡ true → fits w s ≡ true → bit_and r.match s.mask ≡ bit_and s.match r.mask
same_bits w r s f g =
    ap (λ x. bit_and x s.mask) (sym (eqb-true _ _ f)) ∙ and_assoc s.mask w r.mask ∙ ap (bit_and w) (and_comm r.mask s.mask)
    ∙ sym (and_assoc r.mask w s.mask) ∙ ap (λ x. bit_and x r.mask) (eqb-true _ _ g)

off : (w : ℕ) (r s : Row) (b : Bool) → fits w r ≡ true → are_apart r s ≡ true → fits w s ≡ b → b ≡ false
off w r s false f apart g = refl
off w r s true f apart g =
    let same = eq-eqb _ _ (same_bits w r s f g) in
    let bad : false ≡ true = sym (ap not same) ∙ apart in
    cc

none_more : (w : ℕ) (r : Row) (rs : List Row) → fits w r ≡ true → list_all (are_apart r) rs ≡ true → count_by (fits w) rs ≡ 0
none_more w r [] f apart = refl
none_more w r (s ∷ rs) f apart =
    let both = and_parts (are_apart r s) (list_all (are_apart r) rs) apart in
    sum_by-cons (λ x. cond (fits w x) 1 0) s rs ∙ rw (off w r s (fits w s) f both.0 refl, none_more w r rs f both.1) refl

count_case : (w : ℕ) (r : Row) (rs : List Row) (b : Bool) → fits w r ≡ b → list_all (are_apart r) rs ≡ true → count_by (fits w) rs ≤ 1
    → cond b 1 0 + count_by (fits w) rs ≤ 1
count_case w r rs true f apart more = let e = none_more w r rs f apart in omega (arith, e)
count_case w r rs false f apart more = omega arith

at_most_one : (w : ℕ) (rs : List Row) → all_apart rs ≡ true → count_by (fits w) rs ≤ 1
at_most_one w [] apart = omega arith
at_most_one w (r ∷ rs) apart =
    let both = and_parts (list_all (are_apart r) rs) (all_apart rs) apart in
    rw sum_by-cons (count_case w r rs (fits w r) refl both.0 (at_most_one w rs both.1))

pub one_row : (w : ℕ) → count_by (fits w) rows ≤ 1
one_row w = at_most_one w rows rows_apart
