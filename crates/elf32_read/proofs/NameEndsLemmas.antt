-- Where names end, one byte after another.
use Rattle.std.proofs.Common.{◌≡◌, ◌⊎◌, ℕ, ◌+◌, ◌-◌, ◌<◌, ◌≤◌, true, false, List, [], ◌++◌, length, length-append, drop, get_or, Some, None, length-drop, replicate, inl, inr, refl, sym, ap, ◌∙◌, subst, arith}
use Rattle.std.specs.Prelude.{position, nat_lt, slice_index}
use Rattle.std.proofs.lemmas.Bool.{cases_lt, cond-true, cond-false, le-ltb, lt-ltb}
use Rattle.std.proofs.lemmas.List.{get_or-drop, get_or-replicate, get_or-append_right, length-replicate}
use Rattle.std.proofs.lemmas.List.Sums.{position_or_len_is}
use Rattle.std.proofs.Math.ListN.{get_or-append}
use Rattle.elf32_read.specs.NameEnds.{AreEnds, is_zero}

-- the first zero byte is here
zero_at : (xs : List ℕ) (k : ℕ) → k < length xs → ((j : ℕ) → j < k → is_zero (get_or xs j 0) ≡ false)
    → is_zero (get_or xs k 0) ≡ true → position is_zero xs ≡ Some k
zero_at xs k low before here =
    rw (position_or_len_is is_zero xs k 0 (omega (arith, low)) before (λ l. here))
    (cond-true (nat_lt k (length xs)) (Some k) None (lt-ltb k (length xs) low))

-- and there is none
no_zero : (xs : List ℕ) → ((j : ℕ) → j < length xs → is_zero (get_or xs j 0) ≡ false)
    → position is_zero xs ≡ None
no_zero xs all =
    rw (position_or_len_is is_zero xs (length xs) 0 (omega arith) all (λ l. absurd (omega (arith, l))))
    (cond-false (nat_lt (length xs) (length xs)) (Some (length xs)) None (le-ltb (length xs) (length xs) (omega arith)))

-- the ends are those of the names up to a byte
pub record AreEndsTo (names ends : List ℕ) (n : ℕ) : Type 0 where
  pub low : length ends ≤ n
  pub found : (i : ℕ) → i < length ends
      → position is_zero (drop i names) ≡ Some (slice_index ends i - i)
  pub behind : (i : ℕ) → i < length ends → i ≤ slice_index ends i
  pub within : (i : ℕ) → i < length ends → slice_index ends i ≤ length names
  pub none : (i : ℕ) → length ends ≤ i → i < n → is_zero (get_or names i 0) ≡ false

pub ends_first : (names ends : List ℕ) → ends ≡ [] → AreEndsTo names ends 0
ends_first names ends nil =
    let long : length ends ≡ 0 = ap length nil in
    record {
      low = omega (arith, long);
      found = λ i l. absurd (omega (arith, l, long));
      behind = λ i l. absurd (omega (arith, l, long));
      within = λ i l. absurd (omega (arith, l, long));
      none = λ i l u. absurd (omega (arith, u));
    }

-- a byte that isn't zero
pub ends_skip : (names ends : List ℕ) (n : ℕ) → is_zero (get_or names n 0) ≡ false
    → AreEndsTo names ends n → AreEndsTo names ends (n + 1)
ends_skip names ends n other e = record {
  low = let low = e.low in omega (arith, low);
  found = e.found;
  behind = e.behind;
  within = e.within;
  none = λ i l u. last i l u;
}
  where
    last : (i : ℕ) → length ends ≤ i → i < n + 1 → is_zero (get_or names i 0) ≡ false
    last i l u = elim (split i u) [
      | inl below ↦ e.none i l below
      | inr same ↦ subst (λ k. is_zero (get_or names k 0) ≡ false) (sym same) other
    ]
      where
        split : (i : ℕ) → i < n + 1 → (i < n) ⊎ (i ≡ n)
        split i u = elim (cases_lt i n) [ inl a ↦ inl a | inr b ↦ inr (omega (arith, b, u)) ]

-- a zero byte
pub ends_more : (names ends more : List ℕ) (n : ℕ) → n < length names
    → is_zero (get_or names n 0) ≡ true → more ≡ ends ++ replicate (n + 1 - length ends) n
    → AreEndsTo names ends n → AreEndsTo names more (n + 1)
ends_more names ends more n inside zero made e = record {
  low = omega (arith, long);
  found = λ i l. elim (split i (omega (arith, l, long))) [
    | inl old ↦ e.found i old ∙ ap (λ k. Some (k - i)) (sym (old_end i old))
    | inr new ↦ here i new.0 new.1 ∙ ap (λ k. Some (k - i)) (sym (new_end i new.0 new.1))
  ];
  behind = λ i l. elim (split i (omega (arith, l, long))) [
    | inl old ↦ subst (λ k. i ≤ k) (sym (old_end i old)) (e.behind i old)
    | inr new ↦ subst (λ k. i ≤ k) (sym (new_end i new.0 new.1)) new.1
  ];
  within = λ i l. elim (split i (omega (arith, l, long))) [
    | inl old ↦ subst (λ k. k ≤ length names) (sym (old_end i old)) (e.within i old)
    | inr new ↦ subst (λ k. k ≤ length names) (sym (new_end i new.0 new.1)) (omega (arith, inside))
  ];
  none = λ i l u. absurd (omega (arith, l, u, long));
}
  where
    low : length ends ≤ n
    low = e.low

    long : length more ≡ n + 1
    long = ap length made ∙ length-append ends (replicate (n + 1 - length ends) n)
        ∙ ap (λ k. length ends + k) (length-replicate (n + 1 - length ends) n) ∙ omega (arith, low)

    split : (i : ℕ) → i < n + 1 → (i < length ends) ⊎ ((length ends ≤ i) × (i ≤ n))
    split i l = elim (cases_lt i (length ends)) [ inl a ↦ inl a | inr b ↦ inr (b, omega (arith, l)) ]

    old_end : (i : ℕ) → i < length ends → slice_index more i ≡ slice_index ends i
    old_end i l = ap (λ xs. get_or xs i 0) made ∙ get_or-append ends (replicate (n + 1 - length ends) n) 0 i l

    new_end : (i : ℕ) → length ends ≤ i → i ≤ n → slice_index more i ≡ n
    new_end i b u =
        ap (λ xs. get_or xs i 0) made
        ∙ get_or-append_right ends (replicate (n + 1 - length ends) n) (length ends) i 0 refl b
        ∙ get_or-replicate (n + 1 - length ends) (i - length ends) n 0 (omega (arith, b, u, low))

    here : (i : ℕ) → length ends ≤ i → i ≤ n → position is_zero (drop i names) ≡ Some (n - i)
    here i b u =
        zero_at (drop i names) (n - i) (omega (arith, u, inside, length-drop i names))
        (λ j l. ap is_zero (get_or-drop i names j 0) ∙ e.none (i + j) (omega (arith, b)) (omega (arith, l)))
        (ap is_zero (get_or-drop i names (n - i) 0) ∙ ap (λ k. is_zero (get_or names k 0)) (back i u) ∙ zero)
      where
        back : (i : ℕ) → i ≤ n → i + (n - i) ≡ n
        back i u = omega (arith, u)

-- all bytes
pub ends_whole : (names ends : List ℕ) (n : ℕ) → n ≡ length names → AreEndsTo names ends n
    → AreEnds names ends
ends_whole names ends n whole e = record {
  found = e.found;
  behind = e.behind;
  within = e.within;
  none = λ i l. no_zero (drop i names) (λ j low.
      ap is_zero (get_or-drop i names j 0)
      ∙ e.none (i + j) (omega (arith, l)) (omega (arith, whole, low, length-drop i names)));
}
