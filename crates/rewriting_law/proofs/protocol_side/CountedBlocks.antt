-- How many blocks are in a set: none, one, some, or those of a list of wants.
use Rattle.std.proofs.Common.{◌≡◌, ◌≢◌, ℕ, zero, suc, ◌+◌, ◌<◌, ◌≤◌, ◌⊎◌, cond, eqb, Bool, true, false, List, [], ◌∷◌, length, Option, Some, None, refl, sym, ap, ◌∙◌, inl, inr, arith}
use Rattle.std.specs.Prelude.{is_some}
use Rattle.std.specs.Option.{option_map_or}
use Rattle.std.proofs.lemmas.Bool.Decides.{eqb_tells, nat_tests}
use Rattle.rewriting_law.proofs.Names.{Shape, blocks, block_of, count_of, line_of, is_in_block, Want}
use Rattle.rewriting_law.proofs.one_memory.Sharing.{is_same}
use Rattle.rewriting_law.proofs.one_memory.Pending.{wanted_in}

-- a set of no block, of one at most, of some
pub none_counted : (set : ℕ → Bool) (n : ℕ) → ((b : ℕ) → b < n → set b ≡ false) → count_of set n ≡ 0
none_counted set zero h = refl
none_counted set (suc n) h =
    let here = h n (omega arith) in
    let rest = none_counted set n (λ b low. h b (omega arith)) in
    ap (λ t. cond t (count_of set n + 1) (count_of set n)) here ∙ rest

one_counted : (set : ℕ → Bool) (d n : ℕ) → ((b : ℕ) → set b ≡ true → b ≡ d) → count_of set n ≤ 1
one_counted set d zero h = omega arith
one_counted set d (suc n) h = go (set n) refl (one_counted set d n h)
  where
    go : (t : Bool) → set n ≡ t → count_of set n ≤ 1
        → cond t (count_of set n + 1) (count_of set n) ≤ 1
    go false e later = later
    go true e later =
        let same = h n e in
        let none = none_counted set n (λ b low. (elim (set b) as (λ t. set b ≡ t → t ≡ false) [
          | true ↦ (λ t. absurd (let other = h b t in omega (arith, other, same, low)))
          | false ↦ (λ t. refl)
        ]) refl) in
        omega (arith, none)

pub some_counted : (set : ℕ → Bool) (b n : ℕ) → b < n → set b ≡ true → 0 < count_of set n
some_counted set b zero low h = absurd (omega (arith, low))
some_counted set b (suc n) low h = go (set n) refl (eqb_tells b n)
    (λ below. some_counted set b n below h)
  where
    go : (t : Bool) → set n ≡ t → ((eqb b n ≡ true) × (b ≡ n)) ⊎ ((eqb b n ≡ false) × (b ≢ n))
        → (b < n → 0 < count_of set n) → 0 < cond t (count_of set n + 1) (count_of set n)
    go true e where_ later = omega arith
    go false e (inl same) later =
        let bad : false ≡ true = sym e ∙ ap set (sym same.1) ∙ h in cc
    go false e (inr other) later =
        let apart = other.1 in
        let below : b < n = grind (arith, nat_tests) in later below

module _ (layout : Shape) where
  -- a want is of one block at most
  one_more : (x : Want) (ws : List Want) (n : ℕ)
      → count_of (λ b. is_some (wanted_in layout b (x ∷ ws))) n
      ≤ count_of (λ b. is_some (wanted_in layout b ws)) n
      + count_of (λ b. is_in_block layout b x.at) n
  one_more x ws zero = omega arith
  one_more x ws (suc n) =
      go (is_in_block layout n x.at) (is_some (wanted_in layout n ws)) (one_more x ws n) refl refl
    where
      big : ℕ
      big = count_of (λ b. is_some (wanted_in layout b (x ∷ ws))) n

      small : ℕ
      small = count_of (λ b. is_some (wanted_in layout b ws)) n

      here : ℕ
      here = count_of (λ b. is_in_block layout b x.at) n

      go : (u v : Bool) → big ≤ small + here → is_in_block layout n x.at ≡ u
          → is_some (wanted_in layout n ws) ≡ v
          → cond (is_some (cond (is_in_block layout n x.at) (Some x.need)
          (wanted_in layout n ws))) (big + 1) big
          ≤ cond (is_some (wanted_in layout n ws)) (small + 1) small
          + cond (is_in_block layout n x.at) (here + 1) here
      go true true h e f = rw (e, f) (omega (arith, h))
      go true false h e f = rw (e, f) (omega (arith, h))
      go false true h e f = rw (e, f) (omega (arith, h))
      go false false h e f = rw (e, f) (omega (arith, h))

  -- so a list wants as many blocks at most as it has wants
  pub wanted_few : (ws : List Want)
      → count_of (λ b. is_some (wanted_in layout b ws)) (blocks layout) ≤ length ws
  wanted_few [] =
      let none = none_counted (λ b. is_some (wanted_in layout b [])) (blocks layout)
      (λ b lb. refl) in
      omega (arith, none)
  wanted_few (x ∷ ws) =
      let d = unwrap_block (block_of layout (line_of x.at)) in
      let one = one_counted (λ b. is_in_block layout b x.at) d (blocks layout)
      (λ b is. the_block b (block_of layout (line_of x.at)) is) in
      let rest = wanted_few ws in
      let both = one_more x ws (blocks layout) in
      omega (arith, one, rest, both)
    where
      unwrap_block : Option ℕ → ℕ
      unwrap_block None = 0
      unwrap_block (Some d) = d

      the_block : (b : ℕ) (o : Option ℕ) → option_map_or (λ c. eqb c b) o false ≡ true
          → b ≡ unwrap_block o
      the_block b None e = let bad : false ≡ true = e in cc
      the_block b (Some d) e = sym (is_same d b e)
