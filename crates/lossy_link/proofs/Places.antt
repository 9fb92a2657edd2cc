-- What is held of the items of a window.
use Rattle.std.proofs.Common.{◌≡◌, ℕ, zero, suc, ◌+◌, ◌≤◌, ◌⊎◌, Option, Some, None, List, [], ◌∷◌, ◌++◌, length, get_or, set, take, drop, replicate, refl, ap, sym, ◌∙◌, subst, inl, inr, ⊎_elim, arith, length-append}
use Rattle.lossy_link.specs.Receiver.{IsSound}

module _ {A : Type 0} where
  -- an empty place behind the others holds nothing
  pub empty_behind : (places : List (Option A)) (k : ℕ)
      → get_or (places ++ None ∷ []) k None ≡ get_or places k None
  empty_behind [] zero = refl
  empty_behind [] (suc k) = refl
  empty_behind (x ∷ xs) zero = refl
  empty_behind (x ∷ xs) (suc k) = empty_behind xs k

  -- the window that moved on by one holds what it held, one place further on
  pub moved_on : (places : List (Option A)) (k : ℕ)
      → get_or (drop 1 places ++ None ∷ []) k None ≡ get_or places (suc k) None
  moved_on [] zero = refl
  moved_on [] (suc k) = refl
  moved_on (x ∷ xs) k = empty_behind xs k

  -- what is held after a place is filled is what it is filled with, or was held before
  pub filled : (places : List (Option A)) (j k : ℕ) (v : Option A) (item : A)
      → get_or (set places j v) k None ≡ Some item
      → ((k ≡ j) × (v ≡ Some item)) ⊎ (get_or places k None ≡ Some item)
  filled [] j k v item e = inr e
  filled (x ∷ xs) zero zero v item e = inl (refl, e)
  filled (x ∷ xs) zero (suc k) v item e = inr e
  filled (x ∷ xs) (suc j) zero v item e = inr e
  filled (x ∷ xs) (suc j) (suc k) v item e =
      ⊎_elim (λ (h : (k ≡ j) × (v ≡ Some item)). inl (ap suc h.0, h.1)) (λ h. inr h)
      (filled xs j k v item e)

  -- its length stays, where its first place holds an item
  pub length_moved : (places : List (Option A)) (item : A) → get_or places 0 None ≡ Some item
      → length (drop 1 places ++ None ∷ []) ≡ length places
  length_moved [] item e = absurd (cc)
  length_moved (x ∷ xs) item e = omega (arith, length-append xs (None ∷ []))

  -- a window without items holds none
  pub none_held : (window k : ℕ) (item : A) → get_or (replicate window None) k None ≡ Some item → ⊥
  none_held zero k item e = cc
  none_held (suc n) zero item e = cc
  none_held (suc n) (suc k) item e = none_held n k item e

  -- the first place holds what was taken from it
  pub first_held : (places : List (Option A)) (x : Option A) (item : A) → 1 ≤ length places
      → x ≡ get_or places 0 x → x ≡ Some item → get_or places 0 None ≡ Some item
  first_held [] x item h e f = absurd (omega arith)
  first_held (y ∷ ys) x item h e f = sym e ∙ f

  -- a place is emptied, and goes behind the others
  pub sound_moved : (next : ℕ) (places after : List (Option A)) (v : Option A)
      → IsSound next places → v ≡ None → after ≡ drop 1 (set places 0 v) ++ take 1 (set places 0 v)
      → IsSound (next + 1) after
  sound_moved next [] after v h e f = absurd (omega arith)
  sound_moved next (x ∷ xs) after v h e f =
      let g : after ≡ xs ++ None ∷ [] = f ∙ ap (λ u. xs ++ u ∷ []) e in
      subst (λ ps. IsSound (next + 1) ps) (sym g) (record {
        window = omega (arith, length-append xs (None ∷ []), h.window);
        counted = λ k item is.
            omega (arith, h.counted (suc k) item (sym (empty_behind xs k) ∙ is));
      })
