-- The first place that passes, by a search from the front.
use Rattle.std.proofs.Common.{◌≡◌, ℕ, ◌+◌, ◌<◌, ◌≤◌, Bool, true, false, inl, inr, Some, None, List, [], ◌∷◌, subst, map, length, get_or, refl, sym, ap, ◌∙◌, arith}
use Rattle.std.specs.Prelude.{position}
use Rattle.std.specs.List.{position_or_len}
use Rattle.std.proofs.lemmas.Bool.{cases_lt, cond-true, cond-false, lt-ltb, le-ltb}
use Rattle.std.proofs.lemmas.List.{get_or-map, get_or_default, length-map}
use Rattle.std.proofs.lemmas.List.Sums.{position_or_len_is}

pub place_found : {X Y : Type 0} (p : Y → Bool) (f : X → Y) (xs : List X) (i : ℕ) (d : X) (b : Bool) → i < length xs → b ≡ p (f (get_or xs i d)) → b ≡ true → ((k : ℕ) (e : X) → k < i → p (f (get_or xs k e)) ≡ false) → Some i ≡ position p (map f xs)
place_found p f xs i d b lt is here before =
    let in_map : i < length (map f xs) = omega (arith, length-map xs f) in
    let at : position_or_len p (map f xs) ≡ i =
    position_or_len_is p (map f xs) i (f d) (omega arith) (λ k low. ap p (get_or-map f xs k d (f d) (omega arith)) ∙ before k d low) (λ _. ap p (get_or-map f xs i d (f d) lt) ∙ sym is ∙ here) in
    let inside : position_or_len p (map f xs) < length (map f xs) = omega arith in
    sym (cond-true _ _ _ (lt-ltb _ _ inside) ∙ ap Some at)

pub place_nowhere : {X Y : Type 0} (p : Y → Bool) (f : X → Y) (xs : List X) (i : ℕ) → length xs ≤ i → i ≤ length xs → ((k : ℕ) (e : X) → k < i → p (f (get_or xs k e)) ≡ false) → None ≡ position p (map f xs)
place_nowhere p f [] i end le before = refl
place_nowhere p f (x ∷ xs) i end le before =
    let at : position_or_len p (map f (x ∷ xs)) ≡ length (map f (x ∷ xs)) =
    position_or_len_is p (map f (x ∷ xs)) (length (map f (x ∷ xs))) (f x) (omega arith) (λ k low. ap p (get_or-map f (x ∷ xs) k x (f x) (omega (arith, length-map xs f))) ∙ before k x (omega (arith, length-map xs f))) (λ lt. absurd (omega arith)) in
    let inside : length (map f (x ∷ xs)) ≤ position_or_len p (map f (x ∷ xs)) = omega arith in
    sym (cond-false _ _ _ (le-ltb _ _ inside))

-- one more place that doesn't pass
pub one_more : {X : Type 0} (q : X → Bool) (xs : List X) (i : ℕ) (d : X) (b : Bool) → i < length xs → b ≡ q (get_or xs i d) → b ≡ false → ((k : ℕ) (e : X) → k < i → q (get_or xs k e) ≡ false) → (k : ℕ) (e : X) → k < i + 1 → q (get_or xs k e) ≡ false
one_more q xs i d b lt is out before k e low =
    elim (cases_lt k i) [
      | inl less ↦ before k e less
      | inr le ↦
          let same : i ≡ k = omega arith in
          subst (λ n. q (get_or xs n e) ≡ false) same (ap q (get_or_default xs i e d lt) ∙ sym is ∙ out)
    ]
