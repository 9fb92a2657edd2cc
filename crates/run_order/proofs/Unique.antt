-- There is one sorted list of what nodes made.
use Rattle.std.proofs.Common.{◌≡◌, ℕ, ◌<◌, true, false, cond, eqb, List, [], ◌∷◌, sym, refl, ap, ap₂, ◌∙◌, subst, arith, eq-eqb, ⊎_elim, inl, inr, ◌⊎◌}
use Rattle.run_order.specs.Sorted.{Precedes, PrecedesAll, AreSorted, AreMadeBelow, made_by, AreSortedOf}

module _ {A : Type 0} (stamp node : A → ℕ) where
  abbrev made : ℕ → List A → List A
  made i xs = made_by stamp node i xs

  abbrev Member : A → List A → Type 0
  Member x [] = ⊥
  Member x (y ∷ ys) = (x ≡ y) ⊎ Member x ys

  pub made_here : (x : A) (xs : List A) → made (node x) (x ∷ xs) ≡ x ∷ made (node x) xs
  made_here x xs = rw (eq-eqb (node x) (node x) refl) refl

  -- who stands first of its node is a member
  first_member : (x : A) (i : ℕ) (ys rest : List A) → made i ys ≡ x ∷ rest → Member x ys
  first_member x i [] rest e = absurd cc
  first_member x i (y ∷ ys) rest e =
      (elim (eqb (node y) i) as (λ b. cond b (y ∷ made i ys) (made i ys) ≡ x ∷ rest
      → Member x (y ∷ ys)) [
        | true ↦ (λ e. inl (let same : x ≡ y = cc in same))
        | false ↦ (λ e. inr (first_member x i ys rest e))
      ]) e

  precedes_member : (x y : A) (ys : List A) → PrecedesAll stamp node x ys → Member y ys
      → Precedes stamp node x y
  precedes_member x y [] p m = absurd m
  precedes_member x y (z ∷ ys) p m =
      ⊎_elim (λ (e : y ≡ z). subst (λ w. Precedes stamp node x w) (sym e) p.0)
      (λ m. precedes_member x y ys p.1 m) m

  both_ways : (x y : A) → Precedes stamp node x y → Precedes stamp node y x → ⊥
  both_ways x y p q = ⊎_elim
      (λ (a : stamp x < stamp y). ⊎_elim (λ (b : stamp y < stamp x). omega arith)
      (λ (b : (stamp y ≡ stamp x) × (node y < node x)). omega arith) q)
      (λ (a : (stamp x ≡ stamp y) × (node x < node y)). ⊎_elim
      (λ (b : stamp y < stamp x). omega arith)
      (λ (b : (stamp y ≡ stamp x) × (node y < node x)). omega arith) q) p

  same_head : (x y : A) (xs ys : List A) → AreSorted stamp node (x ∷ xs)
      → AreSorted stamp node (y ∷ ys)
      → made (node x) (x ∷ xs) ≡ made (node x) (y ∷ ys)
      → made (node y) (x ∷ xs) ≡ made (node y) (y ∷ ys) → x ≡ y
  same_head x y xs ys a b ex ey =
      let mx : Member x (y ∷ ys) =
      first_member x (node x) (y ∷ ys) (made (node x) xs) (sym ex ∙ made_here x xs) in
      let my : Member y (x ∷ xs) =
      first_member y (node y) (x ∷ xs) (made (node y) ys) (ey ∙ made_here y ys) in
      ⊎_elim (λ (e : x ≡ y). e) (λ (m : Member x ys). ⊎_elim (λ (e : y ≡ x). sym e)
      (λ (n : Member y xs). absurd (both_ways x y (precedes_member x y xs a.0 n)
      (precedes_member y x ys b.0 m))) my) mx

  pub same_tail : (x : A) (i : ℕ) (xs ys : List A)
      → made i (x ∷ xs) ≡ made i (x ∷ ys)
      → made i xs ≡ made i ys
  same_tail x i xs ys e =
      (elim (eqb (node x) i) as (λ b. cond b (x ∷ made i xs) (made i xs)
      ≡ cond b (x ∷ made i ys) (made i ys)
      → made i xs ≡ made i ys) [ true ↦ (λ e. cc) | false ↦ (λ e. e) ]) e

  one_order : (n : ℕ) (xs ys : List A) → AreSorted stamp node xs → AreSorted stamp node ys
      → AreMadeBelow stamp node n xs → AreMadeBelow stamp node n ys
      → ((i : ℕ) → i < n → made i xs ≡ made i ys) → xs ≡ ys
  one_order n [] [] a b u v same = refl
  one_order n [] (y ∷ ys) a b u v same = absurd
      (let e : [] ≡ y ∷ made (node y) ys = same (node y) v.0 ∙ made_here y ys in cc)
  one_order n (x ∷ xs) [] a b u v same = absurd
      (let e : x ∷ made (node x) xs ≡ [] = sym (made_here x xs) ∙ same (node x) u.0 in cc)
  one_order n (x ∷ xs) (y ∷ ys) a b u v same =
      let e : x ≡ y = same_head x y xs ys a b (same (node x) u.0) (same (node y) v.0) in
      let rest : (i : ℕ) → i < n → made i xs ≡ made i ys = λ i h.
      same_tail x i xs ys (same i h ∙ ap (λ z. made i (z ∷ ys)) (sym e)) in
      ap₂ (λ z zs. z ∷ zs) e (one_order n xs ys a.1 b.1 u.1 v.1 rest)

  -- two sorted lists of the same lists are one list
  pub one_sorted : (n : ℕ) (lists : ℕ → List A) (xs ys : List A)
      → AreSortedOf stamp node n lists xs → AreSortedOf stamp node n lists ys → xs ≡ ys
  one_sorted n lists xs ys a b = one_order n xs ys a.sorted b.sorted a.below b.below
      (λ i h. a.each i h ∙ sym (b.each i h))
