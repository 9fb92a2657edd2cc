-- The names of three files.
use Rattle.std.proofs.Common.{◌≡◌, ◌==◌, ℕ, zero, suc, ◌<◌, Bool, true, false, eqb-true, Some, List, [], ◌∷◌, length, map, get_or, refl, sym, ap, ◌∙◌, subst, arith, Bor}
use Rattle.std.proofs.lemmas.List.{length-map}
use Rattle.command_line.specs.Tasks.{Read, Write}
use Rattle.command_line.specs.Asks.{ArePlaced}
use Rattle.command_line.specs.Reading.{AreThree}

same_name : (x y : List ℕ) → Some x ≡ Some y → x ≡ y
same_name x y e = cc

abbrev pub Placed : (x y z : List ℕ) → List (List ℕ) → Type 0
Placed x y z = ArePlaced (Read (Some x) ∷ Read (Some y) ∷ Write (Some z) ∷ [])

pub three_files : (x y z : List ℕ) (words : List (List ℕ)) → Placed x y z words
    → AreThree x y z words
three_files x y z [] h = absurd h
three_files x y z (w ∷ []) h = absurd h.1
three_files x y z (w ∷ v ∷ []) h = absurd h.1.1
three_files x y z (w ∷ v ∷ u ∷ []) h =
    let one : x ≡ w = same_name x w h.0.1 in
    let other : y ≡ v = same_name y v h.1.0.1 in
    let third : z ≡ u = same_name z u h.1.1.0.1 in (
      cc,
      subst (λ t. 0 < length t) (sym one) h.0.0,
      subst (λ t. 0 < length t) (sym other) h.1.0.0,
      subst (λ t. 0 < length t) (sym third) h.1.1.0.0,
    )
three_files x y z (w ∷ v ∷ u ∷ t ∷ more) h = absurd h.1.1.1

pub placed_three : (x y z : List ℕ) (words : List (List ℕ)) → AreThree x y z words
    → Placed x y z words
placed_three x y z words h =
    subst (Placed x y z) (sym h.0) ((h.1, refl), ((h.2, refl), ((h.3, refl), tt)))

pub same_three : (x y z u v w : List ℕ) (words : List (List ℕ)) → Placed x y z words
    → Placed u v w words → (x ≡ u) × (y ≡ v) × (z ≡ w)
same_three x y z u v w words h k =
    let e = sym (three_files x y z words h).0 ∙ (three_files u v w words k).0 in
    (ap (λ xs. get_or xs 0 []) e, ap (λ xs. get_or xs 1 []) e, ap (λ xs. get_or xs 2 []) e)

pub triple : (xs : List (Bor (List ℕ))) (d : Bor (List ℕ)) → length xs ≡ 3 →
    map (λ v. v.now) xs ≡ (get_or xs 0 d).now ∷ (get_or xs 1 d).now ∷ (get_or xs 2 d).now ∷ []
triple [] d e = absurd (omega (arith, e))
triple (x ∷ []) d e = absurd (omega (arith, e))
triple (x ∷ y ∷ []) d e = absurd (omega (arith, e))
triple (x ∷ y ∷ z ∷ []) d e = refl
triple (x ∷ y ∷ z ∷ w ∷ more) d e = absurd (omega (arith, e))

pub no_triple : (words : List (List ℕ)) (xs : List (Bor (List ℕ))) → words ≡ map (λ v. v.now) xs
    → (length xs ≡ 3 → ⊥) → (f g h : List ℕ) → AreThree f g h words → ⊥
no_triple words xs is none f g h e =
    let long = ap length (sym is ∙ e.0) in
    let same = length-map xs (λ v. v.now) in
    none (omega (arith, long, same))

-- whether a word is empty
pub was_empty : (n : ℕ) (b : Bool) → b ≡ (n == 0) → b ≡ true → 0 < n → ⊥
was_empty n b e f some =
    let zero = eqb-true n 0 (sym e ∙ f) in omega (arith, zero, some)

not_empty : (n : ℕ) (b : Bool) → b ≡ (n == 0) → b ≡ false → 0 < n
not_empty zero b e f = let bad : true ≡ false = sym e ∙ f in absurd (cc)
not_empty (suc n) b e f = omega arith

-- three words, of which none is empty
pub three_some : (words : List (List ℕ)) (xs : List (Bor (List ℕ))) (d : Bor (List ℕ))
    → words ≡ map (λ v. v.now) xs → length xs ≡ 3 → (f g h : List ℕ) → AreThree f g h words
    → (0 < length (get_or xs 0 d).now) × (0 < length (get_or xs 1 d).now)
    × (0 < length (get_or xs 2 d).now)
three_some words xs d is len f g h k =
    let e = sym k.0 ∙ is ∙ triple xs d len in (
      subst (λ w. 0 < length w) (ap (λ ws. get_or ws 0 []) e) k.1,
      subst (λ w. 0 < length w) (ap (λ ws. get_or ws 1 []) e) k.2,
      subst (λ w. 0 < length w) (ap (λ ws. get_or ws 2 []) e) k.3,
    )

pub are_three : (words : List (List ℕ)) (xs : List (Bor (List ℕ))) (d : Bor (List ℕ))
    → words ≡ map (λ v. v.now) xs → length xs ≡ 3 → (a b c : Bool)
    → a ≡ (length (get_or xs 0 d).now == 0) → a ≡ false
    → b ≡ (length (get_or xs 1 d).now == 0) → b ≡ false
    → c ≡ (length (get_or xs 2 d).now == 0) → c ≡ false
    → AreThree (get_or xs 0 d).now (get_or xs 1 d).now (get_or xs 2 d).now words
are_three words xs d is len a b c ea fa eb fb ec fc = (
  is ∙ triple xs d len,
  not_empty _ a ea fa,
  not_empty _ b eb fb,
  not_empty _ c ec fc,
)
