-- What a name holds in a list of pairs.
use Rattle.std.proofs.Common.{◌≡◌, ◌≢◌, ℕ, ◌≤◌, Bool, true, false, cond, List, [], ◌∷◌, ◌++◌, length, get_or, map, Option, Some, None, refl, sym, ap, ◌∙◌, arith}
use Rattle.std.specs.Prelude.{slice_get, bytes_eq, find, position}
use Rattle.std.specs.Option.{option_map, option_or}
use Rattle.std.specs.List.{position_or_len}
use Rattle.std.proofs.Math.ListN.{set}
use Rattle.std.proofs.lemmas.List.Folds.{find_at, find-set, find_past, find-append}
use Rattle.std.proofs.lemmas.List.Quantifiers.{position-Some}
use Rattle.std.proofs.lemmas.List.Sums.{position_or_len_is}
use Rattle.std.proofs.lemmas.Option.{slice_get-get_or, slice_get_past}
use Rattle.std.proofs.lemmas.Slice.Eq.{bytes_eq-Decides}
use Rattle.std.proofs.lemmas.Bool.{false_from_ne_true}
use Rattle.std.specs.Prelude.{nat_lt}
use borrow.Author.Tests.{ltb-false}
use Rattle.dsm_io.specs.Pairs.{first_content, Writes}

-- the first of the mapped elements is that of the elements
find-map : {X Y : Type 0} (p : Y → Bool) (f : X → Y) (xs : List X) →
    find p (map f xs) ≡ option_map f (find (λ x. p (f x)) xs)
find-map p f [] = refl
find-map p f (x ∷ xs) =
    elim (p (f x)) as
    (λ b. cond b (Some (f x)) (find p (map f xs)) ≡ option_map f
    (cond b (Some x) (find (λ x. p (f x)) xs))) [
      | true ↦ refl
      | false ↦ find-map p f xs
    ]

-- a choice that gives nothing was not made
cond-None : {X : Type 0} (b : Bool) (x : X) → None ≡ cond b (Some x) None → b ≡ false
cond-None true x e = cc
cond-None false x e = refl

-- where there is no place, nothing is found
find-None : {X : Type 0} (p : X → Bool) (xs : List X) → None ≡ position p xs → find p xs ≡ None
find-None p xs e =
    let past : length xs ≤ position_or_len p xs =
    omega (
      arith,
      ltb-false _ _
          (cond-None (nat_lt (position_or_len p xs) (length xs)) (position_or_len p xs) e),
    ) in
    find_at p xs ∙ slice_get_past xs (position_or_len p xs) past

-- the place is the count of the elements before it
place : {X : Type 0} (p : X → Bool) (xs : List X) (i : ℕ) (d : X) → Some i ≡ position p xs →
    position_or_len p xs ≡ i
place p xs i d e =
    let at = position-Some p xs i d (sym e) in
    position_or_len_is p xs i d (omega arith) at.2 (λ _. at.1)

-- at the first place that passes stands what is found
find-Some : {X : Type 0} (p : X → Bool) (xs : List X) (i : ℕ) (d : X) → Some i ≡ position p xs →
    find p xs ≡ Some (get_or xs i d)
find-Some p xs i d e =
    let at = position-Some p xs i d (sym e) in
    find_at p xs ∙ ap (slice_get xs) (place p xs i d e) ∙ slice_get-get_or xs i d at.0

-- what a name finds, and what it finds where it has no pair
content-Some :
    {X : Type 0} (f : X → List ℕ × List ℕ) (xs : List X) (i : ℕ) (d : X) (name : List ℕ) →
    Some i ≡ position (λ x. bytes_eq (f x).0 name) xs →
    first_content (map f xs) name ≡ Some (f (get_or xs i d)).1
content-Some f xs i d name e =
    ap (option_map (λ p. p.1))
    (find-map (λ p. bytes_eq p.0 name) f xs
    ∙ ap (option_map f) (find-Some (λ x. bytes_eq (f x).0 name) xs i d e))

content-None :
    {X : Type 0} (f : X → List ℕ × List ℕ) (xs : List X) (name : List ℕ) →
    None ≡ position (λ x. bytes_eq (f x).0 name) xs → first_content (map f xs) name ≡ None
content-None f xs name e =
    ap (option_map (λ p. p.1))
    (find-map (λ p. bytes_eq p.0 name) f xs
    ∙ ap (option_map f) (find-None (λ x. bytes_eq (f x).0 name) xs e))

-- a name that is the same as one text is not the same as another
differs : (a name n : List ℕ) → bytes_eq a name ≡ true → n ≢ name → bytes_eq a n ≡ false
differs a name n same ne =
    false_from_ne_true (bytes_eq a n)
    (λ h. ne (sym ((bytes_eq-Decides a n).0 h) ∙ (bytes_eq-Decides a name).0 same))

-- the content at the place of a name, as the code finds it: `found` is the place in `ys`, which are
-- the pairs `xs`
pub content_at :
    {X : Type 0} (f : X → List ℕ × List ℕ) (xs ys : List X) (zs : List (List ℕ × List ℕ))
    (found : Option ℕ) (i : ℕ) (d : X) (name bytes : List ℕ) →
    found ≡ Some i → found ≡ position (λ x. bytes_eq (f x).0 name) ys → ys ≡ xs → map f xs ≡ zs →
    d ≡ get_or xs i d → bytes ≡ (f d).1 → Some bytes ≡ first_content zs name
content_at f xs ys zs found i d name bytes was is same view item content =
    ap Some content ∙ ap (λ x. Some (f x).1) item
    ∙ sym (content-Some f xs i d name
    (sym was ∙ is ∙ ap (position (λ x. bytes_eq (f x).0 name)) same))
    ∙ ap (λ z. first_content z name) view

pub no_content :
    {X : Type 0} (f : X → List ℕ × List ℕ) (xs ys : List X) (zs : List (List ℕ × List ℕ))
    (found : Option ℕ) (name : List ℕ) →
    found ≡ None → found ≡ position (λ x. bytes_eq (f x).0 name) ys → ys ≡ xs → map f xs ≡ zs →
    None ≡ first_content zs name
no_content f xs ys zs found name was is same view =
    sym (content-None f xs name (sym was ∙ is ∙ ap (position (λ x. bytes_eq (f x).0 name)) same))
    ∙ ap (λ z. first_content z name) view

-- the pair at the place of a name gets other bytes
pub Writes-set :
    {X : Type 0} (f : X → List ℕ × List ℕ) (xs ys : List X) (zs : List (List ℕ × List ℕ))
    (found : Option ℕ) (i : ℕ) (d y : X) (name bytes : List ℕ) →
    found ≡ Some i → found ≡ position (λ x. bytes_eq (f x).0 name) ys → ys ≡ xs → map f xs ≡ zs →
    d ≡ get_or xs i d → (f y).0 ≡ (f d).0 → (f y).1 ≡ bytes →
    Writes zs (map f (set xs i y)) name bytes
Writes-set f xs ys zs found i d y name bytes was is same view item named content =
    let e = sym was ∙ is ∙ ap (position (λ x. bytes_eq (f x).0 name)) same in
    let at = position-Some (λ x. bytes_eq (f x).0 name) xs i d (sym e) in
    let passes : bytes_eq (f y).0 name ≡ true = ap (λ n. bytes_eq n name) named
    ∙ ap (λ x. bytes_eq (f x).0 name) item ∙ at.1 in
    record {
      written =
          ap (option_map (λ p. p.1))
          (find-map (λ p. bytes_eq p.0 name) f (set xs i y)
          ∙ ap (option_map f)
          (find-set (λ x. bytes_eq (f x).0 name) xs i y
          (sym (place (λ x. bytes_eq (f x).0 name) xs i d e)) at.0 passes))
          ∙ ap Some content;
      others = λ n ne.
          ap (option_map (λ p. p.1))
          (find-map (λ p. bytes_eq p.0 n) f (set xs i y)
          ∙ ap (option_map f)
          (find_past (λ x. bytes_eq (f x).0 n) xs i y d
          (differs (f (get_or xs i d)).0 name n at.1 ne) (differs (f y).0 name n passes ne))
          ∙ sym (find-map (λ p. bytes_eq p.0 n) f xs))
          ∙ ap (λ z. first_content z n) view;
    }

option_or-None : {X : Type 0} (o : Option X) → option_or o None ≡ o
option_or-None None = refl
option_or-None (Some x) = refl

-- a name that had no pair gets one, at the end
pub Writes-push :
    {X : Type 0} (f : X → List ℕ × List ℕ) (xs ys ws : List X) (zs : List (List ℕ × List ℕ))
    (found : Option ℕ) (y : X) (name bytes : List ℕ) →
    found ≡ None → found ≡ position (λ x. bytes_eq (f x).0 name) ys → ys ≡ xs → map f xs ≡ zs →
    ws ≡ xs ++ y ∷ [] → (f y).0 ≡ name → (f y).1 ≡ bytes → Writes zs (map f ws) name bytes
Writes-push f xs ys ws zs found y name bytes was is same view pushed named content =
    let none = find-None (λ x. bytes_eq (f x).0 name) xs
    (sym was ∙ is ∙ ap (position (λ x. bytes_eq (f x).0 name)) same) in
    let passes : bytes_eq (f y).0 name ≡ true = (bytes_eq-Decides (f y).0 name).1 named in
    record {
      written =
          ap (λ s. first_content (map f s) name) pushed
          ∙ ap (option_map (λ p. p.1))
          (find-map (λ p. bytes_eq p.0 name) f (xs ++ y ∷ [])
          ∙ ap (option_map f)
          (find-append (λ x. bytes_eq (f x).0 name) xs (y ∷ [])
          ∙ ap (λ o. option_or o (cond (bytes_eq (f y).0 name) (Some y) None)) none
          ∙ ap (λ b. cond b (Some y) None) passes))
          ∙ ap Some content;
      others = λ n ne.
          ap (λ s. first_content (map f s) n) pushed
          ∙ ap (option_map (λ p. p.1))
          (find-map (λ p. bytes_eq p.0 n) f (xs ++ y ∷ [])
          ∙ ap (option_map f)
          (find-append (λ x. bytes_eq (f x).0 n) xs (y ∷ [])
          ∙ ap (λ b. option_or (find (λ x. bytes_eq (f x).0 n) xs) (cond b (Some y) None))
          (differs (f y).0 name n passes ne)
          ∙ option_or-None (find (λ x. bytes_eq (f x).0 n) xs))
          ∙ sym (find-map (λ p. bytes_eq p.0 n) f xs))
          ∙ ap (λ z. first_content z n) view;
    }
