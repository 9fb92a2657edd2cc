-- The common numbers of two lists of stretches, as far as a loop has come.
use Rattle.std.proofs.Common.{◌≡◌, ℕ, suc, ◌+◌, ◌%◌, ◌<◌, ◌≤◌, Bool, true, false, ◌||◌, ◌&&◌, inl, inr, List, [], ◌∷◌, ◌++◌, length, get_or, drop, refl, sym, ap, subst, ◌∙◌, arith, max, min, cond}
use Rattle.std.proofs.Common.{length-drop}
use Rattle.std.specs.Prelude.{All, AllPairs, nat_lt}
use Rattle.std.specs.List.{list_any}
use Rattle.std.proofs.Math.Seq.{drop-cons}
use Rattle.exec_map.proofs.Merging.{max_whole}
use Rattle.std.proofs.lemmas.Bool.{cases_lt}
use Rattle.std.proofs.lemmas.Bool.Decides.{nat_tests}
use Rattle.std.proofs.lemmas.List.{get_or_default, get_or-drop, drop_all}
use Rattle.std.proofs.lemmas.List.Elements.{All-nil, All-push}
use Rattle.std.proofs.lemmas.List.Quantifiers.{all_pairs_push}
use Rattle.std.proofs.lemmas.List.Folds.{list_any-append}
use Rattle.std.proofs.lemmas.List.Recursion.{or_from_places}
use Rattle.exec_map.specs.declared.stretches.NumberRange.{NumberRange}
use Rattle.exec_map.specs.Index.{AreNumberRanges, IsSome, IsOfWords, has, have}
use Rattle.exec_map.proofs.Halving.{outside_above}

-- the first i stretches of the left and the first j of the right are passed
pub record IsMeeting (left right common : List NumberRange) (i j : ℕ) : Type 0 where
  pub within_left : i ≤ length left
  pub within_right : j ≤ length right
  pub some : All IsSome common
  pub ascending : AllPairs (λ r q. r.end ≤ q.first) common
  pub before : (k m : ℕ) (d : NumberRange) → i ≤ k → k < length left → j ≤ m → m < length right → All (λ r. r.end ≤ max (get_or left k d).first (get_or right m d).first) common
  pub whole : All IsOfWords left → All IsOfWords right → All IsOfWords common
  pub numbers : (n : ℕ) → (have left n && have right n) ≡ (have common n || (have (drop i left) n && have (drop j right) n))

pub meeting_start : (left right : List NumberRange) → IsMeeting left right [] 0 0
meeting_start left right = record {
  within_left = omega arith;
  within_right = omega arith;
  some = All-nil _;
  ascending = λ i j d low high. absurd (omega arith);
  before = λ k m d a b e f. All-nil _;
  whole = λ _ _. All-nil _;
  numbers = λ n. refl;
}

-- the stretch that two have in common
abbrev pub meet : NumberRange → NumberRange → NumberRange
meet r q = record { first = max r.first q.first; end = min r.end q.end }

-- it is there where it isn't empty
abbrev pub with_meet : List NumberRange → NumberRange → NumberRange → List NumberRange
with_meet common r q = cond (nat_lt (max r.first q.first) (min r.end q.end)) (common ++ meet r q ∷ []) common

or_false : (b : Bool) → (b || false) ≡ b
or_false true = refl
or_false false = refl

pub have_with_meet : (common : List NumberRange) (r q : NumberRange) (n : ℕ) → have (with_meet common r q) n ≡ (have common n || (has n r && has n q))
have_with_meet common r q n =
    elim (cases_lt (max r.first q.first) (min r.end q.end)) [
      | inl lt ↦
          let yes : nat_lt (max r.first q.first) (min r.end q.end) ≡ true = grind (arith, nat_tests) in
          let both : has n (meet r q) ≡ (has n r && has n q) = grind (arith, nat_tests) in
          rw yes (list_any-append (has n) common (meet r q ∷ []) ∙ ap (λ b. have common n || b) (or_false (has n (meet r q)) ∙ both))
      | inr le ↦
          let no : nat_lt (max r.first q.first) (min r.end q.end) ≡ false = grind (arith, nat_tests) in
          let none : (has n r && has n q) ≡ false = grind (arith, nat_tests) in
          rw no (sym (ap (λ b. have common n || b) none ∙ or_false (have common n)))
    ]

-- past the stretch that ends first
pass_left : (a b l r c : Bool) → (a ≡ true → r ≡ false) → (c || ((a || l) && (b || r))) ≡ ((c || (a && b)) || (l && (b || r)))
pass_left true b l r true none = refl
pass_left false b l r true none = refl
pass_left false b l r false none = refl
pass_left true true true true false none = refl
pass_left true true true false false none = refl
pass_left true true false true false none = refl
pass_left true true false false false none = refl
pass_left true false true true false none = refl
pass_left true false true false false none = refl
pass_left true false false true false none = none refl
pass_left true false false false false none = refl

and_comm : (a b : Bool) → (a && b) ≡ (b && a)
and_comm true true = refl
and_comm true false = refl
and_comm false true = refl
and_comm false false = refl

pass_right : (a b l r c : Bool) → (b ≡ true → l ≡ false) → (c || ((a || l) && (b || r))) ≡ ((c || (a && b)) || ((a || l) && r))
pass_right a b l r c none =
    ap (λ x. c || x) (and_comm (a || l) (b || r))
    ∙ pass_left b a r l c none
    ∙ ap (λ x. (c || x) || (r && (a || l))) (and_comm b a)
    ∙ ap (λ x. (c || (a && b)) || x) (and_comm r (a || l))

-- what follows a stretch has no number below its end
none_later : (xs : List NumberRange) (j n : ℕ) (d : NumberRange) → AreNumberRanges xs → j < length xs → n < (get_or xs j d).end → have (drop (suc j) xs) n ≡ false
none_later xs j n d h lt below =
    or_from_places (list_any (has n)) (has n) refl (λ _ _. refl) (drop (suc j) xs) d (λ k in_k.
    let in_all : suc j + k < length xs = omega (arith, length-drop (suc j) xs) in
    let far : (get_or xs j d).end ≤ (get_or xs (suc j + k) d).first = h.ascending j (suc j + k) d (omega arith) in_all in
    let out : has n (get_or xs (suc j + k) d) ≡ false = outside_above _ n (omega arith) in
    ap (has n) (get_or-drop (suc j) xs k d) ∙ out)

have_drop : (xs : List NumberRange) (j n : ℕ) (d : NumberRange) → j < length xs → have (drop j xs) n ≡ (has n (get_or xs j d) || have (drop (j + 1) xs) n)
have_drop xs j n d lt = ap (λ ys. have ys n) (drop-cons xs j d lt ∙ ap (λ k. get_or xs j d ∷ drop k xs) (let e : suc j ≡ j + 1 = omega arith in e))

min_whole : (a b : ℕ) → a % 4 ≡ 0 → b % 4 ≡ 0 → min a b % 4 ≡ 0
min_whole a b p q =
    elim (cases_lt a b) [
      | inl lt ↦ let e : min a b ≡ a = omega arith in ap (λ n. n % 4) e ∙ p
      | inr le ↦ let e : min a b ≡ b = omega arith in ap (λ n. n % 4) e ∙ q
    ]

-- a step past one of the two
step : (left right common : List NumberRange) (i j : ℕ) (d : NumberRange) (i' j' : ℕ) → IsMeeting left right common i j → i < length left → j < length right → i ≤ i' → j ≤ j' → i' ≤ length left → j' ≤ length right
    → ((k m : ℕ) (e : NumberRange) → i' ≤ k → k < length left → j' ≤ m → m < length right → min (get_or left i d).end (get_or right j d).end ≤ max (get_or left k e).first (get_or right m e).first)
    → ((n : ℕ) → (have common n || (have (drop i left) n && have (drop j right) n)) ≡ ((have common n || (has n (get_or left i d) && has n (get_or right j d))) || (have (drop i' left) n && have (drop j' right) n)))
    → IsMeeting left right (with_meet common (get_or left i d) (get_or right j d)) i' j'
step left right common i j d i' j' h in_i in_j up_i up_j low_i low_j far pass =
    let r = get_or left i d in
    let q = get_or right j d in
    let numbers : (n : ℕ) → (have left n && have right n) ≡ (have (with_meet common r q) n || (have (drop i' left) n && have (drop j' right) n)) =
    λ n. h.numbers n ∙ pass n ∙ ap (λ b. b || (have (drop i' left) n && have (drop j' right) n)) (sym (have_with_meet common r q n)) in
    elim (cases_lt (max r.first q.first) (min r.end q.end)) [
      | inl lt ↦
          let yes : nat_lt (max r.first q.first) (min r.end q.end) ≡ true = grind (arith, nat_tests) in
          let with : with_meet common r q ≡ common ++ meet r q ∷ [] = rw yes refl in
          record {
            within_left = low_i;
            within_right = low_j;
            some = subst (All IsSome) (sym with) (All-push IsSome common (meet r q) h.some lt);
            ascending = let P : List NumberRange → Type 0 = AllPairs (λ s t. s.end ≤ t.first) in subst P (sym with) (all_pairs_push (λ s t. s.end ≤ t.first) common (meet r q) h.ascending (h.before i j d (omega arith) in_i (omega arith) in_j));
            before = λ k m e a b f g.
                let P : NumberRange → Type 0 = λ s. s.end ≤ max (get_or left k e).first (get_or right m e).first in
                subst (All P) (sym with) (All-push P common (meet r q) (h.before k m e (omega arith) b (omega arith) g) (far k m e a b f g));
            whole = λ u v.
                let ru = u i d in_i in
                let qv = v j d in_j in
                subst (All IsOfWords) (sym with) (All-push IsOfWords common (meet r q) (h.whole u v) (max_whole r.first q.first ru.0 qv.0, min_whole r.end q.end ru.1 qv.1));
            numbers = numbers;
          }
      | inr le ↦
          let no : nat_lt (max r.first q.first) (min r.end q.end) ≡ false = grind (arith, nat_tests) in
          let with : with_meet common r q ≡ common = rw no refl in
          record {
            within_left = low_i;
            within_right = low_j;
            some = subst (All IsSome) (sym with) h.some;
            ascending = let P : List NumberRange → Type 0 = AllPairs (λ s t. s.end ≤ t.first) in subst P (sym with) h.ascending;
            before = λ k m e a b f g.
                let P : NumberRange → Type 0 = λ s. s.end ≤ max (get_or left k e).first (get_or right m e).first in
                subst (All P) (sym with) (h.before k m e (omega arith) b (omega arith) g);
            whole = λ u v. subst (All IsOfWords) (sym with) (h.whole u v);
            numbers = numbers;
          }
    ]

pub step_left : (left right common : List NumberRange) (i j : ℕ) (d : NumberRange) → AreNumberRanges left → AreNumberRanges right → IsMeeting left right common i j → i < length left → j < length right → (get_or left i d).end ≤ (get_or right j d).end
    → IsMeeting left right (with_meet common (get_or left i d) (get_or right j d)) (i + 1) j
step_left left right common i j d l r h in_i in_j first =
    step left right common i j d (i + 1) j h in_i in_j (omega arith) (omega arith) (omega arith) h.within_right
    (λ k m e a b f g.
    let ends : (get_or left i e).end ≤ (get_or left k e).first = l.ascending i k e (omega arith) b in
    let same : (get_or left i d).end ≡ (get_or left i e).end = ap (λ s. s.end) (get_or_default left i d e in_i) in
    omega arith)
    (λ n.
    rw (have_drop left i n d in_i, have_drop right j n d in_j)
    (pass_left (has n (get_or left i d)) (has n (get_or right j d)) (have (drop (i + 1) left) n) (have (drop (j + 1) right) n) (have common n) (λ yes.
    let below : n < (get_or left i d).end = grind (arith, nat_tests) in
    ap (λ k. have (drop k right) n) (let e : j + 1 ≡ suc j = omega arith in e) ∙ none_later right j n d r in_j (omega arith))))

pub step_right : (left right common : List NumberRange) (i j : ℕ) (d : NumberRange) → AreNumberRanges left → AreNumberRanges right → IsMeeting left right common i j → i < length left → j < length right → (get_or right j d).end < (get_or left i d).end
    → IsMeeting left right (with_meet common (get_or left i d) (get_or right j d)) i (j + 1)
step_right left right common i j d l r h in_i in_j first =
    step left right common i j d i (j + 1) h in_i in_j (omega arith) (omega arith) h.within_left (omega arith)
    (λ k m e a b f g.
    let ends : (get_or right j e).end ≤ (get_or right m e).first = r.ascending j m e (omega arith) g in
    let same : (get_or right j d).end ≡ (get_or right j e).end = ap (λ s. s.end) (get_or_default right j d e in_j) in
    omega arith)
    (λ n.
    rw (have_drop left i n d in_i, have_drop right j n d in_j)
    (pass_right (has n (get_or left i d)) (has n (get_or right j d)) (have (drop (i + 1) left) n) (have (drop (j + 1) right) n) (have common n) (λ yes.
    let below : n < (get_or right j d).end = grind (arith, nat_tests) in
    ap (λ k. have (drop k left) n) (let e : i + 1 ≡ suc i = omega arith in e) ∙ none_later left i n d l in_i (omega arith))))

-- what is met at the end
pub record IsMet (left right common : List NumberRange) : Type 0 where
  pub stretches : AreNumberRanges common
  pub whole : All IsOfWords left → All IsOfWords right → All IsOfWords common
  pub numbers : (n : ℕ) → have common n ≡ (have left n && have right n)

pub meeting_end_left : (left right common : List NumberRange) (i j : ℕ) → IsMeeting left right common i j → length left ≤ i → IsMet left right common
meeting_end_left left right common i j h end = record {
  stretches = record { some = h.some; ascending = h.ascending };
  whole = h.whole;
  numbers = λ n. sym (h.numbers n ∙ ap (λ xs. have common n || (have xs n && have (drop j right) n)) (drop_all i left end) ∙ or_false (have common n));
}

pub meeting_end_right : (left right common : List NumberRange) (i j : ℕ) → IsMeeting left right common i j → length right ≤ j → IsMet left right common
meeting_end_right left right common i j h end = record {
  stretches = record { some = h.some; ascending = h.ascending };
  whole = h.whole;
  numbers = λ n. sym (h.numbers n ∙ ap (λ xs. have common n || (have (drop i left) n && have xs n)) (drop_all j right end) ∙ ap (λ b. have common n || b) (and_comm (have (drop i left) n) false) ∙ or_false (have common n));
}

-- the code's test of the two
pub meets : (common : List NumberRange) (r q : NumberRange) (first end : ℕ) → first ≡ max r.first q.first → end ≡ min r.end q.end → first < end → common ++ record { first = first; end = end } ∷ [] ≡ with_meet common r q
meets common r q first end f e lt =
    let yes : nat_lt (max r.first q.first) (min r.end q.end) ≡ true = grind (arith, nat_tests) in
    rw (f, e, yes) refl

pub misses : (common : List NumberRange) (r q : NumberRange) (first end : ℕ) → first ≡ max r.first q.first → end ≡ min r.end q.end → end ≤ first → common ≡ with_meet common r q
misses common r q first end f e le =
    let no : nat_lt (max r.first q.first) (min r.end q.end) ≡ false = grind (arith, nat_tests) in
    rw no refl
