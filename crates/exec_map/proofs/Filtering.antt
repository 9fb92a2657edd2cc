-- Stretches that are made of the elements of a list.
use Rattle.std.proofs.Common.{◌≡◌, ℕ, zero, suc, ◌+◌, ◌*◌, ◌/◌, ◌^◌, ◌<◌, ◌≤◌, Bool, true, false, ◌||◌, ◌&&◌, inl, inr, Option, Some, None, List, [], ◌∷◌, map, get_or, refl, sym, ap, subst, ◌∙◌, arith}
use Rattle.std.specs.Prelude.{All, AllPairs, nat_lt, nat_le}
use Rattle.std.specs.List.{list_any, list_all, filter_map, cons_option}
use Rattle.std.specs.List.Sorted.{IsNonDecreasingBy}
use Rattle.std.specs.Option.{option_map_or}
use Rattle.std.proofs.lemmas.Bool.{cases_lt, cases_eq, cases_Bool, and_parts, ltb-true, cond-true, cond-false}
use Rattle.std.proofs.lemmas.List.Sums.{AllPass-from_list_all}
use Rattle.std.proofs.lemmas.Bool.Decides.{nat_tests}
use Rattle.std.proofs.lemmas.List.Elements.{All-nil, All-cons, All-head, All-tail}
use Rattle.elf32_read.specs.Elf.{Segment, is_placed}
use Rattle.exec_map.specs.declared.stretches.NumberRange.{NumberRange}
use Rattle.exec_map.specs.Contents.{touches}
use Rattle.exec_map.specs.Refusals.{has_memory}
use Rattle.exec_map.specs.Index.{AreNumberRanges, AreSearchable, IsSome, has, have, end_line, is_of_kind, has_line, lines_of_kind}

or_skip : (b : Bool) (c : Bool) → b ≡ false → (b || c) ≡ c
or_skip b c e = rw e refl

have_one : (n : ℕ) (o : Option NumberRange) (rs : List NumberRange) → have (cons_option o rs) n ≡ (option_map_or (has n) o false || have rs n)
have_one n None rs = refl
have_one n (Some r) rs = refl

pub have_filter_map : {X : Type 0} (f : X → Option NumberRange) (n : ℕ) (xs : List X) → have (filter_map f xs) n ≡ list_any (λ x. option_map_or (has n) (f x) false) xs
have_filter_map f n [] = refl
have_filter_map f n (x ∷ xs) = have_one n (f x) (filter_map f xs) ∙ ap (λ b. option_map_or (has n) (f x) false || b) (have_filter_map f n xs)

all_one : (P : NumberRange → Type 0) (o : Option NumberRange) (rs : List NumberRange) → ((r : NumberRange) → o ≡ Some r → P r) → All P rs → All P (cons_option o rs)
all_one P None rs h all = all
all_one P (Some r) rs h all = All-cons P r rs (h r refl) all

pub All_filter_map : {X : Type 0} (P : NumberRange → Type 0) (Q : X → Type 0) (f : X → Option NumberRange) → ((x : X) (r : NumberRange) → Q x → f x ≡ Some r → P r) → (xs : List X) → All Q xs → All P (filter_map f xs)
All_filter_map P Q f h [] q = All-nil P
All_filter_map P Q f h (x ∷ xs) q = all_one P (f x) (filter_map f xs) (λ r e. h x r (All-head Q x xs q) e) (All_filter_map P Q f h xs (All-tail Q x xs q))

pairs_cons : {X : Type 0} (R : X → X → Type 0) (x : X) (xs : List X) → All (R x) xs → AllPairs R xs → AllPairs R (x ∷ xs)
pairs_cons R x xs h t i zero d lt in_j = absurd (omega arith)
pairs_cons R x xs h t zero (suc j) d lt in_j = h j d (omega arith)
pairs_cons R x xs h t (suc i) (suc j) d lt in_j = t i j d (omega arith) (omega arith)

pairs_head : {X : Type 0} (R : X → X → Type 0) (x : X) (xs : List X) → AllPairs R (x ∷ xs) → All (R x) xs
pairs_head R x xs h k d lt = h 0 (suc k) d (omega arith) (omega arith)

pairs_tail : {X : Type 0} (R : X → X → Type 0) (x : X) (xs : List X) → AllPairs R (x ∷ xs) → AllPairs R xs
pairs_tail R x xs h i j d lt in_j = h (suc i) (suc j) d (omega arith) (omega arith)

pairs_one : (R : NumberRange → NumberRange → Type 0) (o : Option NumberRange) (rs : List NumberRange) → ((r : NumberRange) → o ≡ Some r → All (R r) rs) → AllPairs R rs → AllPairs R (cons_option o rs)
pairs_one R None rs h all = all
pairs_one R (Some r) rs h all = pairs_cons R r rs (h r refl) all

pub pairs_filter_map : {X : Type 0} (R : NumberRange → NumberRange → Type 0) (Q : X → X → Type 0) (f : X → Option NumberRange) → ((x y : X) (r s : NumberRange) → Q x y → f x ≡ Some r → f y ≡ Some s → R r s) → (xs : List X) → AllPairs Q xs → AllPairs R (filter_map f xs)
pairs_filter_map R Q f h [] q = λ i j d lt in_j. absurd (omega arith)
pairs_filter_map R Q f h (x ∷ xs) q =
    pairs_one R (f x) (filter_map f xs)
    (λ r e. All_filter_map (R r) (Q x) f (λ y s qy fy. h x y r s qy e fy) xs (pairs_head Q x xs q))
    (pairs_filter_map R Q f h xs (pairs_tail Q x xs q))

-- the firsts of stretches ascend
pub firsts_ascend : (xs : List NumberRange) → AreNumberRanges xs → IsNonDecreasingBy (λ r. r.first) xs
firsts_ascend xs h i j d le in_j =
    elim (cases_eq i j) [
      | inl e ↦ let P : ℕ → Type 0 = λ k. (get_or xs i d).first ≤ (get_or xs k d).first in subst P e (omega arith)
      | inr ne ↦
          let one : (get_or xs i d).first < (get_or xs i d).end = h.some i d (omega arith) in
          let far : (get_or xs i d).end ≤ (get_or xs j d).first = h.ascending i j d (omega arith) in_j in
          omega arith
    ]

pub filter_map-map : {X Y Z : Type 0} (f : Y → Option Z) (g : X → Y) (xs : List X) → filter_map (λ x. f (g x)) xs ≡ filter_map f (map g xs)
filter_map-map f g [] = refl
filter_map-map f g (x ∷ xs) = ap (cons_option (f (g x))) (filter_map-map f g xs)

none_some : {r : NumberRange} → None ≡ Some r → ⊥
none_some h = cc

same_stretch : (s : Segment) (r : NumberRange) → Some (record { first = s.vaddr / 64; end = end_line s }) ≡ Some r → (r.first ≡ s.vaddr / 64) × (r.end ≡ end_line s)
same_stretch s r h = (ap (λ o. option_map_or (λ q. q.first) o 0) (sym h), ap (λ o. option_map_or (λ q. q.end) o 0) (sym h))

from_test : (v line : ℕ) → nat_le (v / 64) line ≡ nat_lt v (64 * line + 64)
from_test v line =
    elim (cases_lt line (v / 64)) [
      | inl lt ↦ let one : 64 * line + 64 ≤ v = omega arith in grind (arith, nat_tests)
      | inr le ↦ let one : v < 64 * line + 64 = omega arith in grind (arith, nat_tests)
    ]

to_test : (e line : ℕ) → nat_lt line ((e + 63) / 64) ≡ nat_lt (64 * line) e
to_test e line =
    elim (cases_lt line ((e + 63) / 64)) [
      | inl lt ↦ let one : 64 * line < e = omega arith in grind (arith, nat_tests)
      | inr le ↦ let one : e ≤ 64 * line = omega arith in grind (arith, nat_tests)
    ]

touch_test : (s : Segment) (line : ℕ) → has_memory s ≡ true → (nat_le (s.vaddr / 64) line && nat_lt line (end_line s)) ≡ touches line s
touch_test s line some =
    let a : nat_le (s.vaddr / 64) line ≡ nat_lt s.vaddr (64 * line + 64) = from_test s.vaddr line in
    let b : nat_lt line (end_line s) ≡ nat_lt (64 * line) (s.vaddr + s.memsz) = to_test (s.vaddr + s.memsz) line in
    rw (a, b, some) refl

line_is : (kind : Bool) (s : Segment) (r : NumberRange) → lines_of_kind kind s ≡ Some r → (r.first ≡ s.vaddr / 64) × (r.end ≡ end_line s)
line_is kind s r h =
    elim (cases_Bool (is_of_kind kind s)) [
      | inl here ↦ same_stretch s r (sym (cond-true _ _ _ here) ∙ h)
      | inr out ↦ absurd (none_some (sym (cond-false (is_of_kind kind s) (Some (record { first = s.vaddr / 64; end = end_line s })) None out) ∙ h))
    ]

line_some : (s : Segment) (r : NumberRange) → has_memory s ≡ true → (r.first ≡ s.vaddr / 64) × (r.end ≡ end_line s) → IsSome r
line_some s r some is =
    let pos : 0 < s.memsz = ltb-true 0 s.memsz some in
    omega (arith, is.0, is.1)

line_low : (s : Segment) (r : NumberRange) → is_placed s ≡ true → (r.first ≡ s.vaddr / 64) × (r.end ≡ end_line s) → r.end ≤ 2 ^ 26
line_low s r placed is =
    let fits : s.vaddr + s.memsz ≤ 2 ^ 32 = grind (arith, nat_tests) in
    omega (arith, is.1)

lines_ascend : (s t : Segment) (r q : NumberRange) → end_line s ≤ t.vaddr / 64 → (r.first ≡ s.vaddr / 64) × (r.end ≡ end_line s) → (q.first ≡ t.vaddr / 64) × (q.end ≡ end_line t) → r.end ≤ q.first
lines_ascend s t r q far one other = omega (arith, one.1, other.0)

line_has : (kind : Bool) (s : Segment) (line : ℕ) → has_memory s ≡ true → option_map_or (has line) (lines_of_kind kind s) false ≡ has_line kind line s
line_has kind s line some =
    elim (cases_Bool (is_of_kind kind s)) [
      | inl here ↦ ap (λ o. option_map_or (has line) o false) (cond-true _ _ _ here) ∙ touch_test s line some ∙ ap (λ b. b && touches line s) (sym here)
      | inr out ↦ ap (λ o. option_map_or (has line) o false) (cond-false _ _ _ out) ∙ ap (λ b. b && touches line s) (sym out)
    ]

agree_where : {X : Type 0} (m p q : X → Bool) → ((x : X) → m x ≡ true → p x ≡ q x) → (xs : List X) → list_all m xs ≡ true → list_any p xs ≡ list_any q xs
agree_where m p q h [] all = refl
agree_where m p q h (x ∷ xs) all =
    ap (λ b. b || list_any p xs) (h x (and_parts _ _ all).0) ∙ ap (λ b. q x || b) (agree_where m p q h xs (and_parts _ _ all).1)

-- the lines of the segments of a kind
pub lines_stretches : (kind : Bool) (xs : List Segment) → AreSearchable xs → AreNumberRanges (filter_map (lines_of_kind kind) xs)
lines_stretches kind xs h = record {
  some = All_filter_map IsSome (λ s. has_memory s ≡ true) (lines_of_kind kind) (λ s r some is. line_some s r some (line_is kind s r is)) xs (AllPass-from_list_all has_memory xs h.memory);
  ascending = pairs_filter_map (λ r q. r.end ≤ q.first) (λ s t. end_line s ≤ t.vaddr / 64) (lines_of_kind kind) (λ s t r q far r_is q_is. lines_ascend s t r q far (line_is kind s r r_is) (line_is kind t q q_is)) xs h.apart;
}

pub lines_low : (kind : Bool) (xs : List Segment) → AreSearchable xs → All (λ r. r.end ≤ 2 ^ 26) (filter_map (lines_of_kind kind) xs)
lines_low kind xs h = All_filter_map (λ r. r.end ≤ 2 ^ 26) (λ s. is_placed s ≡ true) (lines_of_kind kind) (λ s r placed is. line_low s r placed (line_is kind s r is)) xs (AllPass-from_list_all is_placed xs h.placed)

pub lines_have : (kind : Bool) (xs : List Segment) (line : ℕ) → list_all has_memory xs ≡ true → have (filter_map (lines_of_kind kind) xs) line ≡ list_any (has_line kind line) xs
lines_have kind xs line memory = have_filter_map (lines_of_kind kind) line xs ∙ agree_where has_memory (λ s. option_map_or (has line) (lines_of_kind kind s) false) (has_line kind line) (λ s some. line_has kind s line some) xs memory
