-- Searches in segments of which no two have a line in common.
use Rattle.std.proofs.Common.{◌≡◌, ℕ, zero, suc, ◌+◌, ◌-◌, ◌*◌, ◌/◌, ◌<◌, ◌≤◌, Bool, true, false, ◌||◌, cond, inl, inr, Option, Some, None, List, [], ◌∷◌, map, length, get_or, refl, sym, ap, subst, ◌∙◌, arith}
use Rattle.std.specs.Prelude.{All, AllPairs, find, nat_lt}
use Rattle.std.specs.List.{list_any, AllWithin, filter}
use Rattle.std.specs.List.Sorted.{IsPermutation}
use Rattle.std.specs.Option.{option_and_then, option_map_or}
use Rattle.std.proofs.lemmas.Bool.{cases_lt, cases_order, cases_Bool, false≢true}
use Rattle.std.proofs.lemmas.Bool.Decides.{nat_tests}
use Rattle.std.proofs.lemmas.List.Elements.{All-nil, All-cons, All-head, All-tail}
use Rattle.std.proofs.lemmas.List.Sums.{AllPass-from_list_all}
use Rattle.std.proofs.lemmas.List.Sorted.{All-permutation, Contains-permutation}
use Rattle.std.proofs.lemmas.List.Recursion.{found_at, found_nowhere, or_from_places}
use Rattle.std.proofs.lemmas.Bool.{cases_eq}
use Rattle.std.proofs.lemmas.List.{get_or-map, length-map}
use Rattle.std.specs.List.Sorted.{IsNonDecreasingBy}
use Rattle.elf32_read.specs.Segments.{segment_of}
use Rattle.elf32_read.specs.declared.Segment as declared
use Rattle.std.proofs.lemmas.Bool.{and_parts, and_from, leb-true, le-leb, lt-ltb}
use Rattle.exec_map.specs.Contents.{is_executable}
use Rattle.exec_map.specs.Refusals.{is_within}
use Rattle.elf32_read.specs.Elf.{Elf, Section, Segment, are_placed, is_placed}
use Rattle.std.specs.Prelude.{slice_index}
use Rattle.std.specs.List.{Contains}
use Rattle.std.proofs.Math.Path.{fun_ext}
use Rattle.std.proofs.lemmas.Bool.{cond-true, cond-false}
use Rattle.exec_map.specs.Contents.{touches, holds, byte_of, first_byte}
use Rattle.exec_map.specs.Refusals.{has_memory}
use Rattle.exec_map.specs.Index.{AreSearchable, AreApart, end_line}

fails : {X : Type 0} (p t : X → Bool) (x : X) → (p x ≡ true → t x ≡ true) → t x ≡ false → p x ≡ false
fails p t x h e = elim (cases_Bool (p x)) [ inl is_so ↦ absurd (false≢true (sym e ∙ h is_so)) | inr is_not ↦ is_not ]

later_fails : {X : Type 0} (p t : X → Bool) (x : X) (xs : List X) → All (λ x. p x ≡ true → t x ≡ true) (x ∷ xs) → AllPairs (λ x y. t x ≡ true → t y ≡ false) (x ∷ xs) → t x ≡ true → (k : ℕ) → k < length xs → p (get_or xs k x) ≡ false
later_fails p t x xs up one is_so k lt =
    let other : t (get_or xs k x) ≡ false = one 0 (suc k) x (omega arith) (omega arith) is_so in
    fails p t (get_or xs k x) (up (suc k) x (omega arith)) other

pairs_tail : {X : Type 0} (R : X → X → Type 0) (x : X) (xs : List X) → AllPairs R (x ∷ xs) → AllPairs R xs
pairs_tail R x xs h i j d lt in_j = h (suc i) (suc j) d (omega arith) (omega arith)

-- what passes the test is where another passes, which passes at one place alone
pub find_only : {X : Type 0} (p t : X → Bool) (xs : List X) → All (λ x. p x ≡ true → t x ≡ true) xs → AllPairs (λ x y. t x ≡ true → t y ≡ false) xs → find p xs ≡ option_and_then (λ s. cond (p s) (Some s) None) (find t xs)
find_only p t [] up one = refl
find_only p t (x ∷ xs) up one =
    elim (cases_Bool (t x)) [
      | inl is_so ↦
          let none : find p xs ≡ None = found_nowhere (find p) p Some None refl (λ _ _. refl) xs x (later_fails p t x xs up one is_so) in
          rw (is_so, none) refl
      | inr is_not ↦
          let here : p x ≡ false = fails p t x (All-head (λ x. p x ≡ true → t x ≡ true) x xs up) is_not in
          rw (is_not, here) (find_only p t xs (All-tail (λ x. p x ≡ true → t x ≡ true) x xs up) (pairs_tail (λ x y. t x ≡ true → t y ≡ false) x xs one))
    ]

or_false : (b : Bool) → (b || false) ≡ b
or_false true = refl
or_false false = refl

pub any_only : {X : Type 0} (p t : X → Bool) (xs : List X) → All (λ x. p x ≡ true → t x ≡ true) xs → AllPairs (λ x y. t x ≡ true → t y ≡ false) xs → list_any p xs ≡ option_map_or p (find t xs) false
any_only p t [] up one = refl
any_only p t (x ∷ xs) up one =
    elim (cases_Bool (t x)) [
      | inl is_so ↦
          let none : list_any p xs ≡ false = or_from_places (list_any p) p refl (λ _ _. refl) xs x (later_fails p t x xs up one is_so) in
          rw (is_so, none) (or_false (p x))
      | inr is_not ↦
          let here : p x ≡ false = fails p t x (All-head (λ x. p x ≡ true → t x ≡ true) x xs up) is_not in
          rw (is_not, here) (any_only p t xs (All-tail (λ x. p x ≡ true → t x ≡ true) x xs up) (pairs_tail (λ x y. t x ≡ true → t y ≡ false) x xs one))
    ]

beyond : (s t : Segment) (line : ℕ) → end_line s ≤ t.vaddr / 64 → touches line s ≡ true → touches line t ≡ false
beyond s t line far is_so =
    let low : 64 * line < s.vaddr + s.memsz = grind (arith, nat_tests) in
    let high : nat_lt t.vaddr (64 * line + 64) ≡ false = grind (arith, nat_tests) in
    grind (arith, nat_tests)

-- a line is in one of them
pub one_touches : (xs : List Segment) (line : ℕ) → AreApart xs → AllPairs (λ s t. touches line s ≡ true → touches line t ≡ false) xs
one_touches xs line apart i j d lt in_j is_so =
    let far : end_line (get_or xs i d) ≤ (get_or xs j d).vaddr / 64 = apart i j d lt in_j in
    beyond (get_or xs i d) (get_or xs j d) line far is_so

passed_by : (s : Segment) (line : ℕ) → end_line s ≤ line → touches line s ≡ false
passed_by s line h =
    let out : nat_lt (64 * line) (s.vaddr + s.memsz) ≡ false = grind (arith, nat_tests) in
    grind (arith, nat_tests)

ahead_of : (s : Segment) (line : ℕ) → line < s.vaddr / 64 → touches line s ≡ false
ahead_of s line h =
    let out : nat_lt s.vaddr (64 * line + 64) ≡ false = grind (arith, nat_tests) in
    grind (arith, nat_tests)

-- where none before a place touches the line, the one there does or none
pub touch_at : (xs : List Segment) (line p : ℕ) (d : Segment) → AreSearchable xs → AllWithin (λ s. end_line s ≤ line) xs 0 p → AllWithin (λ s. line < end_line s) xs p (length xs) → p < length xs → find (touches line) xs ≡ cond (touches line (get_or xs p d)) (Some (get_or xs p d)) None
touch_at xs line p d h passed ahead lt =
    elim (cases_Bool (touches line (get_or xs p d))) [
      | inl is_so ↦ rw is_so (found_at (find (touches line)) (touches line) Some None refl (λ _ _. refl) xs p d lt (λ k low. passed_by (get_or xs k d) line (passed k d (omega arith) low)) is_so)
      | inr is_not ↦
          rw is_not (found_nowhere (find (touches line)) (touches line) Some None refl (λ _ _. refl) xs d (λ k in_k. elim (cases_order k p) [
            | inl e ↦ let P : ℕ → Type 0 = λ q. touches line (get_or xs q d) ≡ false in subst P (sym e) is_not
            | inr (inl low) ↦ passed_by (get_or xs k d) line (passed k d (omega arith) low)
            | inr (inr high) ↦
                let far : end_line (get_or xs p d) ≤ (get_or xs k d).vaddr / 64 = h.apart p k d high in_k in
                let here : line < end_line (get_or xs p d) = ahead p d (omega arith) lt in
                ahead_of (get_or xs k d) line (omega arith)
          ]))
    ]

pub touch_none : (xs : List Segment) (line : ℕ) (d : Segment) → AllWithin (λ s. end_line s ≤ line) xs 0 (length xs) → find (touches line) xs ≡ None
touch_none xs line d passed = found_nowhere (find (touches line)) (touches line) Some None refl (λ _ _. refl) xs d (λ k in_k. passed_by (get_or xs k d) line (passed k d (omega arith) in_k))

-- an address that the file has for a segment is in a line of it
holds_touches : (s : Segment) (a : ℕ) → is_placed s ≡ true → holds a s ≡ true → touches (a / 64) s ≡ true
holds_touches s a placed h =
    let fits : length s.bytes ≤ s.memsz = grind (arith, nat_tests) in
    let from : s.vaddr ≤ a = grind (arith, nat_tests) in
    let to : a < s.vaddr + length s.bytes = grind (arith, nat_tests) in
    let one : nat_lt 0 s.memsz ≡ true = grind (arith, nat_tests) in
    let two : nat_lt s.vaddr (64 * (a / 64) + 64) ≡ true = grind (arith, nat_tests) in
    let three : nat_lt (64 * (a / 64)) (s.vaddr + s.memsz) ≡ true = grind (arith, nat_tests) in
    grind (arith, nat_tests)

pub all_hold : (xs : List Segment) (a : ℕ) → are_placed xs ≡ true → All (λ s. holds a s ≡ true → touches (a / 64) s ≡ true) xs
all_hold xs a placed k d lt h = holds_touches (get_or xs k d) a (AllPass-from_list_all is_placed xs placed k d lt) h

pub find_holds : (xs : List Segment) (a : ℕ) → AreSearchable xs → find (holds a) xs ≡ option_and_then (λ s. cond (holds a s) (Some s) None) (find (touches (a / 64)) xs)
find_holds xs a h = find_only (holds a) (touches (a / 64)) xs (all_hold xs a h.placed) (one_touches xs (a / 64) h.apart)

-- what holds at each place of a list's values
pub at_map : {X Y : Type 0} (f : X → Y) (xs : List X) (k : ℕ) (d : Y) (P : Y → Type 0) → k < length xs → ((e : X) → P (f (get_or xs k e))) → P (get_or (map f xs) k d)
at_map f [] k d P lt h = absurd (omega arith)
at_map f (x ∷ xs) zero d P lt h = h x
at_map f (x ∷ xs) (suc k) d P lt h = at_map f xs k d P (omega arith) h

pub ends_ascend : (xs : List declared.Segment) → AreSearchable (map segment_of xs) → IsNonDecreasingBy (λ s. end_line (segment_of s)) xs
ends_ascend xs h i j d le in_j =
    elim (cases_eq i j) [
      | inl e ↦ let P : ℕ → Type 0 = λ k. end_line (segment_of (get_or xs i d)) ≤ end_line (segment_of (get_or xs k d)) in subst P e (omega arith)
      | inr ne ↦
          let far : end_line (get_or (map segment_of xs) i (segment_of d)) ≤ (get_or (map segment_of xs) j (segment_of d)).vaddr / 64 =
          h.apart i j (segment_of d) (omega arith) (omega (arith, length-map xs segment_of)) in
          let Q : Segment → Segment → Type 0 = λ s t. end_line s ≤ t.vaddr / 64 in
          let far' : end_line (segment_of (get_or xs i d)) ≤ (segment_of (get_or xs j d)).vaddr / 64 =
          subst (λ s. Q s (segment_of (get_or xs j d))) (get_or-map segment_of xs i d (segment_of d) (omega arith)) (subst (Q (get_or (map segment_of xs) i (segment_of d))) (get_or-map segment_of xs j d (segment_of d) in_j) far) in
          omega arith
    ]

pub find_here : (xs : List declared.Segment) (line p : ℕ) (s : declared.Segment) → AreSearchable (map segment_of xs) → AllWithin (λ t. end_line t ≤ line) (map segment_of xs) 0 p → AllWithin (λ t. line < end_line t) (map segment_of xs) p (length xs) → p < length xs → s ≡ get_or xs p s
    → find (touches line) (map segment_of xs) ≡ cond (touches line (segment_of s)) (Some (segment_of s)) None
find_here xs line p s h passed ahead lt is =
    let e : get_or (map segment_of xs) p (segment_of s) ≡ segment_of s = get_or-map segment_of xs p s (segment_of s) lt ∙ ap segment_of (sym is) in
    let P : Segment → Type 0 = λ t. find (touches line) (map segment_of xs) ≡ cond (touches line t) (Some t) None in
    subst P e (touch_at (map segment_of xs) line p (segment_of s) h passed (λ k d low high. ahead k d low (omega (arith, length-map xs segment_of))) (omega (arith, length-map xs segment_of)))

pub find_nowhere : (xs : List declared.Segment) (line p : ℕ) → AllWithin (λ t. end_line t ≤ line) (map segment_of xs) 0 p → length xs ≤ p → find (touches line) (map segment_of xs) ≡ None
find_nowhere xs line p passed le =
    touch_none (map segment_of xs) line (record { flags = 0; vaddr = 0; memsz = 0; bytes = [] }) (λ k d low high. passed k d low (omega (arith, length-map xs segment_of)))

-- from the look-up of a line to that of an address
pub holds_here : (xs : List Segment) (a : ℕ) (s : Segment) → AreSearchable xs → Some s ≡ find (touches (a / 64)) xs → find (holds a) xs ≡ cond (holds a s) (Some s) None
holds_here xs a s h is = find_holds xs a h ∙ ap (option_and_then (λ t. cond (holds a t) (Some t) None)) (sym is)

pub holds_nowhere : (xs : List Segment) (a : ℕ) → AreSearchable xs → None ≡ find (touches (a / 64)) xs → find (holds a) xs ≡ None
holds_nowhere xs a h is = find_holds xs a h ∙ ap (option_and_then (λ t. cond (holds a t) (Some t) None)) (sym is)

ap_suc : (xs : List Segment) → ((k : ℕ) (d : Segment) → k + 1 < length xs → end_line (get_or xs k d) ≤ (get_or xs (k + 1) d).vaddr / 64) → (j : ℕ) (d : Segment) → suc j < length xs → end_line (get_or xs j d) ≤ (get_or xs (suc j) d).vaddr / 64
ap_suc xs h j d lt =
    let P : ℕ → Type 0 = λ k. end_line (get_or xs j d) ≤ (get_or xs k d).vaddr / 64 in
    let e : j + 1 ≡ suc j = omega arith in
    subst P e (h j d (omega arith))

-- where each ends before the next, each ends before all later ones
pub adjacent_apart : (xs : List Segment) → ((k : ℕ) (d : Segment) → k + 1 < length xs → end_line (get_or xs k d) ≤ (get_or xs (k + 1) d).vaddr / 64) → AreApart xs
adjacent_apart xs h i zero d lt in_j = absurd (omega arith)
adjacent_apart xs h i (suc j) d lt in_j =
    let next : end_line (get_or xs j d) ≤ (get_or xs (suc j) d).vaddr / 64 = ap_suc xs h j d in_j in
    elim (cases_eq i j) [
      | inl e ↦ let P : ℕ → Type 0 = λ k. end_line (get_or xs k d) ≤ (get_or xs (suc j) d).vaddr / 64 in subst P (sym e) next
      | inr ne ↦
          let before : end_line (get_or xs i d) ≤ (get_or xs j d).vaddr / 64 = adjacent_apart xs h i j d (omega arith) (omega arith) in
          omega arith
    ]

-- not where one ends after the line of the next
pub not_apart : (xs : List declared.Segment) (p : ℕ) (d : declared.Segment) (from to : ℕ) → 1 ≤ p → p < length xs → from ≡ (get_or xs p d).vaddr / 64 → to ≡ end_line (segment_of (get_or xs (p - 1) d)) → from < to → AreApart (map segment_of xs) → ⊥
not_apart xs p d from to pos lt from_is to_is over apart =
    let far : end_line (get_or (map segment_of xs) (p - 1) (segment_of d)) ≤ (get_or (map segment_of xs) p (segment_of d)).vaddr / 64 =
    apart (p - 1) p (segment_of d) (omega arith) (omega (arith, length-map xs segment_of)) in
    let a : end_line (get_or (map segment_of xs) (p - 1) (segment_of d)) ≡ end_line (segment_of (get_or xs (p - 1) d)) = ap end_line (get_or-map segment_of xs (p - 1) d (segment_of d) (omega arith)) in
    let b : (get_or (map segment_of xs) p (segment_of d)).vaddr ≡ (segment_of (get_or xs p d)).vaddr = ap (λ s. s.vaddr) (get_or-map segment_of xs p d (segment_of d) lt) in
    let c : (get_or (map segment_of xs) p (segment_of d)).vaddr / 64 ≡ (segment_of (get_or xs p d)).vaddr / 64 = ap (λ n. n / 64) b in
    omega arith

-- one more place
pub apart_more : (xs : List declared.Segment) (p : ℕ) (d : declared.Segment) (from to k : ℕ) (e : Segment) → 1 ≤ p → p < length xs → from ≡ (get_or xs p d).vaddr / 64 → to ≡ end_line (segment_of (get_or xs (p - 1) d)) → to ≤ from
    → ((k : ℕ) (e : Segment) → k + 1 < p → end_line (get_or (map segment_of xs) k e) ≤ (get_or (map segment_of xs) (k + 1) e).vaddr / 64) → k + 1 < p + 1 → end_line (get_or (map segment_of xs) k e) ≤ (get_or (map segment_of xs) (k + 1) e).vaddr / 64
apart_more xs p d from to k e pos lt from_is to_is here before low =
    elim (cases_lt (k + 1) p) [
      | inl less ↦ before k e less
      | inr le ↦
          let at : p - 1 ≡ k = omega arith in
          let at' : p ≡ k + 1 = omega arith in
          let P : ℕ → Type 0 = λ q. end_line (get_or (map segment_of xs) q e) ≤ (get_or (map segment_of xs) (k + 1) e).vaddr / 64 in
          let Q : ℕ → Type 0 = λ q. end_line (get_or (map segment_of xs) (p - 1) e) ≤ (get_or (map segment_of xs) q e).vaddr / 64 in
          let a : end_line (get_or (map segment_of xs) (p - 1) e) ≡ end_line (segment_of (get_or xs (p - 1) d)) = ap end_line (get_or-map segment_of xs (p - 1) d e (omega arith)) in
          let b : (get_or (map segment_of xs) p e).vaddr / 64 ≡ (segment_of (get_or xs p d)).vaddr / 64 = ap (λ s. s.vaddr / 64) (get_or-map segment_of xs p d e lt) in
          let q : end_line (get_or (map segment_of xs) (p - 1) e) ≤ (get_or (map segment_of xs) p e).vaddr / 64 = omega arith in
          subst P at (subst Q at' q)
    ]

-- a section of some bytes that a segment's bytes have begins in a line of the segment
within_touches : (s : Section) (t : Segment) → is_placed t ≡ true → 0 < s.size → is_within s t ≡ true → touches (s.addr / 64) t ≡ true
within_touches s t placed some h =
    let parts = and_parts (is_executable t) _ h in
    let from : t.vaddr ≤ s.addr = leb-true _ _ (and_parts _ _ parts.1).0 in
    let to : s.addr + s.size ≤ t.vaddr + length t.bytes = leb-true _ _ (and_parts _ _ parts.1).1 in
    let one : holds s.addr t ≡ true = and_from _ _ (le-leb _ _ from) (lt-ltb _ _ (omega arith)) in
    holds_touches t s.addr placed one

pub within_one : (s : Section) (xs : List Segment) → AreSearchable xs → 0 < s.size → list_any (is_within s) xs ≡ option_map_or (is_within s) (find (touches (s.addr / 64)) xs) false
within_one s xs h some = any_only (is_within s) (touches (s.addr / 64)) xs (λ k d lt w. within_touches s (get_or xs k d) (AllPass-from_list_all is_placed xs h.placed k d lt) some w) (one_touches xs (s.addr / 64) h.apart)

-- a search that one place alone passes finds the same in whatever order
some_same : {X : Type 0} {x y : X} → Some x ≡ Some y → x ≡ y
some_same h = cc

none_some : {X : Type 0} {x : X} → None ≡ Some x → ⊥
none_some h = cc

later_in : {X : Type 0} (ys : List X) (k : ℕ) → k < length ys → suc k < suc (length ys)
later_in ys k lt = omega arith

pub find_some : {X : Type 0} (p : X → Bool) (xs : List X) (x : X) → find p xs ≡ Some x → (p x ≡ true) × Contains xs x
find_some p [] x h = absurd (cc)
find_some p (y ∷ ys) x h =
    elim (cases_Bool (p y)) [
      | inl here ↦
          let is : Some y ≡ Some x = sym (cond-true _ _ _ here) ∙ h in
          let same : y ≡ x = some_same is in
          (subst (λ z. p z ≡ true) same here, (0, omega arith, same))
      | inr out ↦
          let rest = find_some p ys x (sym (cond-false (p y) (Some y) (find p ys) out) ∙ h) in
          (rest.0, (suc rest.1.0, later_in ys rest.1.0 rest.1.1, rest.1.2))
    ]

find_none : {X : Type 0} (p : X → Bool) (xs : List X) → find p xs ≡ None → All (λ x. p x ≡ false) xs
find_none p [] h = All-nil (λ x. p x ≡ false)
find_none p (y ∷ ys) h =
    elim (cases_Bool (p y)) [
      | inl here ↦ absurd (none_some (sym h ∙ cond-true _ _ _ here))
      | inr out ↦ All-cons (λ x. p x ≡ false) y ys out (find_none p ys (sym (cond-false (p y) (Some y) (find p ys) out) ∙ h))
    ]

before_fails : {X : Type 0} (p : X → Bool) (ys : List X) (k l : ℕ) (d : X) → AllPairs (λ x y. p x ≡ true → p y ≡ false) ys → k < l → l < length ys → p (get_or ys l d) ≡ true → p (get_or ys k d) ≡ false
before_fails p ys k l d one low lt here =
    elim (cases_Bool (p (get_or ys k d))) [ inl it ↦ absurd (false≢true (sym (one k l d low lt it) ∙ here)) | inr n ↦ n ]

by_found : {X : Type 0} (p : X → Bool) (xs ys : List X) → IsPermutation xs ys → AllPairs (λ x y. p x ≡ true → p y ≡ false) ys → (o : Option X) → find p xs ≡ o → find p ys ≡ find p xs
by_found p xs [] same one None is = sym is
by_found p xs (y ∷ ys) same one None is =
    let none = All-permutation (λ x. p x ≡ false) xs (y ∷ ys) same (find_none p xs is) in
    found_nowhere (find p) p Some None refl (λ _ _. refl) (y ∷ ys) y (λ k lt. none k y lt) ∙ sym is
by_found p xs ys same one (Some x) is =
    let at = find_some p xs x is in
    let there = Contains-permutation xs ys x same at.1 in
    let here : p (get_or ys there.0 x) ≡ true = ap p there.2 ∙ at.0 in
    found_at (find p) p Some None refl (λ _ _. refl) ys there.0 x there.1 (λ k low. before_fails p ys k there.0 x one low there.1 here) here
    ∙ ap Some there.2 ∙ sym is

pub find_permutation : {X : Type 0} (p : X → Bool) (xs ys : List X) → IsPermutation xs ys → AllPairs (λ x y. p x ≡ true → p y ≡ false) ys → find p ys ≡ find p xs
find_permutation p xs ys same one = by_found p xs ys same one (find p xs) refl

pub find_memory : (p : Segment → Bool) (xs : List Segment) → are_placed xs ≡ true → ((s : Segment) → is_placed s ≡ true → p s ≡ true → has_memory s ≡ true) → find p (filter has_memory xs) ≡ find p xs
find_memory p [] placed up = refl
find_memory p (x ∷ xs) placed up =
    let rest = find_memory p xs (and_parts _ _ placed).1 up in
    elim (cases_Bool (has_memory x)) [
      | inl here ↦
          let keeps : filter has_memory (x ∷ xs) ≡ x ∷ filter has_memory xs = cond-true _ _ _ here in
          ap (find p) keeps ∙ ap (cond (p x) (Some x)) rest
      | inr out ↦
          let drops : filter has_memory (x ∷ xs) ≡ filter has_memory xs = cond-false _ _ _ out in
          let none : p x ≡ false = elim (cases_Bool (p x)) [ inl here ↦ absurd (false≢true (sym out ∙ up x (and_parts _ _ placed).0 here)) | inr n ↦ n ] in
          ap (find p) drops ∙ rest ∙ sym (cond-false _ _ _ none)
    ]

-- the class of a line and the byte of an address, by the sorted segments
pub touches_same : (all xs : List Segment) (line : ℕ) → are_placed all ≡ true → IsPermutation (filter has_memory all) xs → AreSearchable xs → find (touches line) xs ≡ find (touches line) all
touches_same all xs line placed same h =
    find_permutation (touches line) (filter has_memory all) xs same (one_touches xs line h.apart)
    ∙ find_memory (touches line) all placed (λ s _ t. (and_parts _ _ t).0)

one_holds : (xs : List Segment) (a : ℕ) → AreSearchable xs → AllPairs (λ s t. holds a s ≡ true → holds a t ≡ false) xs
one_holds xs a h i j d lt in_j it =
    let i_placed = AllPass-from_list_all is_placed xs h.placed i d (omega arith) in
    let j_placed = AllPass-from_list_all is_placed xs h.placed j d in_j in
    let out = one_touches xs (a / 64) h.apart i j d lt in_j (holds_touches (get_or xs i d) a i_placed it) in
    elim (cases_Bool (holds a (get_or xs j d))) [ inl here ↦ absurd (false≢true (sym out ∙ holds_touches (get_or xs j d) a j_placed here)) | inr n ↦ n ]

pub holds_same : (all xs : List Segment) (a : ℕ) → are_placed all ≡ true → IsPermutation (filter has_memory all) xs → AreSearchable xs → find (holds a) xs ≡ find (holds a) all
holds_same all xs a placed same h =
    find_permutation (holds a) (filter has_memory all) xs same (one_holds xs a h)
    ∙ find_memory (holds a) all placed (λ s p t. (and_parts _ _ (holds_touches s a p t)).0)

pub bytes_same : (e : Elf) (xs : List Segment) → are_placed e.segments ≡ true → IsPermutation (filter has_memory e.segments) xs → AreSearchable xs → byte_of xs ≡ first_byte e
bytes_same e xs placed same h = fun_ext (λ a. ap (λ o. option_map_or (λ s. slice_index s.bytes (a - s.vaddr)) o 0) (holds_same e.segments xs a placed same h))
