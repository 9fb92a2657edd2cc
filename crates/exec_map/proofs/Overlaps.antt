-- Which segments have a line in common, and how many have a line.
use Rattle.std.proofs.Common.{◌≡◌, ℕ, zero, suc, ◌+◌, ◌*◌, ◌/◌, ◌<◌, ◌≤◌, Bool, true, false, inl, inr, Some, List, [], ◌∷◌, map, length, get_or, refl, sym, ap, subst, ◌∙◌, arith}
use Rattle.std.specs.Prelude.{nat_lt, slice_get}
use Rattle.std.specs.List.{filter}
use Rattle.std.specs.List.Sorted.{IsPermutation}
use Rattle.std.proofs.lemmas.Bool.{cases_lt, cases_eq, cases_Bool, false≢true, and_parts}
use Rattle.std.proofs.lemmas.Bool.Decides.{nat_tests}
use Rattle.std.proofs.lemmas.List.{get_or-map, length-map}
use Rattle.std.proofs.lemmas.List.Sums.{AllPass-from_list_all}
use Rattle.std.proofs.lemmas.List.Recursion.{is_sum_by}
use Rattle.std.proofs.lemmas.List.Sorted.{sum_by-IsPermutation}
use Rattle.std.proofs.lemmas.Option.{get_or_from_slice_get, slice_get-get_or}
use Rattle.elf32_read.specs.Elf.{Segment}
use Rattle.elf32_read.specs.Segments.{segment_of}
use Rattle.elf32_read.specs.declared.Segment as declared
use Rattle.exec_map.specs.Contents.{touches}
use Rattle.exec_map.specs.Refusals.{AreOverlapping, has_memory}
use Rattle.exec_map.specs.Index.{AreSorted, AreApart, end_line, common_line}
use Rattle.exec_map.proofs.Looking.{one_touches}

-- the first line of the later of the two is in both
share : (s t : Segment) → common_line s t ≡ true → (line : ℕ) × (touches line s ≡ true) × (touches line t ≡ true)
share s t h =
    elim (cases_lt (s.vaddr / 64) (t.vaddr / 64)) [
      | inl lt ↦ (t.vaddr / 64, grind (arith, nat_tests), grind (arith, nat_tests))
      | inr le ↦ (s.vaddr / 64, grind (arith, nat_tests), grind (arith, nat_tests))
    ]

shared : (s t : Segment) (line : ℕ) → touches line s ≡ true → touches line t ≡ true → common_line s t ≡ true
shared s t line one other =
    let s_some : nat_lt 0 s.memsz ≡ true = (and_parts _ _ one).0 in
    let t_some : nat_lt 0 t.memsz ≡ true = (and_parts _ _ other).0 in
    let s_from : s.vaddr < 64 * line + 64 = grind (arith, nat_tests) in
    let s_to : 64 * line < s.vaddr + s.memsz = grind (arith, nat_tests) in
    let t_from : t.vaddr < 64 * line + 64 = grind (arith, nat_tests) in
    let t_to : 64 * line < t.vaddr + t.memsz = grind (arith, nat_tests) in
    let a : s.vaddr / 64 < end_line t = omega arith in
    let b : t.vaddr / 64 < end_line s = omega arith in
    grind (arith, nat_tests)

pub overlap_from : (xs : List declared.Segment) (k l : ℕ) (d : declared.Segment) → k < l → l < length xs → common_line (segment_of (get_or xs k d)) (segment_of (get_or xs l d)) ≡ true → AreOverlapping (map segment_of xs) k l
overlap_from xs k l d lt in_l h =
    let line = share (segment_of (get_or xs k d)) (segment_of (get_or xs l d)) h in
    record {
      order = lt;
      one = segment_of (get_or xs k d);
      other = segment_of (get_or xs l d);
      one_is = slice_get-get_or (map segment_of xs) k (segment_of d) (omega (arith, length-map xs segment_of)) ∙ ap Some (get_or-map segment_of xs k d (segment_of d) (omega arith));
      other_is = slice_get-get_or (map segment_of xs) l (segment_of d) (omega (arith, length-map xs segment_of)) ∙ ap Some (get_or-map segment_of xs l d (segment_of d) in_l);
      line = line.0;
      in_one = line.1;
      in_other = line.2;
    }

pub get_within : {X : Type 0} (xs : List X) (i : ℕ) (x : X) → slice_get xs i ≡ Some x → i < length xs
get_within [] i x h = absurd (cc)
get_within (y ∷ ys) zero x h = omega arith
get_within (y ∷ ys) (suc i) x h = let rest = get_within ys i x h in omega arith

pub overlap_within : (xs : List declared.Segment) (k l : ℕ) → AreOverlapping (map segment_of xs) k l → l < length xs
overlap_within xs k l h = let within = get_within (map segment_of xs) l h.other h.other_is in omega (arith, length-map xs segment_of)

pub overlap_to : (xs : List declared.Segment) (k l : ℕ) (d : declared.Segment) → AreOverlapping (map segment_of xs) k l → common_line (segment_of (get_or xs k d)) (segment_of (get_or xs l d)) ≡ true
overlap_to xs k l d h =
    let in_l = overlap_within xs k l h in
    let lt : k < l = h.order in
    let one : segment_of (get_or xs k d) ≡ h.one = sym (get_or-map segment_of xs k d (segment_of d) (omega arith)) ∙ get_or_from_slice_get (map segment_of xs) k h.one (segment_of d) h.one_is in
    let other : segment_of (get_or xs l d) ≡ h.other = sym (get_or-map segment_of xs l d (segment_of d) in_l) ∙ get_or_from_slice_get (map segment_of xs) l h.other (segment_of d) h.other_is in
    ap (λ s. common_line s (segment_of (get_or xs l d))) one ∙ ap (common_line h.one) other ∙ shared h.one h.other h.line h.in_one h.in_other

abbrev bit_of : Bool → ℕ
bit_of true = 1
bit_of false = 0

-- how many pass
abbrev count : {X : Type 0} → (X → Bool) → List X → ℕ
count p [] = 0
count p (x ∷ xs) = bit_of (p x) + count p xs

passes_one : {X : Type 0} (p : X → Bool) (xs : List X) (i : ℕ) (x : X) → slice_get xs i ≡ Some x → p x ≡ true → 1 ≤ count p xs
passes_one p [] i x is here = absurd (cc)
passes_one p (y ∷ ys) zero x is here =
    let same : y ≡ x = cc in
    let one : bit_of (p y) ≡ 1 = ap (λ z. bit_of (p z)) same ∙ ap bit_of here in
    omega arith
passes_one p (y ∷ ys) (suc i) x is here =
    let rest = passes_one p ys i x is here in
    omega arith

passes_two : {X : Type 0} (p : X → Bool) (xs : List X) (i j : ℕ) (x y : X) → i < j → slice_get xs i ≡ Some x → slice_get xs j ≡ Some y → p x ≡ true → p y ≡ true → 2 ≤ count p xs
passes_two p [] i j x y lt is_x is_y here there = absurd (cc)
passes_two p (z ∷ zs) i zero x y lt is_x is_y here there = absurd (omega arith)
passes_two p (z ∷ zs) zero (suc j) x y lt is_x is_y here there =
    let same : z ≡ x = cc in
    let one : bit_of (p z) ≡ 1 = ap (λ q. bit_of (p q)) same ∙ ap bit_of here in
    let rest = passes_one p zs j y is_y there in
    omega arith
passes_two p (z ∷ zs) (suc i) (suc j) x y lt is_x is_y here there =
    let rest = passes_two p zs i j x y (omega arith) is_x is_y here there in
    omega arith

pub record IsPlace {X : Type 0} (p : X → Bool) (xs : List X) : Type 0 where
  pub place : ℕ
  pub item : X
  pub is : slice_get xs place ≡ Some item
  pub passes : p item ≡ true

some_place : {X : Type 0} (p : X → Bool) (xs : List X) → 1 ≤ count p xs → IsPlace p xs
some_place p [] h = absurd (omega arith)
some_place p (x ∷ xs) h =
    elim (cases_Bool (p x)) [
      | inl here ↦ record { place = 0; item = x; is = refl; passes = here }
      | inr out ↦
          let none : bit_of (p x) ≡ 0 = ap bit_of out in
          let rest = some_place p xs (omega arith) in
          record { place = suc rest.place; item = rest.item; is = rest.is; passes = rest.passes }
    ]

pub record ArePlaces {X : Type 0} (p : X → Bool) (xs : List X) : Type 0 where
  pub first : ℕ
  pub second : ℕ
  pub order : first < second
  pub one : X
  pub other : X
  pub one_is : slice_get xs first ≡ Some one
  pub other_is : slice_get xs second ≡ Some other
  pub one_passes : p one ≡ true
  pub other_passes : p other ≡ true

two_places : {X : Type 0} (p : X → Bool) (xs : List X) → 2 ≤ count p xs → ArePlaces p xs
two_places p [] h = absurd (omega arith)
two_places p (x ∷ xs) h =
    elim (cases_Bool (p x)) [
      | inl here ↦
          let one : bit_of (p x) ≡ 1 = ap bit_of here in
          let rest = some_place p xs (omega arith) in
          record { first = 0; second = suc rest.place; order = omega arith; one = x; other = rest.item; one_is = refl; other_is = rest.is; one_passes = here; other_passes = rest.passes }
      | inr out ↦
          let none : bit_of (p x) ≡ 0 = ap bit_of out in
          let rest = two_places p xs (omega arith) in
          let order : rest.first < rest.second = rest.order in
          record { first = suc rest.first; second = suc rest.second; order = omega arith; one = rest.one; other = rest.other; one_is = rest.one_is; other_is = rest.other_is; one_passes = rest.one_passes; other_passes = rest.other_passes }
    ]

-- what has no memory touches no line
count_memory : (line : ℕ) (xs : List Segment) → count (touches line) (filter has_memory xs) ≡ count (touches line) xs
count_memory line [] = refl
count_memory line (x ∷ xs) =
    let rest = count_memory line xs in
    elim (cases_Bool (has_memory x)) [
      | inl here ↦
          let keeps : filter has_memory (x ∷ xs) ≡ x ∷ filter has_memory xs = rw here refl in
          ap (count (touches line)) keeps
          ∙ ap (λ n. bit_of (touches line x) + n) rest
      | inr out ↦
          let drops : filter has_memory (x ∷ xs) ≡ filter has_memory xs = rw out refl in
          let none : touches line x ≡ false = rw out refl in
          let zero_of : bit_of (touches line x) ≡ 0 = ap bit_of none in
          ap (count (touches line)) drops ∙ rest ∙ (let e : count (touches line) xs ≡ count (touches line) (x ∷ xs) = omega arith in e)
    ]

count_sorted : (line : ℕ) (all sorted : List Segment) → IsPermutation (filter has_memory all) sorted → count (touches line) sorted ≡ count (touches line) all
count_sorted line all sorted h =
    let f : Segment → ℕ = λ z. bit_of (touches line z) in
    is_sum_by (count (touches line)) f refl (λ _ _. refl) sorted
    ∙ sum_by-IsPermutation f (filter has_memory all) sorted h
    ∙ sym (is_sum_by (count (touches line)) f refl (λ _ _. refl) (filter has_memory all))
    ∙ count_memory line all

-- segments that are apart by address have no line in common, in whatever order
pub apart_none : (all sorted : List Segment) → IsPermutation (filter has_memory all) sorted → AreApart sorted → (k l : ℕ) → AreOverlapping all k l → ⊥
apart_none all sorted same apart k l h =
    let two : 2 ≤ count (touches h.line) all = passes_two (touches h.line) all k l h.one h.other h.order h.one_is h.other_is h.in_one h.in_other in
    let at = two_places (touches h.line) sorted (omega (arith, count_sorted h.line all sorted same)) in
    let one : get_or sorted at.first at.one ≡ at.one = get_or_from_slice_get sorted at.first at.one at.one at.one_is in
    let other : get_or sorted at.second at.one ≡ at.other = get_or_from_slice_get sorted at.second at.other at.one at.other_is in
    let within = get_within sorted at.second at.other at.other_is in
    let none = one_touches sorted h.line apart at.first at.second at.one at.order within (ap (touches h.line) one ∙ at.one_passes) in
    false≢true (sym none ∙ ap (touches h.line) other ∙ at.other_passes)

in_earlier : (s t : Segment) → s.vaddr ≤ t.vaddr → has_memory s ≡ true → t.vaddr / 64 < end_line s → touches (t.vaddr / 64) s ≡ true
in_earlier s t up some below = grind (arith, nat_tests)

in_itself : (t : Segment) → has_memory t ≡ true → touches (t.vaddr / 64) t ≡ true
in_itself t some = grind (arith, nat_tests)

-- segments by address that have no line in common are apart
pub none_apart : (all sorted : List Segment) → AreSorted all sorted → ((k l : ℕ) → AreOverlapping all k l → ⊥) → AreApart sorted
none_apart all sorted h none i j d lt in_j =
    elim (cases_lt ((get_or sorted j d).vaddr / 64) (end_line (get_or sorted i d))) [
      | inl below ↦
          let s = get_or sorted i d in
          let t = get_or sorted j d in
          let up : s.vaddr ≤ t.vaddr = h.ascending i j d lt in_j in
          let s_some : has_memory s ≡ true = AllPass-from_list_all has_memory sorted h.memory i d (omega arith) in
          let t_some : has_memory t ≡ true = AllPass-from_list_all has_memory sorted h.memory j d in_j in
          let in_s : touches (t.vaddr / 64) s ≡ true = in_earlier s t up s_some below in
          let in_t : touches (t.vaddr / 64) t ≡ true = in_itself t t_some in
          let two = passes_two (touches (t.vaddr / 64)) sorted i j s t lt (slice_get-get_or sorted i d (omega arith)) (slice_get-get_or sorted j d in_j) in_s in_t in
          let at = two_places (touches (t.vaddr / 64)) all (omega (arith, count_sorted (t.vaddr / 64) all sorted h.permutation)) in
          absurd (none at.first at.second (record { order = at.order; one = at.one; other = at.other; one_is = at.one_is; other_is = at.other_is; line = t.vaddr / 64; in_one = at.one_passes; in_other = at.other_passes }))
      | inr le ↦ le
    ]

-- the steps of the search for the first two
pub next_place : (xs : List declared.Segment) (k p : ℕ) (d : declared.Segment) (m : ℕ) → AreOverlapping (map segment_of xs) k m → p ≤ m → common_line (segment_of (get_or xs k d)) (segment_of (get_or xs p d)) ≡ false → p + 1 ≤ m
next_place xs k p d m h le none =
    elim (cases_eq p m) [
      | inl e ↦
          let P : ℕ → Type 0 = λ q. common_line (segment_of (get_or xs k d)) (segment_of (get_or xs q d)) ≡ false in
          absurd (false≢true (sym (subst P e none) ∙ overlap_to xs k m d h))
      | inr ne ↦ omega arith
    ]

pub next_first : (xs : List declared.Segment) (i p k m : ℕ) → AreOverlapping (map segment_of xs) k m → i ≤ k → ((m : ℕ) → AreOverlapping (map segment_of xs) i m → p ≤ m) → length xs ≤ p → i + 1 ≤ k
next_first xs i p k m h le far end =
    elim (cases_eq i k) [
      | inl e ↦
          let P : ℕ → Type 0 = λ q. AreOverlapping (map segment_of xs) q m in
          let here = far m (subst P (sym e) h) in
          let within = overlap_within xs k m h in
          absurd (omega arith)
      | inr ne ↦ omega arith
    ]
