-- The segments that have memory, sorted.
use Rattle.std.proofs.Common.{◌≡◌, ℕ, ◌<◌, ◌≤◌, Bool, true, false, cond, List, [], ◌∷◌, map, length, get_or, refl, ap, subst, ◌∙◌, arith}
use Rattle.std.specs.List.{filter}
use Rattle.std.specs.List.Sorted.{IsPermutation, IsNonDecreasingBy}
use Rattle.std.proofs.lemmas.List.{get_or-map, length-map}
use Rattle.std.proofs.lemmas.List.Elements.{All-filter, filter_passes}
use Rattle.std.proofs.lemmas.List.Sums.{AllPass-from_list_all, list_all-from_AllPass}
use Rattle.std.proofs.lemmas.List.Sorted.{IsPermutation-map, All-permutation}
use Rattle.elf32_read.specs.Elf.{Segment, are_placed, is_placed}
use Rattle.elf32_read.specs.Segments.{segment_of}
use Rattle.elf32_read.specs.declared.Segment as declared
use Rattle.exec_map.specs.Refusals.{has_memory}
use Rattle.exec_map.specs.Index.{AreSorted}

filter-map : {X Y : Type 0} (p : Y → Bool) (f : X → Y) (xs : List X) → map f (filter (λ x. p (f x)) xs) ≡ filter p (map f xs)
filter-map p f [] = refl
filter-map p f (x ∷ xs) =
    elim (p (f x)) as (λ b. map f (cond b (x ∷ filter (λ y. p (f y)) xs) (filter (λ y. p (f y)) xs)) ≡ cond b (f x ∷ filter p (map f xs)) (filter p (map f xs))) [
      | true ↦ ap (λ ys. f x ∷ ys) (filter-map p f xs)
      | false ↦ filter-map p f xs
    ]

up_map : (xs : List declared.Segment) → IsNonDecreasingBy (λ s. s.vaddr) xs → (i j : ℕ) (d : Segment) → i < j → j < length xs → (get_or (map segment_of xs) i d).vaddr ≤ (get_or (map segment_of xs) j d).vaddr
up_map [] up i j d lt in_j = absurd (omega arith)
up_map (x ∷ xs) up i j d lt in_j =
    let le : (get_or (x ∷ xs) i x).vaddr ≤ (get_or (x ∷ xs) j x).vaddr = up i j x (omega arith) in_j in
    let a : (get_or (map segment_of (x ∷ xs)) i d).vaddr ≡ (get_or (x ∷ xs) i x).vaddr = ap (λ s. s.vaddr) (get_or-map segment_of (x ∷ xs) i x d (omega arith)) in
    let b : (get_or (map segment_of (x ∷ xs)) j d).vaddr ≡ (get_or (x ∷ xs) j x).vaddr = ap (λ s. s.vaddr) (get_or-map segment_of (x ∷ xs) j x d in_j) in
    omega arith

pub sorted_is : (all kept sorted : List declared.Segment) → are_placed (map segment_of all) ≡ true → kept ≡ filter (λ s. has_memory (segment_of s)) all → IsPermutation kept sorted → IsNonDecreasingBy (λ s. s.vaddr) sorted → AreSorted (map segment_of all) (map segment_of sorted)
sorted_is all kept sorted placed is same up =
    let from : map segment_of kept ≡ filter has_memory (map segment_of all) = ap (map segment_of) is ∙ filter-map has_memory segment_of all in
    let permutation : IsPermutation (filter has_memory (map segment_of all)) (map segment_of sorted) = subst (λ ys. IsPermutation ys (map segment_of sorted)) from (IsPermutation-map segment_of kept sorted same) in
    let P : Segment → Type 0 = λ s. is_placed s ≡ true in
    let M : Segment → Type 0 = λ s. has_memory s ≡ true in
    record {
      permutation = permutation;
      placed = list_all-from_AllPass is_placed (map segment_of sorted) (All-permutation P (filter has_memory (map segment_of all)) (map segment_of sorted) permutation (All-filter has_memory P (map segment_of all) (AllPass-from_list_all is_placed (map segment_of all) placed)));
      memory = list_all-from_AllPass has_memory (map segment_of sorted) (All-permutation M (filter has_memory (map segment_of all)) (map segment_of sorted) permutation (filter_passes has_memory (map segment_of all)));
      ascending = λ i j d lt in_j. up_map sorted up i j d lt (omega (arith, length-map sorted segment_of));
    }
