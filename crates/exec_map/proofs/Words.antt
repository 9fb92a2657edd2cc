-- Where the code words stand, by stretches.
use Rattle.std.proofs.Common.{◌≡◌, ℕ, ◌+◌, ◌-◌, ◌*◌, ◌/◌, ◌%◌, ◌^◌, ◌<◌, ◌≤◌, Bool, true, false, ◌||◌, ◌&&◌, inl, inr, Some, None, List, [], ◌∷◌, map, length, get_or, refl, sym, ap, subst, ◌∙◌, arith, min}
use Rattle.std.specs.Prelude.{All, nat_lt, nat_le, ◌==◌, position}
use Rattle.std.specs.List.{list_any, filter, filter_map, position_or_len}
use Rattle.std.specs.List.Sorted.{IsPermutation}
use Rattle.std.specs.Option.{option_map_or}
use Rattle.std.proofs.lemmas.Bool.{cases_lt, cases_eq, cases_Bool, and_parts, false≢true, or_cases, and_from, or_left, or_right, ne_eqb, lt-ltb, le-ltb, cond-true, cond-false}
use Rattle.std.proofs.lemmas.Bool.Decides.{nat_tests}
use Rattle.std.proofs.lemmas.List.Sums.{AllPass-from_list_all, fails_before_first}
use Rattle.std.proofs.lemmas.List.Sorted.{list_any-IsPermutation}
use Rattle.std.proofs.lemmas.List.Recursion.{or_from_places}
use Rattle.elf32_read.specs.Elf.{Elf, Segment, Section, are_placed, is_placed}
use Rattle.elf32_read.specs.Segments.{section_of}
use Rattle.elf32_read.specs.declared.Section as declared_section
use Rattle.exec_map.specs.declared.stretches.NumberRange.{NumberRange}
use Rattle.exec_map.specs.Contents.{is_executable, is_code_section, is_in_code_range, segment_has, section_has, holds_word}
use Rattle.exec_map.specs.Refusals.{has_memory, is_too_high}
use Rattle.exec_map.specs.declared.refused.ProgramRule.TheVariants.{TooHigh}
use Rattle.exec_map.specs.Index.{AreNumberRanges, AreSearchable, AreCode, NoRuleBelow, IsSome, IsOfWords, has, have, end_line, words_within, words_of_segment, words_of_section}
use Rattle.exec_map.proofs.Halving.{have_here, none_high}
use Rattle.exec_map.proofs.Filtering.{have_filter_map, All_filter_map, pairs_filter_map, filter_map-map}

-- what a stretch of words is
pub record IsWithin (first end : ℕ) (r : NumberRange) : Type 0 where
  pub some : IsSome r
  pub whole : IsOfWords r
  pub from : first ≤ r.first
  pub to : r.end ≤ end
  pub low : r.end ≤ 2 ^ 31

some_first : {r q : NumberRange} → Some r ≡ Some q → r.first ≡ q.first
some_first h = cc

some_end : {r q : NumberRange} → Some r ≡ Some q → r.end ≡ q.end
some_end h = cc

none_some : {r : NumberRange} → None ≡ Some r → ⊥
none_some h = cc

and_false : (b c : Bool) → c ≡ false → (b && c) ≡ false
and_false true c e = e
and_false false c e = refl

within : (first end : ℕ) (r : NumberRange) → words_within first end ≡ Some r → IsWithin first end r
within first end r h =
    elim (cases_lt ((first + 3) / 4 * 4) (min end (2 ^ 31) / 4 * 4)) [
      | inl lt ↦
          let e : words_within first end ≡ Some (record { first = (first + 3) / 4 * 4; end = min end (2 ^ 31) / 4 * 4 }) = cond-true _ _ _ (lt-ltb _ _ lt) in
          let f : r.first ≡ (first + 3) / 4 * 4 = some_first (sym h ∙ e) in
          let g : r.end ≡ min end (2 ^ 31) / 4 * 4 = some_end (sym h ∙ e) in
          record { some = omega arith; whole = (omega arith, omega arith); from = omega arith; to = omega arith; low = omega arith }
      | inr le ↦
          let e : words_within first end ≡ None = cond-false _ _ _ (le-ltb _ _ le) in
          absurd (none_some (sym e ∙ h))
    ]

same_from : (first a : ℕ) → a % 4 ≡ 0 → nat_le ((first + 3) / 4 * 4) a ≡ nat_le first a
same_from first a aligned =
    elim (cases_lt a first) [
      | inl lt ↦ let one : a < (first + 3) / 4 * 4 = omega arith in grind (arith, nat_tests)
      | inr le ↦ let one : (first + 3) / 4 * 4 ≤ a = omega arith in grind (arith, nat_tests)
    ]

same_to : (end a : ℕ) → a % 4 ≡ 0 → a < 2 ^ 31 → nat_lt a (min end (2 ^ 31) / 4 * 4) ≡ nat_le (a + 4) end
same_to end a aligned low =
    elim (cases_lt end (a + 4)) [
      | inl lt ↦ let one : min end (2 ^ 31) / 4 * 4 ≤ a = omega arith in grind (arith, nat_tests)
      | inr le ↦ let one : a < min end (2 ^ 31) / 4 * 4 = omega arith in grind (arith, nat_tests)
    ]

same_test : (f e first a end : ℕ) → nat_le f a ≡ nat_le first a → nat_lt a e ≡ nat_le (a + 4) end → (nat_le f a && nat_lt a e) ≡ (nat_le first a && nat_le (a + 4) end)
same_test f e first a end p q = ap (λ b. b && nat_lt a e) p ∙ ap (λ b. nat_le first a && b) q

no_test : (first a end : ℕ) → (first ≤ a → a + 4 ≤ end → ⊥) → false ≡ (nat_le first a && nat_le (a + 4) end)
no_test first a end h = grind (arith, nat_tests)

-- which words it has
words_have : (first end a : ℕ) → a % 4 ≡ 0 → a < 2 ^ 31 → option_map_or (has a) (words_within first end) false ≡ (nat_le first a && nat_le (a + 4) end)
words_have first end a aligned low =
    elim (cases_lt ((first + 3) / 4 * 4) (min end (2 ^ 31) / 4 * 4)) [
      | inl lt ↦
          let e : words_within first end ≡ Some (record { first = (first + 3) / 4 * 4; end = min end (2 ^ 31) / 4 * 4 }) = cond-true _ _ _ (lt-ltb _ _ lt) in
          ap (λ o. option_map_or (has a) o false) e ∙ same_test _ _ first a end (same_from first a aligned) (same_to end a aligned low)
      | inr le ↦
          let e : words_within first end ≡ None = cond-false _ _ _ (le-ltb _ _ le) in
          ap (λ o. option_map_or (has a) o false) e ∙ no_test first a end (λ from to. omega arith)
    ]

words_high : (first end a : ℕ) → 2 ^ 31 ≤ a → option_map_or (has a) (words_within first end) false ≡ false
words_high first end a high =
    elim (cases_lt ((first + 3) / 4 * 4) (min end (2 ^ 31) / 4 * 4)) [
      | inl lt ↦
          let e : words_within first end ≡ Some (record { first = (first + 3) / 4 * 4; end = min end (2 ^ 31) / 4 * 4 }) = cond-true _ _ _ (lt-ltb _ _ lt) in
          let out : nat_lt a (min end (2 ^ 31) / 4 * 4) ≡ false = le-ltb _ _ (omega arith) in
          ap (λ o. option_map_or (has a) o false) e ∙ and_false (nat_le ((first + 3) / 4 * 4) a) _ out
      | inr le ↦
          let e : words_within first end ≡ None = cond-false _ _ _ (le-ltb _ _ le) in
          ap (λ o. option_map_or (has a) o false) e
    ]

-- of a segment and of a section
segment_within : (s : Segment) (r : NumberRange) → words_of_segment s ≡ Some r → IsWithin s.vaddr (s.vaddr + length s.bytes) r
segment_within s r h =
    elim (cases_Bool (is_executable s)) [
      | inl here ↦ within _ _ r (sym (cond-true _ _ _ here) ∙ h)
      | inr out ↦ absurd (none_some (sym (cond-false (is_executable s) (words_within s.vaddr (s.vaddr + length s.bytes)) None out) ∙ h))
    ]

segment_words : (s : Segment) (a : ℕ) → a % 4 ≡ 0 → a < 2 ^ 31 → option_map_or (has a) (words_of_segment s) false ≡ holds_word a s
segment_words s a aligned low =
    elim (cases_Bool (is_executable s)) [
      | inl here ↦ ap (λ o. option_map_or (has a) o false) (cond-true _ _ _ here) ∙ words_have s.vaddr (s.vaddr + length s.bytes) a aligned low ∙ ap (λ b. b && (nat_le s.vaddr a && nat_le (a + 4) (s.vaddr + length s.bytes))) (sym here)
      | inr out ↦ ap (λ o. option_map_or (has a) o false) (cond-false _ _ _ out) ∙ ap (λ b. b && (nat_le s.vaddr a && nat_le (a + 4) (s.vaddr + length s.bytes))) (sym out)
    ]

segment_high : (s : Segment) (a : ℕ) → 2 ^ 31 ≤ a → option_map_or (has a) (words_of_segment s) false ≡ false
segment_high s a high =
    elim (cases_Bool (is_executable s)) [
      | inl here ↦ ap (λ o. option_map_or (has a) o false) (cond-true _ _ _ here) ∙ words_high s.vaddr (s.vaddr + length s.bytes) a high
      | inr out ↦ ap (λ o. option_map_or (has a) o false) (cond-false _ _ _ out)
    ]

section_within : (s : Section) (r : NumberRange) → words_of_section s ≡ Some r → IsWithin s.addr (s.addr + s.size) r
section_within s r h =
    elim (cases_Bool (is_code_section s)) [
      | inl here ↦ within _ _ r (sym (cond-true _ _ _ here) ∙ h)
      | inr out ↦ absurd (none_some (sym (cond-false (is_code_section s) (words_within s.addr (s.addr + s.size)) None out) ∙ h))
    ]

section_words : (s : Section) (a : ℕ) → a % 4 ≡ 0 → a < 2 ^ 31 → option_map_or (has a) (words_of_section s) false ≡ section_has a s
section_words s a aligned low =
    elim (cases_Bool (is_code_section s)) [
      | inl here ↦ ap (λ o. option_map_or (has a) o false) (cond-true _ _ _ here) ∙ words_have s.addr (s.addr + s.size) a aligned low ∙ ap (λ b. b && (nat_le s.addr a && nat_le (a + 4) (s.addr + s.size))) (sym here)
      | inr out ↦ ap (λ o. option_map_or (has a) o false) (cond-false _ _ _ out) ∙ ap (λ b. b && (nat_le s.addr a && nat_le (a + 4) (s.addr + s.size))) (sym out)
    ]

pub any_agree : {X : Type 0} (p q : X → Bool) → ((x : X) → p x ≡ q x) → (xs : List X) → list_any p xs ≡ list_any q xs
any_agree p q h [] = refl
any_agree p q h (x ∷ xs) = ap (λ b. b || list_any p xs) (h x) ∙ ap (λ b. q x || b) (any_agree p q h xs)

none_any : {X : Type 0} (p : X → Bool) → ((x : X) → p x ≡ false) → (xs : List X) → list_any p xs ≡ false
none_any p h [] = refl
none_any p h (x ∷ xs) = ap (λ b. b || list_any p xs) (h x) ∙ none_any p h xs

-- the words of the sections
pub sections_some : (ss : List declared_section.Section) → All IsSome (filter_map (λ s. words_of_section (section_of s)) ss)
sections_some ss = All_filter_map IsSome (λ _. Unit {0}) (λ s. words_of_section (section_of s)) (λ s r _ h. (section_within (section_of s) r h).some) ss (λ _ _ _. tt)

pub sections_whole : (ss : List declared_section.Section) → All IsOfWords (filter_map (λ s. words_of_section (section_of s)) ss)
sections_whole ss = All_filter_map IsOfWords (λ _. Unit {0}) (λ s. words_of_section (section_of s)) (λ s r _ h. (section_within (section_of s) r h).whole) ss (λ _ _ _. tt)

pub sections_words : (ss : List declared_section.Section) (a : ℕ) → a % 4 ≡ 0 → a < 2 ^ 31 → have (filter_map (λ s. words_of_section (section_of s)) ss) a ≡ list_any (section_has a) (map section_of ss)
sections_words ss a aligned low =
    ap (λ rs. have rs a) (filter_map-map words_of_section section_of ss)
    ∙ have_filter_map words_of_section a (map section_of ss)
    ∙ any_agree (λ s. option_map_or (has a) (words_of_section s) false) (section_has a) (λ s. section_words s a aligned low) (map section_of ss)

in_order : (s t : Segment) (r q : NumberRange) → is_placed s ≡ true → end_line s ≤ t.vaddr / 64 → IsWithin s.vaddr (s.vaddr + length s.bytes) r → IsWithin t.vaddr (t.vaddr + length t.bytes) q → r.end ≤ q.first
in_order s t r q placed far one other =
    let fits : length s.bytes ≤ s.memsz = grind (arith, nat_tests) in
    let to : r.end ≤ s.vaddr + length s.bytes = one.to in
    let from : t.vaddr ≤ q.first = other.from in
    omega arith

-- the words of the segments
pub segments_stretches : (xs : List Segment) → AreSearchable xs → AreNumberRanges (filter_map words_of_segment xs)
segments_stretches xs h = record {
  some = All_filter_map IsSome (λ _. Unit {0}) words_of_segment (λ s r _ is. (segment_within s r is).some) xs (λ _ _ _. tt);
  ascending = pairs_filter_map (λ r q. r.end ≤ q.first) (λ s t. (is_placed s ≡ true) × (end_line s ≤ t.vaddr / 64)) words_of_segment (λ s t r q both r_is q_is. in_order s t r q both.0 both.1 (segment_within s r r_is) (segment_within t q q_is)) xs
      (λ i j d lt in_j. (AllPass-from_list_all is_placed xs h.placed i d (omega arith), h.apart i j d lt in_j));
}

pub segments_whole : (xs : List Segment) → All IsOfWords (filter_map words_of_segment xs)
segments_whole xs = All_filter_map IsOfWords (λ _. Unit {0}) words_of_segment (λ s r _ is. (segment_within s r is).whole) xs (λ _ _ _. tt)

pub segments_low : (xs : List Segment) → All (λ r. r.end ≤ 2 ^ 31) (filter_map words_of_segment xs)
segments_low xs = All_filter_map (λ r. r.end ≤ 2 ^ 31) (λ _. Unit {0}) words_of_segment (λ s r _ is. (segment_within s r is).low) xs (λ _ _ _. tt)

both_low : (end : ℕ) (ls rs ms : List NumberRange) → All (λ r. r.end ≤ end) rs → AreNumberRanges ms → ((n : ℕ) → have ms n ≡ (have ls n && have rs n)) → All (λ r. r.end ≤ end) ms
both_low end ls rs ms low h both k d in_k =
    elim (cases_lt end (get_or ms k d).end) [
      | inl lt ↦
          let some : (get_or ms k d).first < (get_or ms k d).end = h.some k d in_k in
          let n : ℕ = (get_or ms k d).end - 1 in
          let here : have ms ((get_or ms k d).end - 1) ≡ true = have_here ms ((get_or ms k d).end - 1) k d in_k (omega arith) (omega arith) in
          let out = none_high end rs ((get_or ms k d).end - 1) low (omega arith) in
          absurd (false≢true (sym (both ((get_or ms k d).end - 1) ∙ and_false (have ls ((get_or ms k d).end - 1)) _ out) ∙ here))
      | inr le ↦ le
    ]

pub segments_words : (xs : List Segment) (a : ℕ) → a % 4 ≡ 0 → a < 2 ^ 31 → have (filter_map words_of_segment xs) a ≡ list_any (holds_word a) xs
segments_words xs a aligned low =
    have_filter_map words_of_segment a xs
    ∙ any_agree (λ s. option_map_or (has a) (words_of_segment s) false) (holds_word a) (λ s. segment_words s a aligned low) xs

pub segments_high : (xs : List Segment) (a : ℕ) → 2 ^ 31 ≤ a → have (filter_map words_of_segment xs) a ≡ false
segments_high xs a high = have_filter_map words_of_segment a xs ∙ none_any (λ s. option_map_or (has a) (words_of_segment s) false) (λ s. segment_high s a high) xs

pub no_word : (a : ℕ) (s : Segment) → is_placed s ≡ true → has_memory s ≡ false → holds_word a s ≡ false
no_word a s placed none =
    let fits : length s.bytes ≤ s.memsz = grind (arith, nat_tests) in
    let empty : s.memsz ≡ 0 = grind (arith, nat_tests) in
    let out : (nat_le s.vaddr a && nat_le (a + 4) (s.vaddr + length s.bytes)) ≡ false = grind (arith, nat_tests) in
    and_false (is_executable s) _ out

pub high_end : (s : Segment) → has_memory s ≡ true → is_too_high s ≡ false → s.vaddr + s.memsz ≤ 0x7fff0000
high_end s some low =
    elim (cases_lt 0x7fff0000 (s.vaddr + s.memsz)) [
      | inl lt ↦ absurd (false≢true (sym low ∙ and_from _ _ some (lt-ltb _ _ lt)))
      | inr le ↦ le
    ]

above : (s : Segment) (a : ℕ) → is_placed s ≡ true → is_too_high s ≡ false → 2 ^ 31 ≤ a → holds_word a s ≡ false
above s a placed low high =
    elim (cases_Bool (has_memory s)) [
      | inl some ↦
          let fits : length s.bytes ≤ s.memsz = grind (arith, nat_tests) in
          let end : s.vaddr + s.memsz ≤ 0x7fff0000 = high_end s some low in
          let out : (nat_le s.vaddr a && nat_le (a + 4) (s.vaddr + length s.bytes)) ≡ false = grind (arith, nat_tests) in
          and_false (is_executable s) _ out
      | inr none ↦ no_word a s placed none
    ]

and_true : (b : Bool) → b ≡ true → (b && true) ≡ true
and_true b e = rw e refl

wider : (a : ℕ) (s : Segment) → length s.bytes ≤ s.memsz → (nat_le s.vaddr a && nat_le (a + 4) (s.vaddr + length s.bytes)) ≡ true → (nat_le s.vaddr a && nat_le (a + 4) (s.vaddr + s.memsz)) ≡ true
wider a s fits h = grind (arith, nat_tests)

word_has : (a : ℕ) (s : Segment) → is_placed s ≡ true → holds_word a s ≡ true → segment_has a s ≡ true
word_has a s placed h =
    let fits : length s.bytes ≤ s.memsz = grind (arith, nat_tests) in
    let parts = and_parts (is_executable s) _ h in
    let rest : (nat_le s.vaddr a && nat_le (a + 4) (s.vaddr + s.memsz)) ≡ true = wider a s fits parts.1 in
    rw (parts.0, rest) refl

one_has : (a : ℕ) (xs : List Segment) → are_placed xs ≡ true → list_any (holds_word a) xs ≡ true → list_any (segment_has a) xs ≡ true
one_has a [] placed here = here
one_has a (x ∷ xs) placed here =
    elim (or_cases (holds_word a x) (list_any (holds_word a) xs) here) [
      | inl it ↦ or_left (segment_has a x) (list_any (segment_has a) xs) (word_has a x (and_parts _ _ placed).0 it)
      | inr later ↦ or_right (segment_has a x) (list_any (segment_has a) xs) (one_has a xs (and_parts _ _ placed).1 later)
    ]

all_have : (a : ℕ) (xs : List Segment) → are_placed xs ≡ true → list_any (holds_word a) xs ≡ true → (list_any (segment_has a) xs && true) ≡ true
all_have a xs placed here = and_true (list_any (segment_has a) xs) (one_has a xs placed here)

-- the words that the file has, of the sorted segments and of all
any_memory : (a : ℕ) (xs : List Segment) → are_placed xs ≡ true → list_any (holds_word a) (filter has_memory xs) ≡ list_any (holds_word a) xs
any_memory a [] placed = refl
any_memory a (x ∷ xs) placed =
    let rest = any_memory a xs (and_parts _ _ placed).1 in
    elim (cases_Bool (has_memory x)) [
      | inl here ↦
          let keeps : filter has_memory (x ∷ xs) ≡ x ∷ filter has_memory xs = cond-true _ _ _ here in
          ap (list_any (holds_word a)) keeps ∙ ap (λ b. holds_word a x || b) rest
      | inr out ↦
          let drops : filter has_memory (x ∷ xs) ≡ filter has_memory xs = cond-false _ _ _ out in
          let none : holds_word a x ≡ false = no_word a x (and_parts _ _ placed).0 out in
          ap (list_any (holds_word a)) drops ∙ rest ∙ ap (λ b. b || list_any (holds_word a) xs) (sym none)
    ]

-- no segment is too high
pub not_high : (e : Elf) → NoRuleBelow e 15 → (k : ℕ) (d : Segment) → k < length e.segments → is_too_high (get_or e.segments k d) ≡ false
not_high e none k d lt =
    elim (cases_lt (position_or_len is_too_high e.segments) (length e.segments)) [
      | inl found ↦
          let at : position is_too_high e.segments ≡ Some (position_or_len is_too_high e.segments) = cond-true _ _ _ (lt-ltb _ _ found) in
          let late = none (TooHigh (position_or_len is_too_high e.segments)) at in
          absurd (omega arith)
      | inr le ↦ fails_before_first is_too_high e.segments k d (omega arith)
    ]

-- the words of the file, by the sorted segments' stretches
pub held_words : (e : Elf) (xs : List Segment) → IsPermutation (filter has_memory e.segments) xs → are_placed e.segments ≡ true → NoRuleBelow e 15 → (a : ℕ) → a % 4 ≡ 0 → list_any (holds_word a) e.segments ≡ have (filter_map words_of_segment xs) a
held_words e xs same placed none a aligned =
    elim (cases_lt a (2 ^ 31)) [
      | inl low ↦ sym (any_memory a e.segments placed) ∙ list_any-IsPermutation (holds_word a) (filter has_memory e.segments) xs same ∙ sym (segments_words xs a aligned low)
      | inr high ↦
          let d : Segment = record { flags = 0; vaddr = 0; memsz = 0; bytes = [] } in
          or_from_places (list_any (holds_word a)) (holds_word a) refl (λ _ _. refl) e.segments d (λ k lt. above (get_or e.segments k d) a (AllPass-from_list_all is_placed e.segments placed k d lt) (not_high e none k d lt) high)
          ∙ sym (segments_high xs a high)
    ]

aligned_and : (a : ℕ) (b c : Bool) → (a % 4 ≡ 0 → b ≡ c) → ((a % 4 == 0) && b) ≡ ((a % 4 == 0) && c)
aligned_and a b c h =
    elim (cases_eq (a % 4) 0) [
      | inl e ↦ ap (λ x. (a % 4 == 0) && x) (h e)
      | inr ne ↦ let no_word : (a % 4 == 0) ≡ false = ne_eqb _ _ ne in rw no_word refl
    ]

-- each word of the file is in a range of the segments
covers : (a : ℕ) (xs : List Segment) → are_placed xs ≡ true → (list_any (segment_has a) xs && list_any (holds_word a) xs) ≡ list_any (holds_word a) xs
covers a xs placed =
    elim (cases_Bool (list_any (holds_word a) xs)) [
      | inl here ↦ rw here (all_have a xs placed here)
      | inr out ↦ rw out (and_false (list_any (segment_has a) xs) false refl)
    ]

pub code_of_segments : (e : Elf) (xs : List Segment) → e.sections ≡ [] → IsPermutation (filter has_memory e.segments) xs → AreSearchable xs → are_placed e.segments ≡ true → NoRuleBelow e 15 → AreCode e (filter_map words_of_segment xs)
code_of_segments e xs no_sections same h placed none = record {
  stretches = segments_stretches xs h;
  whole = segments_whole xs;
  low = segments_low xs;
  words = λ a.
      aligned_and a (is_in_code_range e.sections e.segments a && list_any (holds_word a) e.segments) (have (filter_map words_of_segment xs) a) (λ aligned.
      ap (λ ss. is_in_code_range ss e.segments a && list_any (holds_word a) e.segments) no_sections
      ∙ covers a e.segments placed
      ∙ held_words e xs same placed none a aligned);
}

in_sections : (ss : List Section) (segments : List Segment) (a : ℕ) → 0 < length ss → is_in_code_range ss segments a ≡ list_any (section_has a) ss
in_sections [] segments a some = absurd (omega arith)
in_sections (s ∷ ss) segments a some = refl

pub code_of_sections : (e : Elf) (xs : List Segment) (named common : List NumberRange) → 0 < length e.sections → IsPermutation (filter has_memory e.segments) xs → are_placed e.segments ≡ true → NoRuleBelow e 15
    → All IsOfWords named → ((a : ℕ) → a % 4 ≡ 0 → a < 2 ^ 31 → have named a ≡ list_any (section_has a) e.sections)
    → AreNumberRanges common → (All IsOfWords named → All IsOfWords (filter_map words_of_segment xs) → All IsOfWords common) → ((a : ℕ) → have common a ≡ (have named a && have (filter_map words_of_segment xs) a)) → AreCode e common
code_of_sections e xs named common some same placed none named_whole named_words stretches whole numbers = record {
  stretches = stretches;
  whole = whole named_whole (segments_whole xs);
  low = both_low (2 ^ 31) named (filter_map words_of_segment xs) common (segments_low xs) stretches numbers;
  words = λ a.
      aligned_and a (is_in_code_range e.sections e.segments a && list_any (holds_word a) e.segments) (have common a) (λ aligned.
      ap (λ b. b && list_any (holds_word a) e.segments) (in_sections e.sections e.segments a some)
      ∙ ap (λ b. list_any (section_has a) e.sections && b) (held_words e xs same placed none a aligned)
      ∙ elim (cases_lt a (2 ^ 31)) [
        | inl low ↦ ap (λ b. b && have (filter_map words_of_segment xs) a) (sym (named_words a aligned low)) ∙ sym (numbers a)
        | inr high ↦
            let out = segments_high xs a high in
            and_false (list_any (section_has a) e.sections) _ out ∙ sym (numbers a ∙ and_false (have named a) _ out)
      ]);
}

pub none_left : {X : Type 0} (xs : List X) → length xs ≡ 0 → xs ≡ []
none_left [] e = refl
none_left (x ∷ xs) e = absurd (omega arith)

pub some_left : (xs : List declared_section.Section) (ss : List Section) → (length xs ≡ 0 → ⊥) → map section_of xs ≡ ss → 0 < length ss
some_left [] ss none is = absurd (none refl)
some_left (x ∷ xs) ss none is = subst (λ ys. 0 < length ys) is (omega arith)
