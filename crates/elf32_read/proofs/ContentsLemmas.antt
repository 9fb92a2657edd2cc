-- The lists of segments and sections, one header after another.
use Rattle.std.proofs.Common.{◌≡◌, ℕ, ◌+◌, ◌-◌, ◌<◌, ◌≤◌, ◌^◌, Bool, true, false, not, inl, inr, ◌==◌, ◌||◌, cond, List, [], ◌∷◌, ◌++◌, length, length-take, length-drop, map, drop, refl, sym, ap, ◌∙◌, arith}
use Rattle.std.specs.List.{range_with_len, filter}
use Rattle.std.specs.Prelude.{nat_lt, slice_range}
use Rattle.std.proofs.lemmas.Bool.{cond-true, cond-false, and_from, and_cases, or_parts, eq-eqb, ne_eqb, not-false, leb-true, ltb-false, le-leb}
use Rattle.std.proofs.lemmas.List.FromFn.{filter_of_map_range_with_len_more, map-range_with_len_more}
use Rattle.std.proofs.lemmas.List.{append-nil}
use Rattle.std.proofs.lemmas.List.{map-append, map-id}
use Rattle.std.proofs.lemmas.List.Elements.{filter-append}
use Rattle.std.proofs.lemmas.List.Folds.{list_all-append}
use Rattle.elf32_read.specs.Elf.{Segment, Section, are_placed, is_placed}
use Rattle.elf32_read.specs.Fields.{file_header, program_header, section_header}
use Rattle.elf32_read.specs.Reading.{is_load, segment_in, section_in, has_range}
use Rattle.elf32_read.specs.Refusals.{IsReadable, is_outside, has_wrong_sizes}
use Rattle.elf32_read.specs.declared.headers.ProgramHeader.{ProgramHeader}
use Rattle.elf32_read.proofs.HeaderSearch.{none_in_table}

-- the segments of the first headers
abbrev pub segments_to : List ℕ → ℕ → List Segment
segments_to file n = map (segment_in file) (filter is_load (map (program_header file) (range_with_len 0 n)))

-- the sections of so many headers from number 1 on
abbrev pub sections_to : List ℕ → ℕ → List Section
sections_to file n =
    map (λ k. section_in file (section_header file k))
    (filter (λ k. not (k == (file_header file).e_shstrndx)) (range_with_len 1 n))

-- one header more, of another type
pub segments_skip : (file : List ℕ) (k : ℕ) (h : ProgramHeader) → h ≡ program_header file k → is_load h ≡ false
    → segments_to file k ≡ segments_to file (k + 1)
segments_skip file k h is out =
    let more = filter_of_map_range_with_len_more is_load (program_header file) 0 k k (omega arith) in
    let none : cond (is_load (program_header file k)) (program_header file k ∷ []) [] ≡ [] =
    cond-false _ _ _ (ap is_load (sym is) ∙ out) in
    ap (map (segment_in file)) (sym (more ∙ ap (λ hs. filter is_load (map (program_header file) (range_with_len 0 k)) ++ hs) none ∙ append-nil _))

-- one header more, of a loadable segment
pub segments_more : (file : List ℕ) (k : ℕ) (h : ProgramHeader) (s : Segment) → h ≡ program_header file k
    → is_load h ≡ true → s ≡ segment_in file h → segments_to file k ++ s ∷ [] ≡ segments_to file (k + 1)
segments_more file k h s is load made =
    let hs = filter is_load (map (program_header file) (range_with_len 0 k)) in
    let more = filter_of_map_range_with_len_more is_load (program_header file) 0 k k (omega arith) in
    let one : cond (is_load (program_header file k)) (program_header file k ∷ []) [] ≡ h ∷ [] =
    cond-true _ _ _ (ap is_load (sym is) ∙ load) ∙ ap (λ g. g ∷ []) (sym is) in
    sym (ap (map (segment_in file)) (more ∙ ap (λ gs. hs ++ gs) one)
    ∙ map-append (segment_in file) hs (h ∷ []) ∙ ap (λ t. map (segment_in file) hs ++ t ∷ []) (sym made))

-- one number more
range_more : (a n : ℕ) → range_with_len a (n + 1) ≡ range_with_len a n ++ (a + n) ∷ []
range_more a n = sym (map-id (range_with_len a (n + 1))) ∙ map-range_with_len_more (λ k. k) a n (a + n) refl ∙ ap (λ ks. ks ++ (a + n) ∷ []) (map-id (range_with_len a n))

numbers_more : (p : ℕ → Bool) (n k : ℕ) → k ≡ 1 + n
    → filter p (range_with_len 1 (n + 1)) ≡ filter p (range_with_len 1 n) ++ cond (p k) (k ∷ []) []
numbers_more p n k is =
    ap (filter p) (range_more 1 n ∙ ap (λ j. range_with_len 1 n ++ j ∷ []) (sym is)) ∙ filter-append p (range_with_len 1 n) (k ∷ [])

pub sections_skip : (file : List ℕ) (n k : ℕ) → k ≡ 1 + n → k ≡ (file_header file).e_shstrndx
    → sections_to file n ≡ sections_to file (n + 1)
sections_skip file n k is names =
    let p : ℕ → Bool = λ j. not (j == (file_header file).e_shstrndx) in
    let none : cond (p k) (k ∷ []) [] ≡ [] = cond-false _ _ _ (ap not (eq-eqb _ _ names)) in
    ap (map (λ j. section_in file (section_header file j)))
    (sym (numbers_more p n k is ∙ ap (λ js. filter p (range_with_len 1 n) ++ js) none ∙ append-nil _))

pub sections_more : (file : List ℕ) (n k : ℕ) (s : Section) → k ≡ 1 + n → (k ≡ (file_header file).e_shstrndx → ⊥)
    → s ≡ section_in file (section_header file k) → sections_to file n ++ s ∷ [] ≡ sections_to file (n + 1)
sections_more file n k s is other made =
    let p : ℕ → Bool = λ j. not (j == (file_header file).e_shstrndx) in
    let f : ℕ → Section = λ j. section_in file (section_header file j) in
    let one : cond (p k) (k ∷ []) [] ≡ k ∷ [] = cond-true _ _ _ (ap not (ne_eqb _ _ other)) in
    sym (ap (map f) (numbers_more p n k is ∙ ap (λ js. filter p (range_with_len 1 n) ++ js) one)
    ∙ map-append f (filter p (range_with_len 1 n)) (k ∷ [])
    ∙ ap (λ t. map f (filter p (range_with_len 1 n)) ++ t ∷ []) (sym made))

-- the file has the bytes of each loadable segment
pub inside : (file : List ℕ) (k : ℕ) (h : ProgramHeader) → IsReadable file → k < (file_header file).e_phnum
    → h ≡ program_header file k → is_load h ≡ true → h.p_offset + h.p_filesz ≤ length file
inside file k h r low is load =
    let none = none_in_table file (is_outside file) r.inside k low in
    let here : is_outside file h ≡ false = ap (is_outside file) is ∙ none in
    elim (and_cases (is_load h) (not (has_range file h.p_offset h.p_filesz)) here) [
      | inl other ↦ absurd (cc)
      | inr within ↦ leb-true _ _ (not-false _ within)
    ]

range_length : (file : List ℕ) (o n : ℕ) → o + n ≤ length file → length (slice_range file o (o + n)) ≡ n
range_length file o n within = omega (arith, length-take ((o + n) - o) (drop o file), length-drop o file)

-- and each is placed
pub placed : (file : List ℕ) (k : ℕ) (h : ProgramHeader) → IsReadable file → k < (file_header file).e_phnum
    → h ≡ program_header file k → is_load h ≡ true → is_placed (segment_in file h) ≡ true
placed file k h r low is load =
    let none = none_in_table file has_wrong_sizes r.sizes k low in
    let here : has_wrong_sizes h ≡ false = ap has_wrong_sizes is ∙ none in
    let within = inside file k h r low is load in
    let long = range_length file h.p_offset h.p_filesz within in
    elim (and_cases (is_load h) (nat_lt h.p_memsz h.p_filesz || nat_lt (2 ^ 32) (h.p_vaddr + h.p_memsz)) here) [
      | inl other ↦ absurd (cc)
      | inr right ↦
          let parts = or_parts (nat_lt h.p_memsz h.p_filesz) (nat_lt (2 ^ 32) (h.p_vaddr + h.p_memsz)) right in
          let fits = ltb-false _ _ parts.0 in
          let ends = ltb-false _ _ parts.1 in
          and_from _ _ (le-leb _ _ (omega arith)) (le-leb _ _ ends)
    ]

-- one segment more that is placed
pub placed_more : (all : List Segment) (s : Segment) → are_placed all ≡ true → is_placed s ≡ true → are_placed (all ++ s ∷ []) ≡ true
placed_more all s before this = list_all-append is_placed all (s ∷ []) ∙ and_from _ _ before (and_from _ _ this refl)
