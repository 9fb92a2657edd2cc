-- The sections that a written file has.
use Rattle.std.proofs.Common.{◌≡◌, ℕ, ◌+◌, ◌-◌, ◌*◌, ◌^◌, ◌<◌, ◌≤◌, Bool, true, false, not, ◌&&◌, ◌||◌, ◌==◌, inl, inr, List, [], ◌∷◌, ◌++◌, length, length-append, map, drop, Some, None, refl, sym, ap, ◌∙◌, append_assoc, arith}
use Rattle.std.specs.Prelude.{slice_range, nat_lt, position}
use Rattle.std.specs.List.{flat_map, range_with_len, list_all, list_any, position_or_len}
use Rattle.std.proofs.lemmas.Bool.{and_parts, ltb-true, le-leb, lt-ltb, cond-true, cond-false, eqb-true, eq-eqb, ne_eqb, cases_eq, not-true}
use Rattle.std.proofs.lemmas.List.Sums.{position_or_len_is}
use Rattle.std.proofs.lemmas.List.{append-nil}
use Rattle.std.proofs.Math.Seq.{drop-append_seam, take-append_seam, get_or-append_seam}
use Rattle.std.proofs.lemmas.List.{get_or_append_left}
use Rattle.elf32_read.specs.declared.headers.SectionHeader.{SectionHeader}
use Rattle.elf32_read.specs.Elf.{Section}
use Rattle.elf32_read.specs.Fields.{section_header_at}
use Rattle.elf32_read.specs.Reading as reading
use Rattle.elf32_read.specs.Reading.{has_range, name_at, before_zero}
use Rattle.elf32_write.specs.Layout.{word, zeros, aligned, name_list, name_offset, section_words, section_table, section_bytes, names_words}
use Rattle.elf32_write.specs.Writable.{is_plain, has_section_words}
use Rattle.elf32_write.specs.Room.{sections_room, room_limit}
use Rattle.elf32_write.proofs.LayoutLemmas.{aligned_low, aligned_high}
use Rattle.elf32_write.proofs.RoomLemmas.{Plain, plain_parts}
use Rattle.elf32_write.proofs.ReadingFields.{word_put, words-length, slice_put}
use Rattle.elf32_write.proofs.ReadingSegments.{zeros-length, fails_at}

-- a section by its header, with its name in a table of names
unfoldable pub section_with : List ℕ → List ℕ → SectionHeader → Section
section_with names F h = record {
  name = name_at names h.sh_name;
  kind = h.sh_type;
  flags = h.sh_flags;
  addr = h.sh_addr;
  size = h.sh_size;
  bytes = reading.section_bytes F h;
}

unfoldable pub header_of : ℕ → ℕ → Section → SectionHeader
header_of name offset s = record {
  sh_name = name;
  sh_type = s.kind;
  sh_flags = s.flags;
  sh_addr = s.addr;
  sh_offset = offset;
  sh_size = length s.bytes;
}

section_put : (front rest : List ℕ) (name offset n : ℕ) (s : Section) → n ≡ length front → name < 2 ^ 32 → offset < 2 ^ 32
    → length s.bytes < 2 ^ 32 → has_section_words s ≡ true
    → section_header_at (front ++ (flat_map word (section_words name offset s) ++ rest)) n ≡ header_of name offset s
unfolding section_header_at header_of
section_put front rest name offset n s is name_fits offset_fits size_fits fit =
    let parts = and_parts (nat_lt s.kind (2 ^ 32)) (nat_lt s.flags (2 ^ 32) && nat_lt s.addr (2 ^ 32)) fit in
    let more = and_parts (nat_lt s.flags (2 ^ 32)) (nat_lt s.addr (2 ^ 32)) parts.1 in
    let ws = section_words name offset s in
    λ i. record {
      sh_name = word_put front ws rest 0 n (omega arith) (omega arith) name_fits i;
      sh_type = word_put front ws rest 1 (n + 4) (omega arith) (omega arith) (ltb-true _ _ parts.0) i;
      sh_flags = word_put front ws rest 2 (n + 8) (omega arith) (omega arith) (ltb-true _ _ more.0) i;
      sh_addr = word_put front ws rest 3 (n + 12) (omega arith) (omega arith) (ltb-true _ _ more.1) i;
      sh_offset = word_put front ws rest 4 (n + 16) (omega arith) (omega arith) offset_fits i;
      sh_size = word_put front ws rest 5 (n + 20) (omega arith) (omega arith) size_fits i;
    }

unfoldable pub names_header : ℕ → ℕ → SectionHeader
names_header offset size = record {
  sh_name = size - 10;
  sh_type = 3;
  sh_flags = 0;
  sh_addr = 0;
  sh_offset = offset;
  sh_size = size;
}

pub names_header_put : (front : List ℕ) (offset size n : ℕ) → n ≡ length front → offset < 2 ^ 32 → size < 2 ^ 32
    → section_header_at (front ++ flat_map word (names_words offset size)) n ≡ names_header offset size
unfolding section_header_at names_header
names_header_put front offset size n is offset_fits size_fits =
    let ws = names_words offset size in
    let end = append-nil (flat_map word ws) in
    ap (λ xs. section_header_at (front ++ xs) n) (sym end) ∙ (λ i. record {
      sh_name = word_put front ws [] 0 n (omega arith) (omega arith) (omega arith) i;
      sh_type = word_put front ws [] 1 (n + 4) (omega arith) (omega arith) (omega arith) i;
      sh_flags = word_put front ws [] 2 (n + 8) (omega arith) (omega arith) (omega arith) i;
      sh_addr = word_put front ws [] 3 (n + 12) (omega arith) (omega arith) (omega arith) i;
      sh_offset = word_put front ws [] 4 (n + 16) (omega arith) (omega arith) offset_fits i;
      sh_size = word_put front ws [] 5 (n + 20) (omega arith) (omega arith) size_fits i;
    })

-- a name is found where it was put
name_found : (front name rest : List ℕ) (n : ℕ) → n ≡ length front → list_any (λ b. b == 0) name ≡ false
    → name_at (front ++ (name ++ 0 ∷ rest)) n ≡ name
name_found front name rest n is plain =
    let p : ℕ → Bool = λ b. b == 0 in
    let xs = name ++ 0 ∷ rest in
    let here : drop n (front ++ xs) ≡ xs = ap (λ k. drop k (front ++ xs)) is ∙ drop-append_seam front xs in
    let size = length-append name (0 ∷ rest) in
    let at : position_or_len p xs ≡ length name =
    position_or_len_is p xs (length name) 0 (omega arith)
    (λ k low. ap p (get_or_append_left name (0 ∷ rest) 0 k low) ∙ fails_at p name plain k 0 low)
    (λ _. ap p (get_or-append_seam name 0 rest 0)) in
    let found : position p xs ≡ Some (length name) =
    cond-true (nat_lt (position_or_len p xs) (length xs)) (Some (position_or_len p xs)) None (lt-ltb _ _ (omega arith)) ∙ ap Some at in
    ap (λ ys. before_zero ys (position p ys)) here ∙ ap (before_zero xs) found ∙ take-append_seam name (0 ∷ rest)

nothing : (xs : List ℕ) → length xs ≡ 0 → xs ≡ []
nothing [] is = refl
nothing (x ∷ xs) is = absurd (omega arith)

-- so is an empty one, at the first byte
name_right : (N front rest tail : List ℕ) (s : Section) (name : ℕ) → N ≡ front ++ (s.name ++ 0 ∷ rest) → length front ≡ name
    → N ≡ 0 ∷ tail → list_any (λ b. b == 0) s.name ≡ false → name_at N (name_offset name s) ≡ s.name
name_right N front rest tail s name is at first plain =
    elim (cases_eq (length s.name) 0) [
      | inl none ↦
          let offset : name_offset name s ≡ 0 = cond-true (length s.name == 0) 0 name (eq-eqb _ _ none) in
          ap (name_at N) offset ∙ ap (λ M. name_at M 0) first ∙ name_found [] [] tail 0 refl refl ∙ sym (nothing s.name none)
      | inr some ↦
          let offset : name_offset name s ≡ name = cond-false (length s.name == 0) 0 name (ne_eqb _ _ some) in
          ap (name_at N) offset ∙ ap (λ M. name_at M name) is ∙ name_found front s.name rest name (sym at) plain
    ]

-- the bytes that the file has for a section of another type than 8
pub bytes_put : (F front bytes rest : List ℕ) (h : SectionHeader) → F ≡ front ++ (bytes ++ rest) → length front ≡ h.sh_offset
    → h.sh_size ≡ length bytes → (h.sh_type == 8) ≡ false → reading.section_bytes F h ≡ bytes
bytes_put F front bytes rest h is at size kind =
    let within : h.sh_offset + h.sh_size ≤ length F =
    omega (arith, at, size, ap length is, length-append front (bytes ++ rest), length-append bytes rest) in
    let inside : has_range F h.sh_offset h.sh_size ≡ true = le-leb _ _ within in
    let none : reading.has_no_bytes F h ≡ false =
    ap (λ b. b || not (has_range F h.sh_offset h.sh_size)) kind ∙ ap not inside in
    cond-false (reading.has_no_bytes F h) [] (slice_range F h.sh_offset (h.sh_offset + h.sh_size)) none
    ∙ ap (λ G. slice_range G h.sh_offset (h.sh_offset + h.sh_size)) is
    ∙ slice_put front bytes rest h.sh_offset (h.sh_offset + h.sh_size) (sym at) (ap (λ n. h.sh_offset + n) size)

-- the sections read as they were
pub sections_read : (F frontH restH frontB restB N frontN restN tail : List ℕ) (ts : List Section) (base end name k : ℕ)
    → F ≡ frontH ++ (section_table end name ts ++ restH) → length frontH ≡ base + 40 * k
    → F ≡ frontB ++ (section_bytes end ts ++ restB) → length frontB ≡ end
    → N ≡ frontN ++ (name_list ts ++ restN) → length frontN ≡ name → N ≡ 0 ∷ tail
    → end + sections_room ts ≤ room_limit → name + sections_room ts ≤ 1 + room_limit
    → list_all has_section_words ts ≡ true → list_all is_plain ts ≡ true
    → map (λ j. section_with N F (section_header_at F (base + 40 * j))) (range_with_len k (length ts)) ≡ ts
unfolding section_table section_bytes section_with header_of
sections_read F frontH restH frontB restB N frontN restN tail [] base end name k h h_at b b_at n n_at first room names fit plain = refl
sections_read F frontH restH frontB restB N frontN restN tail (s ∷ ts) base end name k h h_at b b_at n n_at first room names fit plain =
    let fits = and_parts (has_section_words s) (list_all has_section_words ts) fit in
    let plains = and_parts (is_plain s) (list_all is_plain ts) plain in
    let is_one : Plain s = plain_parts s plains.0 in
    let offset = aligned end in
    let low = aligned_low end in
    let high = aligned_high end in
    let next = offset + length s.bytes in
    let next_name = name + (length s.name + 1) in
    let at_name = name_offset name s in
    let words = flat_map word (section_words at_name offset s) in
    let gap = zeros (offset - end) in
    let h_cut : F ≡ frontH ++ (words ++ (section_table next next_name ts ++ restH)) =
    h ∙ ap (λ t. frontH ++ t) (append_assoc words (section_table next next_name ts) restH) in
    let b_cut : F ≡ (frontB ++ gap) ++ (s.bytes ++ (section_bytes next ts ++ restB)) =
    b ∙ regroup frontB gap s.bytes (section_bytes next ts) restB in
    let n_cut : N ≡ frontN ++ (s.name ++ 0 ∷ (name_list ts ++ restN)) =
    n ∙ rename frontN s.name (name_list ts) restN in
    let here : length (frontB ++ gap) ≡ offset = omega (arith, b_at, low, length-append frontB gap, zeros-length (offset - end)) in
    let small_name : at_name < 2 ^ 32 = small_offset name s (omega arith) in
    let header : section_header_at F (base + 40 * k) ≡ header_of at_name offset s =
    ap (λ G. section_header_at G (base + 40 * k)) h_cut
    ∙ section_put frontH (section_table next next_name ts ++ restH) at_name offset (base + 40 * k) s (sym h_at) small_name (omega arith) (omega arith) fits.0 in
    let name_is : name_at N at_name ≡ s.name =
    name_right N frontN (name_list ts ++ restN) tail s name n_cut n_at first (not-true _ is_one.plain) in
    let size_is : length s.bytes ≡ s.size = sym (eqb-true _ _ is_one.size) in
    let bytes_are : reading.section_bytes F (header_of at_name offset s) ≡ s.bytes =
    bytes_put F (frontB ++ gap) s.bytes (section_bytes next ts ++ restB) (header_of at_name offset s) b_cut here refl (not-true _ is_one.kind) in
    let same : section_with N F (header_of at_name offset s) ≡ s = λ i. record {
      name = name_is i;
      kind = s.kind;
      flags = s.flags;
      addr = s.addr;
      size = size_is i;
      bytes = bytes_are i;
    } in
    let others =
    sections_read F (frontH ++ words) restH ((frontB ++ gap) ++ s.bytes) restB N (frontN ++ (s.name ++ 0 ∷ [])) restN tail ts base next next_name (k + 1)
    (h_cut ∙ sym (append_assoc frontH words (section_table next next_name ts ++ restH)))
    (omega (arith, h_at, length-append frontH words, words-length (section_words at_name offset s)))
    (b_cut ∙ sym (append_assoc (frontB ++ gap) s.bytes (section_bytes next ts ++ restB)))
    (omega (arith, here, length-append (frontB ++ gap) s.bytes))
    (n_cut ∙ onward frontN s.name (name_list ts ++ restN))
    (omega (arith, n_at, length-append frontN (s.name ++ 0 ∷ []), length-append s.name (0 ∷ [])))
    first (omega arith) (omega arith) fits.1 plains.1 in
    let one : section_with N F (section_header_at F (base + 40 * k)) ≡ s = ap (section_with N F) header ∙ same in
    cc
  where
    regroup : (a b c d e : List ℕ) → a ++ ((b ++ (c ++ d)) ++ e) ≡ (a ++ b) ++ (c ++ (d ++ e))
    regroup a b c d e = simp append_assoc

    rename : (a b c d : List ℕ) → a ++ (((b ++ 0 ∷ []) ++ c) ++ d) ≡ a ++ (b ++ 0 ∷ (c ++ d))
    rename a b c d = simp append_assoc

    onward : (a b c : List ℕ) → a ++ (b ++ 0 ∷ c) ≡ (a ++ (b ++ 0 ∷ [])) ++ c
    onward a b c = simp append_assoc

    small_offset : (name : ℕ) (s : Section) → name < 2 ^ 32 → name_offset name s < 2 ^ 32
    small_offset name s small =
        elim (cases_eq (length s.name) 0) [
          | inl none ↦ rw (cond-true (length s.name == 0) 0 name (eq-eqb _ _ none)) (omega arith)
          | inr some ↦ rw (cond-false (length s.name == 0) 0 name (ne_eqb _ _ some)) small
        ]
