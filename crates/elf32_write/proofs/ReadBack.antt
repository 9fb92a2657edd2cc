-- What is written is readable, and reads as it was.
use Rattle.std.proofs.Common.{◌≡◌, ℕ, zero, suc, ◌+◌, ◌-◌, ◌*◌, ◌<◌, ◌≤◌, Bool, true, false, not, ◌&&◌, ◌||◌, ◌==◌, List, [], ◌∷◌, ◌++◌, length, length-append, map, filter, cond, codes, refl, sym, ap, ◌∙◌, append_assoc, arith}
use Rattle.std.specs.Prelude.{nat_lt}
use Rattle.std.specs.List.{flat_map, range_with_len, list_all}
use Rattle.std.proofs.lemmas.Bool.{le-leb, lt-ltb, eq-eqb, ne_eqb, cond-true}
use Rattle.std.proofs.lemmas.List.{append-nil, map-id}
use Rattle.std.proofs.lemmas.List.Elements.{filter-append}
use Rattle.std.proofs.lemmas.List.FromFn.{map-range_with_len_more}
use Rattle.elf32_read.specs.declared.headers.FileHeader.{FileHeader}
use Rattle.elf32_read.specs.Elf.{Segment, Section}
use Rattle.elf32_read.specs.Fields as fields
use Rattle.elf32_read.specs.Fields.{section_header_at}
use Rattle.elf32_read.specs.Reading as reading
use Rattle.elf32_read.specs.Reading.{elf_of, has_range}
use Rattle.elf32_write.specs.Layout.{word, zeros, placed, aligned, names, name_list, names_words, segments_end, sections_end, names_offset, table_offset, table_of, program_words, program_table, segment_bytes, section_words, name_offset, section_bytes, section_table, section_part}
use Rattle.elf32_write.specs.Writable.{has_section_words, is_plain}
use Rattle.elf32_write.specs.Room.{sections_room, room_limit}
use Rattle.elf32_write.proofs.LayoutLemmas.{aligned_low, aligned_high, placed_low, names_length, sections_end_high}
use Rattle.elf32_write.proofs.ReadingFields.{header_made, words-length}
use Rattle.elf32_write.proofs.ReadingSegments.{zeros-length}
use Rattle.elf32_write.proofs.ReadingSections.{section_with, sections_read, names_header, names_header_put, bytes_put}

-- lengths
pub program_table-length : (end : ℕ) (ss : List Segment) → length (program_table end ss) ≡ 32 * length ss
unfolding program_table
program_table-length end [] = refl
program_table-length end (s ∷ ss) =
    omega (
      arith,
      program_table-length (placed end s.vaddr + length s.bytes) ss,
      length-append (flat_map word (program_words (placed end s.vaddr) s)) (program_table (placed end s.vaddr + length s.bytes) ss),
      words-length (program_words (placed end s.vaddr) s),
    )

pub segment_bytes-length : (end : ℕ) (ss : List Segment) → end + length (segment_bytes end ss) ≡ segments_end end ss
unfolding segment_bytes
segment_bytes-length end [] = omega arith
segment_bytes-length end (s ∷ ss) =
    let next = placed end s.vaddr + length s.bytes in
    omega (
      arith,
      segment_bytes-length next ss,
      placed_low end s.vaddr,
      zeros-length (placed end s.vaddr - end),
      length-append (zeros (placed end s.vaddr - end)) (s.bytes ++ segment_bytes next ss),
      length-append s.bytes (segment_bytes next ss),
    )

pub section_bytes-length : (end : ℕ) (ss : List Section) → end + length (section_bytes end ss) ≡ sections_end end ss
unfolding section_bytes
section_bytes-length end [] = omega arith
section_bytes-length end (s ∷ ss) =
    let next = aligned end + length s.bytes in
    omega (
      arith,
      section_bytes-length next ss,
      aligned_low end,
      zeros-length (aligned end - end),
      length-append (zeros (aligned end - end)) (s.bytes ++ section_bytes next ss),
      length-append s.bytes (section_bytes next ss),
    )

pub section_table-length : (end name : ℕ) (ss : List Section) → length (section_table end name ss) ≡ 40 * length ss
unfolding section_table
section_table-length end name [] = refl
section_table-length end name (s ∷ ss) =
    let next = aligned end + length s.bytes in
    let ws = section_words (name_offset name s) (aligned end) s in
    omega (
      arith,
      section_table-length next (name + (length s.name + 1)) ss,
      length-append (flat_map word ws) (section_table next (name + (length s.name + 1)) ss),
      words-length ws,
    )

-- the parts behind the segments
record Parts (F front : List ℕ) (end : ℕ) (ts : List Section) : Type 0 where
  pub bytes : (rest : List ℕ) × (F ≡ front ++ (section_bytes end ts ++ rest))
  pub names_front : List ℕ
  pub names_rest : List ℕ
  pub names_are : F ≡ names_front ++ (names ts ++ names_rest)
  pub names_at : length names_front ≡ names_offset end ts
  pub table_front : List ℕ
  pub table_rest : List ℕ
  pub table_is : F ≡ table_front ++ (section_table end 1 ts ++ table_rest)
  pub table_at : length table_front ≡ table_offset end ts + 40 * 1
  pub last_front : List ℕ
  pub last_is : F ≡ last_front ++ flat_map word (names_words (names_offset end ts) (length (names ts)))
  pub last_at : length last_front ≡ table_offset end ts + 40 * (length ts + 1)

part_is : (end : ℕ) (ts : List Section) → 0 < length ts
    → section_part end ts
    ≡ section_bytes end ts ++ (zeros (names_offset end ts - sections_end end ts) ++ (names ts
    ++ (zeros (table_offset end ts - (names_offset end ts + length (names ts)))
    ++ (zeros 40 ++ (section_table end 1 ts ++ flat_map word (names_words (names_offset end ts) (length (names ts))))))))
unfolding section_part
part_is end [] some = absurd (omega arith)
part_is end (s ∷ ts) some = refl

parts : (F front : List ℕ) (end : ℕ) (ts : List Section) → 0 < length ts → F ≡ front ++ section_part end ts
    → length front ≡ end → Parts F front end ts
parts F front end ts some is at =
    let B = section_bytes end ts in
    let Y = zeros (names_offset end ts - sections_end end ts) in
    let N = names ts in
    let Z = zeros (table_offset end ts - (names_offset end ts + length (names ts))) in
    let O = zeros 40 in
    let T = section_table end 1 ts in
    let L = flat_map word (names_words (names_offset end ts) (length (names ts))) in
    let whole : F ≡ front ++ (B ++ (Y ++ (N ++ (Z ++ (O ++ (T ++ L)))))) = is ∙ ap (λ t. front ++ t) (part_is end ts some) in
    let b = section_bytes-length end ts in
    let y = zeros-length (names_offset end ts - sections_end end ts) in
    let y_low = aligned_low (sections_end end ts) in
    let z = zeros-length (table_offset end ts - (names_offset end ts + length (names ts))) in
    let z_low = aligned_low (names_offset end ts + length (names ts)) in
    let o = zeros-length 40 in
    let t = section_table-length end 1 ts in
    let one = length-append front B in
    let two = length-append (front ++ B) Y in
    let three = length-append ((front ++ B) ++ Y) N in
    let four = length-append (((front ++ B) ++ Y) ++ N) Z in
    let five = length-append ((((front ++ B) ++ Y) ++ N) ++ Z) O in
    let six = length-append (((((front ++ B) ++ Y) ++ N) ++ Z) ++ O) T in
    record {
      bytes = ((Y ++ (N ++ (Z ++ (O ++ (T ++ L))))), whole);
      names_front = (front ++ B) ++ Y;
      names_rest = Z ++ (O ++ (T ++ L));
      names_are = whole ∙ cut_names front B Y (N ++ (Z ++ (O ++ (T ++ L))));
      names_at = omega arith;
      table_front = ((((front ++ B) ++ Y) ++ N) ++ Z) ++ O;
      table_rest = L;
      table_is = whole ∙ cut_table front B Y N Z O (T ++ L);
      table_at = omega arith;
      last_front = (((((front ++ B) ++ Y) ++ N) ++ Z) ++ O) ++ T;
      last_is = whole ∙ cut_last front B Y N Z O T L;
      last_at = omega arith;
    }
  where
    cut_names : (a b c d : List ℕ) → a ++ (b ++ (c ++ d)) ≡ ((a ++ b) ++ c) ++ d
    cut_names a b c d = simp append_assoc

    cut_table : (a b c d e f g : List ℕ) → a ++ (b ++ (c ++ (d ++ (e ++ (f ++ g))))) ≡ (((((a ++ b) ++ c) ++ d) ++ e) ++ f) ++ g
    cut_table a b c d e f g = simp append_assoc

    cut_last : (a b c d e f g h : List ℕ) → a ++ (b ++ (c ++ (d ++ (e ++ (f ++ (g ++ h)))))) ≡ ((((((a ++ b) ++ c) ++ d) ++ e) ++ f) ++ g) ++ h
    cut_last a b c d e f g h = simp append_assoc

-- what tells where the section headers are
table_some : (end : ℕ) (ts : List Section) → 0 < length ts
    → table_of end ts ≡ record { offset = table_offset end ts; entry_size = 40; count = length ts + 2; names = length ts + 1 }
table_some end [] some = absurd (omega arith)
table_some end (s ∷ ts) some = refl

-- the section headers are in the file
pub table_there : (F front : List ℕ) (end : ℕ) (ts : List Section) → F ≡ front ++ section_part end ts → length front ≡ end
    → ((table_of end ts).count == 0) || (((table_of end ts).entry_size == 40) && has_range F (table_of end ts).offset (40 * (table_of end ts).count)) ≡ true
table_there F front end [] is at = refl
table_there F front end (s ∷ ts) is at =
    let p = parts F front end (s ∷ ts) (omega arith) is at in
    let ws = names_words (names_offset end (s ∷ ts)) (length (names (s ∷ ts))) in
    let all : table_offset end (s ∷ ts) + 40 * (length (s ∷ ts) + 2) ≤ length F =
    omega (arith, p.last_at, ap length p.last_is, length-append p.last_front (flat_map word ws), words-length ws) in
    let there : has_range F (table_offset end (s ∷ ts)) (40 * (length (s ∷ ts) + 2)) ≡ true = le-leb _ _ all in
    ap (λ b. (length (s ∷ ts) + 2 == 0) || b) there ∙ or_true (length (s ∷ ts) + 2 == 0)
  where
    or_true : (b : Bool) → (b || true) ≡ true
    or_true true = refl
    or_true false = refl

-- numbers that are kept
kept : (p : ℕ → Bool) (a n : ℕ) → ((k : ℕ) → k < a + n → p k ≡ true) → filter p (range_with_len a n) ≡ range_with_len a n
kept p a zero all = refl
kept p a (suc n) all =
    let first : p a ≡ true = all a (omega arith) in
    let rest = kept p (a + 1) n (λ k low. all k (omega arith)) in
    ap (λ b. cond b (a ∷ filter p (range_with_len (a + 1) n)) (filter p (range_with_len (a + 1) n))) first
    ∙ ap (λ ks. a ∷ ks) rest

range_more : (a n : ℕ) → range_with_len a (n + 1) ≡ range_with_len a n ++ (a + n) ∷ []
range_more a n = sym (map-id (range_with_len a (n + 1))) ∙ map-range_with_len_more (λ k. k) a n (a + n) refl ∙ ap (λ ks. ks ++ (a + n) ∷ []) (map-id (range_with_len a n))

numbers_left : (m : ℕ) → filter (λ n. not (n == m + 1)) (range_with_len 1 (m + 2 - 1)) ≡ range_with_len 1 m
numbers_left m =
    let p : ℕ → Bool = λ n. not (n == m + 1) in
    let count : m + 2 - 1 ≡ m + 1 = omega arith in
    let last : p (1 + m) ≡ false = ap not (eq-eqb (1 + m) (m + 1) (omega arith)) in
    ap (λ n. filter p (range_with_len 1 n)) count ∙ ap (filter p) (range_more 1 m)
    ∙ filter-append p (range_with_len 1 m) ((1 + m) ∷ [])
    ∙ ap (λ b. filter p (range_with_len 1 m) ++ cond b ((1 + m) ∷ []) []) last
    ∙ append-nil (filter p (range_with_len 1 m))
    ∙ kept p 1 m (λ k low. ap not (ne_eqb k (m + 1) (λ e. absurd (omega arith))))

-- the bytes of the names, and the sections, by the fields of the ELF header
pub names_by : List ℕ → FileHeader → List ℕ
names_by F h =
    cond (nat_lt h.e_shstrndx h.e_shnum) (reading.section_bytes F (section_header_at F (h.e_shoff + 40 * h.e_shstrndx))) []

pub sections_by : List ℕ → FileHeader → List Section
sections_by F h =
    map (λ n. section_with (names_by F h) F (section_header_at F (h.e_shoff + 40 * n)))
    (filter (λ n. not (n == h.e_shstrndx)) (range_with_len 1 (h.e_shnum - 1)))

pub sections_are_by : (F : List ℕ) → (elf_of F).sections ≡ sections_by F (fields.file_header F)
unfolding sections_by names_by section_with
sections_are_by F = refl

-- the sections are those that were written
pub sections_back : (F front : List ℕ) (end entry flags count : ℕ) (ts : List Section) → F ≡ front ++ section_part end ts
    → length front ≡ end → end + sections_room ts ≤ room_limit → list_all has_section_words ts ≡ true → list_all is_plain ts ≡ true
    → sections_by F (header_made entry flags count (table_of end ts)) ≡ ts
unfolding sections_by names_by header_made names name_list names_header
sections_back F front end entry flags count [] is at room fit plain = refl
sections_back F front end entry flags count (s ∷ ss) is at room fit plain =
    let ts : List Section = s ∷ ss in
    let m = length ts in
    let p = parts F front end ts (omega arith) is at in
    let high = sections_end_high end ts in
    let long = names_length ts in
    let a_high = aligned_high (sections_end end ts) in
    let ws = names_words (names_offset end ts) (length (names ts)) in
    let header = ap (λ G. section_header_at G (table_offset end ts + 40 * (m + 1))) p.last_is
    ∙ names_header_put p.last_front (names_offset end ts) (length (names ts)) (table_offset end ts + 40 * (m + 1)) (sym p.last_at) (omega arith) (omega arith) in
    let found : reading.section_bytes F (section_header_at F (table_offset end ts + 40 * (m + 1))) ≡ names ts =
    ap (reading.section_bytes F) header
    ∙ bytes_put F p.names_front (names ts) p.names_rest (names_header (names_offset end ts) (length (names ts))) p.names_are p.names_at refl refl in
    let there : nat_lt (m + 1) (m + 2) ≡ true = lt-ltb _ _ (omega arith) in
    let named : cond (nat_lt (m + 1) (m + 2)) (reading.section_bytes F (section_header_at F (table_offset end ts + 40 * (m + 1)))) [] ≡ names ts =
    cond-true _ _ _ there ∙ found in
    let read =
    sections_read F p.table_front p.table_rest front p.bytes.0 (names ts) (0 ∷ []) (codes ".shstrtab" ++ 0 ∷ []) (name_list ts ++ (codes ".shstrtab" ++ 0 ∷ [])) ts (table_offset end ts) end 1 1
    p.table_is p.table_at p.bytes.1 at refl refl refl room (omega arith) fit plain in
    ap (λ N. map (λ n. section_with N F (section_header_at F (table_offset end ts + 40 * n))) (filter (λ n. not (n == m + 1)) (range_with_len 1 (m + 2 - 1)))) named
    ∙ ap (map (λ n. section_with (names ts) F (section_header_at F (table_offset end ts + 40 * n)))) (numbers_left m)
    ∙ read
