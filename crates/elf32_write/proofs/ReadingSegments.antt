-- The segments that a written file has.
use Rattle.std.proofs.Common.{◌≡◌, ℕ, zero, suc, ◌+◌, ◌-◌, ◌*◌, ◌^◌, ◌<◌, ◌≤◌, Bool, true, false, not, ◌&&◌, ◌||◌, List, [], ◌∷◌, ◌++◌, length, length-append, map, filter, get_or, Some, None, refl, sym, ap, ◌∙◌, append_assoc, arith}
use Rattle.std.specs.Prelude.{slice_range, nat_lt, nat_le, position}
use Rattle.std.specs.List.{flat_map, range_with_len, list_all, list_any, position_or_len}
use Rattle.std.proofs.lemmas.Bool.{and_parts, leb-true, ltb-true, le-leb, le-ltb, cond-false, or_parts}
use Rattle.std.proofs.lemmas.List.Sums.{position_or_len_is}
use Rattle.std.proofs.lemmas.List.{length-replicate}
use Rattle.elf32_read.specs.declared.headers.ProgramHeader.{ProgramHeader}
use Rattle.elf32_read.specs.Elf.{Segment, is_placed, are_placed}
use Rattle.elf32_read.specs.Fields.{program_header_at}
use Rattle.elf32_read.specs.Reading.{has_range, is_load, segment_in}
use Rattle.elf32_read.specs.Refusals.{is_dynamic, is_outside, has_wrong_sizes}
use Rattle.elf32_write.specs.Layout.{word, zeros, placed, program_words, program_table, segment_bytes}
use Rattle.elf32_write.specs.Writable.{has_segment_words}
use Rattle.elf32_write.specs.Room.{segments_room, room_limit}
use Rattle.elf32_write.proofs.LayoutLemmas.{placed_low, placed_high}
use Rattle.elf32_write.proofs.ReadingFields.{word_put, words-length, slice_put}

-- what a segment's header reads as
unfoldable pub header_for : ℕ → Segment → ProgramHeader
header_for offset s = record {
  p_type = 1;
  p_offset = offset;
  p_vaddr = s.vaddr;
  p_filesz = length s.bytes;
  p_memsz = s.memsz;
  p_flags = s.flags;
}

unfoldable pub headers_of : ℕ → List Segment → List ProgramHeader
headers_of end [] = []
headers_of end (s ∷ ss) = header_for (placed end s.vaddr) s ∷ headers_of (placed end s.vaddr + length s.bytes) ss

header_put : (front rest : List ℕ) (offset n : ℕ) (s : Segment) → n ≡ length front → offset < 2 ^ 32
    → length s.bytes < 2 ^ 32 → has_segment_words s ≡ true
    → program_header_at (front ++ (flat_map word (program_words offset s) ++ rest)) n ≡ header_for offset s
unfolding program_header_at header_for
header_put front rest offset n s is offset_fits size_fits fit =
    let parts = and_parts (nat_lt s.flags (2 ^ 32)) (nat_lt s.vaddr (2 ^ 32) && nat_lt s.memsz (2 ^ 32)) fit in
    let more = and_parts (nat_lt s.vaddr (2 ^ 32)) (nat_lt s.memsz (2 ^ 32)) parts.1 in
    let ws = program_words offset s in
    let low : (k : ℕ) → k < 8 → k < length ws = λ k h. omega arith in
    λ i. record {
      p_type = word_put front ws rest 0 n (omega arith) (omega arith) (omega arith) i;
      p_offset = word_put front ws rest 1 (n + 4) (omega arith) (omega arith) offset_fits i;
      p_vaddr = word_put front ws rest 2 (n + 8) (omega arith) (omega arith) (ltb-true _ _ more.0) i;
      p_filesz = word_put front ws rest 4 (n + 16) (omega arith) (omega arith) size_fits i;
      p_memsz = word_put front ws rest 5 (n + 20) (omega arith) (omega arith) (ltb-true _ _ more.1) i;
      p_flags = word_put front ws rest 6 (n + 24) (omega arith) (omega arith) (ltb-true _ _ parts.0) i;
    }

-- the table reads as the headers
pub table_read : (F front rest : List ℕ) (ss : List Segment) (base end k : ℕ) → F ≡ front ++ (program_table end ss ++ rest)
    → length front ≡ base + 32 * k → end + segments_room ss ≤ room_limit → list_all has_segment_words ss ≡ true
    → map (λ j. program_header_at F (base + 32 * j)) (range_with_len k (length ss)) ≡ headers_of end ss
unfolding program_table headers_of
table_read F front rest [] base end k is at room fit = refl
table_read F front rest (s ∷ ss) base end k is at room fit =
    let parts = and_parts (has_segment_words s) (list_all has_segment_words ss) fit in
    let offset = placed end s.vaddr in
    let high = placed_high end s.vaddr in
    let next = offset + length s.bytes in
    let words = flat_map word (program_words offset s) in
    let cut : F ≡ front ++ (words ++ (program_table next ss ++ rest)) =
    is ∙ ap (λ t. front ++ t) (append_assoc words (program_table next ss) rest) in
    let first : program_header_at F (base + 32 * k) ≡ header_for offset s =
    ap (λ G. program_header_at G (base + 32 * k)) cut
    ∙ header_put front (program_table next ss ++ rest) offset (base + 32 * k) s (sym at) (omega arith) (omega arith) parts.0 in
    let others =
    table_read F (front ++ words) rest ss base next (k + 1)
    (cut ∙ sym (append_assoc front words (program_table next ss ++ rest)))
    (omega (arith, at, length-append front words, words-length (program_words offset s)))
    (omega arith) parts.1 in
    cc

pub zeros-length : (n : ℕ) → length (zeros n) ≡ n
unfolding zeros
zeros-length n = length-replicate n 0

-- the segments read as they were
pub segments_read : (F front rest : List ℕ) (ss : List Segment) (end : ℕ) → F ≡ front ++ (segment_bytes end ss ++ rest)
    → length front ≡ end → map (segment_in F) (filter is_load (headers_of end ss)) ≡ ss
unfolding segment_bytes headers_of header_for
segments_read F front rest [] end is at = refl
segments_read F front rest (s ∷ ss) end is at =
    let offset = placed end s.vaddr in
    let low = placed_low end s.vaddr in
    let gap = zeros (offset - end) in
    let next = offset + length s.bytes in
    let tail = segment_bytes next ss in
    let cut : F ≡ (front ++ gap) ++ (s.bytes ++ (tail ++ rest)) =
    is ∙ regroup front gap s.bytes tail rest in
    let here : length (front ++ gap) ≡ offset =
    omega (arith, at, low, length-append front gap, zeros-length (offset - end)) in
    let bytes : slice_range F offset (offset + length s.bytes) ≡ s.bytes =
    ap (λ G. slice_range G offset (offset + length s.bytes)) cut
    ∙ slice_put (front ++ gap) s.bytes (tail ++ rest) offset (offset + length s.bytes) (sym here) refl in
    let first : segment_in F (header_for offset s) ≡ s = λ i. record {
      flags = s.flags;
      vaddr = s.vaddr;
      memsz = s.memsz;
      bytes = bytes i;
    } in
    let others =
    segments_read F ((front ++ gap) ++ s.bytes) rest ss next
    (cut ∙ sym (append_assoc (front ++ gap) s.bytes (tail ++ rest)))
    (omega (arith, here, length-append (front ++ gap) s.bytes)) in
    cc
  where
    regroup : (a b c d e : List ℕ) → a ++ ((b ++ (c ++ d)) ++ e) ≡ (a ++ b) ++ (c ++ (d ++ e))
    regroup a b c d e = simp append_assoc

-- the file has the bytes of each
pub none_outside : (F front rest : List ℕ) (ss : List Segment) (end : ℕ) → F ≡ front ++ (segment_bytes end ss ++ rest)
    → length front ≡ end → list_any (is_outside F) (headers_of end ss) ≡ false
unfolding segment_bytes headers_of header_for
none_outside F front rest [] end is at = refl
none_outside F front rest (s ∷ ss) end is at =
    let offset = placed end s.vaddr in
    let low = placed_low end s.vaddr in
    let gap = zeros (offset - end) in
    let next = offset + length s.bytes in
    let tail = segment_bytes next ss in
    let cut : F ≡ ((front ++ gap) ++ s.bytes) ++ (tail ++ rest) = is ∙ regroup front gap s.bytes tail rest in
    let here : length ((front ++ gap) ++ s.bytes) ≡ next =
    omega (arith, at, low, length-append front gap, zeros-length (offset - end), length-append (front ++ gap) s.bytes) in
    let within : next ≤ length F =
    omega (arith, here, ap length cut, length-append ((front ++ gap) ++ s.bytes) (tail ++ rest)) in
    let first : has_range F offset (length s.bytes) ≡ true = le-leb _ _ within in
    let others = none_outside F ((front ++ gap) ++ s.bytes) rest ss next cut here in
    ap (λ b. not b || list_any (is_outside F) (headers_of next ss)) first ∙ others
  where
    regroup : (a b c d e : List ℕ) → a ++ ((b ++ (c ++ d)) ++ e) ≡ ((a ++ b) ++ c) ++ (d ++ e)
    regroup a b c d e = simp append_assoc

pub none_dynamic : (ss : List Segment) (end : ℕ) → list_any is_dynamic (headers_of end ss) ≡ false
unfolding headers_of header_for
none_dynamic [] end = refl
none_dynamic (s ∷ ss) end = none_dynamic ss (placed end s.vaddr + length s.bytes)

pub none_wrong : (ss : List Segment) (end : ℕ) → are_placed ss ≡ true → list_any has_wrong_sizes (headers_of end ss) ≡ false
unfolding headers_of header_for
none_wrong [] end is = refl
none_wrong (s ∷ ss) end is =
    let parts = and_parts (is_placed s) (are_placed ss) is in
    let sizes = and_parts (nat_le (length s.bytes) s.memsz) (nat_le (s.vaddr + s.memsz) (2 ^ 32)) parts.0 in
    let fits : nat_lt s.memsz (length s.bytes) ≡ false = le-ltb _ _ (leb-true _ _ sizes.0) in
    let ends : nat_lt (2 ^ 32) (s.vaddr + s.memsz) ≡ false = le-ltb _ _ (leb-true _ _ sizes.1) in
    let others = none_wrong ss (placed end s.vaddr + length s.bytes) parts.1 in
    let rest : Bool = list_any has_wrong_sizes (headers_of (placed end s.vaddr + length s.bytes) ss) in
    ap (λ b. (b || nat_lt (2 ^ 32) (s.vaddr + s.memsz)) || rest) fits ∙ ap (λ b. b || rest) ends ∙ others

-- a search finds none where none passes
pub fails_at : {X : Type 0} (p : X → Bool) (xs : List X) → list_any p xs ≡ false → (k : ℕ) (d : X) → k < length xs → p (get_or xs k d) ≡ false
fails_at p [] none k d low = absurd (omega arith)
fails_at p (x ∷ xs) none zero d low = (or_parts (p x) (list_any p xs) none).0
fails_at p (x ∷ xs) none (suc k) d low = fails_at p xs (or_parts (p x) (list_any p xs) none).1 k d (omega arith)

pub finds_none : {X : Type 0} (p : X → Bool) (xs : List X) (k : ℕ) → list_any p xs ≡ false → position p xs ≡ Some k → ⊥
finds_none p [] k none found = cc
finds_none p (x ∷ xs) k none found =
    let at : position_or_len p (x ∷ xs) ≡ length (x ∷ xs) =
    position_or_len_is p (x ∷ xs) (length (x ∷ xs)) x (omega arith) (λ j low. fails_at p (x ∷ xs) none j x low) (λ low. absurd (omega arith)) in
    let nothing = cond-false (nat_lt (position_or_len p (x ∷ xs)) (length (x ∷ xs))) (Some (position_or_len p (x ∷ xs))) None (le-ltb _ _ (omega arith)) in
    cc
