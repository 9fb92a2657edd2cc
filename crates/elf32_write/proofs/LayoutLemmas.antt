-- What is written, piece by piece.
use Rattle.std.proofs.Common.{◌≡◌, Bool, true, ℕ, ◌+◌, ◌-◌, ◌<◌, ◌≤◌, List, [], ◌∷◌, ◌++◌, length, length-append, map, take, drop, get_or, codes, refl, sym, ap, ◌∙◌, append_assoc, arith, w16, w32}
use Rattle.std.specs.Int.{to_le_bytes}
use Rattle.std.specs.List.{flat_map, list_all}
use Rattle.std.proofs.lemmas.Bool.{and_from}
use Rattle.std.proofs.lemmas.List.Folds.{list_all-map, list_all_more}
use Rattle.std.proofs.lemmas.List.{append-nil, take_more, take_all, at_drop_more, at_drop_all}
use Rattle.std.proofs.lemmas.Grind.{flat_map-append}
use Rattle.elf32_read.specs.Elf.{Elf, Segment, Section}
use Rattle.elf32_read.specs.Segments.{segment_of, section_of}
use Rattle.elf32_read.specs.declared.Segment as declared
use Rattle.elf32_read.specs.declared.Section as declared_section
use Rattle.elf32_write.specs.Layout.{identification, file_header, half, word, zeros, placed, aligned, names, name_list, name_offset, sections_end, segments_end, program_words, program_table, segment_bytes, section_bytes, section_words, section_table, section_part, file_of, table_of, headers_end, names_offset, table_offset, names_words}
use Rattle.elf32_write.specs.declared.table.Table.{Table}
use Rattle.elf32_write.specs.Room.{sections_room, segments_room}

-- what stands in place of an element beyond the end
abbrev pub no_segment : declared.Segment
no_segment = record { flags = 0; vaddr = 0; memsz = 0; bytes = record { ref_ptr = (0, 0); now = [] } }

abbrev pub no_section : declared_section.Section
no_section = record {
  name = record { ref_ptr = (0, 0); now = [] };
  kind = 0;
  flags = 0;
  addr = 0;
  size = 0;
  bytes = record { ref_ptr = (0, 0); now = [] };
}

-- one number's bytes more
more : (bytes_of : ℕ → List ℕ) (old out new xs : List ℕ) (i : ℕ) → i < length xs
    → out ≡ old ++ flat_map bytes_of (take i xs) → new ≡ out ++ bytes_of (get_or xs i 0)
    → new ≡ old ++ flat_map bytes_of (take (i + 1) xs)
more bytes_of old out new xs i low before this =
    let x = get_or xs i 0 in
    let cut : flat_map bytes_of (take (i + 1) xs) ≡ flat_map bytes_of (take i xs) ++ bytes_of x =
    ap (flat_map bytes_of) (take_more xs i 0 low) ∙ flat_map-append bytes_of (take i xs) (x ∷ [])
    ∙ ap (λ t. flat_map bytes_of (take i xs) ++ t) (append-nil (bytes_of x)) in
    this ∙ ap (λ t. t ++ bytes_of x) before ∙ append_assoc old (flat_map bytes_of (take i xs)) (bytes_of x)
    ∙ ap (λ t. old ++ t) (sym cut)

half-le_bytes : (n : ℕ) → half n ≡ to_le_bytes w16 n
unfolding half
half-le_bytes n = refl

word-le_bytes : (n : ℕ) → word n ≡ to_le_bytes w32 n
unfolding word
word-le_bytes n = refl

pub halves_more : (old out new xs : List ℕ) (i : ℕ) {b : List ℕ} → i < length xs → out ≡ old ++ flat_map half (take i xs)
    → new ≡ out ++ b → b ≡ to_le_bytes w16 (get_or xs i 0) → new ≡ old ++ flat_map half (take (i + 1) xs)
halves_more old out new xs i low before this bytes =
    more half old out new xs i low before (this ∙ ap (λ t. out ++ t) (bytes ∙ sym (half-le_bytes (get_or xs i 0))))

pub words_more : (old out new xs : List ℕ) (i : ℕ) {b : List ℕ} → i < length xs → out ≡ old ++ flat_map word (take i xs)
    → new ≡ out ++ b → b ≡ to_le_bytes w32 (get_or xs i 0) → new ≡ old ++ flat_map word (take (i + 1) xs)
words_more old out new xs i low before this bytes =
    more word old out new xs i low before (this ∙ ap (λ t. out ++ t) (bytes ∙ sym (word-le_bytes (get_or xs i 0))))

-- a piece that is padded and appended, and what follows it
piece : (o0 o1 o2 gap bytes rest : List ℕ) → o1 ≡ o0 ++ gap → o2 ≡ o1 ++ bytes → o2 ++ rest ≡ o0 ++ (gap ++ (bytes ++ rest))
piece o0 o1 o2 gap bytes rest one two = rw (two, one) (simp append_assoc)

pub section_step : (ss : List declared_section.Section) (i : ℕ) (d : declared_section.Section) (o0 o1 o2 : List ℕ) (n0 offset n2 : ℕ)
    → i < length ss → offset ≡ aligned n0 → o1 ≡ o0 ++ zeros (offset - n0) → o2 ≡ o1 ++ (get_or ss i d).bytes.now
    → n2 ≡ offset + length (get_or ss i d).bytes.now
    → o2 ++ section_bytes n2 (map section_of (drop (i + 1) ss)) ≡ o0 ++ section_bytes n0 (map section_of (drop i ss))
unfolding section_bytes
section_step ss i d o0 o1 o2 n0 offset n2 low is one two end =
    let s = get_or ss i d in
    let rest = map section_of (drop (i + 1) ss) in
    let at = at_drop_more (λ ys. section_bytes n0 (map section_of ys)) ss i d low in
    ap (λ n. o2 ++ section_bytes n rest) end
    ∙ piece o0 o1 o2 (zeros (offset - n0)) s.bytes.now (section_bytes (offset + length s.bytes.now) rest) one two
    ∙ ap (λ a. o0 ++ (zeros (a - n0) ++ (s.bytes.now ++ section_bytes (a + length s.bytes.now) rest))) is
    ∙ ap (λ t. o0 ++ t) (sym at)

pub segment_step : (ss : List declared.Segment) (i : ℕ) (d : declared.Segment) (o0 o1 o2 : List ℕ) (n0 offset n2 : ℕ)
    → i < length ss → offset ≡ placed n0 (get_or ss i d).vaddr → o1 ≡ o0 ++ zeros (offset - n0) → o2 ≡ o1 ++ (get_or ss i d).bytes.now
    → n2 ≡ offset + length (get_or ss i d).bytes.now
    → o2 ++ segment_bytes n2 (map segment_of (drop (i + 1) ss)) ≡ o0 ++ segment_bytes n0 (map segment_of (drop i ss))
unfolding segment_bytes
segment_step ss i d o0 o1 o2 n0 offset n2 low is one two end =
    let s = get_or ss i d in
    let rest = map segment_of (drop (i + 1) ss) in
    let at = at_drop_more (λ ys. segment_bytes n0 (map segment_of ys)) ss i d low in
    ap (λ n. o2 ++ segment_bytes n rest) end
    ∙ piece o0 o1 o2 (zeros (offset - n0)) s.bytes.now (segment_bytes (offset + length s.bytes.now) rest) one two
    ∙ ap (λ a. o0 ++ (zeros (a - n0) ++ (s.bytes.now ++ segment_bytes (a + length s.bytes.now) rest))) is
    ∙ ap (λ t. o0 ++ t) (sym at)

pub program_step : (ss : List declared.Segment) (i : ℕ) (d : declared.Segment) (o0 o1 : List ℕ) (end offset : ℕ)
    → i < length ss → offset ≡ placed end (get_or ss i d).vaddr → o1 ≡ o0 ++ flat_map word (program_words offset (segment_of (get_or ss i d)))
    → o1 ++ program_table (offset + length (get_or ss i d).bytes.now) (map segment_of (drop (i + 1) ss))
    ≡ o0 ++ program_table end (map segment_of (drop i ss))
unfolding program_table
program_step ss i d o0 o1 end offset low is one =
    let s = segment_of (get_or ss i d) in
    let rest = map segment_of (drop (i + 1) ss) in
    let at = at_drop_more (λ ys. program_table end (map segment_of ys)) ss i d low in
    ap (λ t. t ++ program_table (offset + length s.bytes) rest) one
    ∙ append_assoc o0 (flat_map word (program_words offset s)) (program_table (offset + length s.bytes) rest)
    ∙ ap (λ a. o0 ++ (flat_map word (program_words a s) ++ program_table (a + length s.bytes) rest)) is
    ∙ ap (λ t. o0 ++ t) (sym at)

pub table_step : (ss : List declared_section.Section) (i : ℕ) (d : declared_section.Section) (o0 o1 : List ℕ) (end name offset : ℕ)
    → i < length ss → offset ≡ aligned end
    → o1 ≡ o0 ++ flat_map word (section_words (name_offset name (section_of (get_or ss i d))) offset (section_of (get_or ss i d)))
    → o1 ++ section_table (offset + length (get_or ss i d).bytes.now) (name + (length (get_or ss i d).name.now + 1)) (map section_of (drop (i + 1) ss))
    ≡ o0 ++ section_table end name (map section_of (drop i ss))
unfolding section_table
table_step ss i d o0 o1 end name offset low is one =
    let s = section_of (get_or ss i d) in
    let rest = map section_of (drop (i + 1) ss) in
    let at = at_drop_more (λ ys. section_table end name (map section_of ys)) ss i d low in
    let next : ℕ = name + (length s.name + 1) in
    ap (λ t. t ++ section_table (offset + length s.bytes) next rest) one
    ∙ append_assoc o0 (flat_map word (section_words (name_offset name s) offset s)) (section_table (offset + length s.bytes) next rest)
    ∙ ap (λ a. o0 ++ (flat_map word (section_words (name_offset name s) a s) ++ section_table (a + length s.bytes) next rest)) is
    ∙ ap (λ t. o0 ++ t) (sym at)

-- nothing is left
pub section_bytes-end : (ss : List declared_section.Section) (i n : ℕ) (out : List ℕ) → length ss ≤ i
    → out ++ section_bytes n (map section_of (drop i ss)) ≡ out
unfolding section_bytes
section_bytes-end ss i n out le = ap (λ t. out ++ t) (at_drop_all (λ ys. section_bytes n (map section_of ys)) ss i le) ∙ append-nil out

pub segment_bytes-end : (ss : List declared.Segment) (i n : ℕ) (out : List ℕ) → length ss ≤ i
    → out ++ segment_bytes n (map segment_of (drop i ss)) ≡ out
unfolding segment_bytes
segment_bytes-end ss i n out le = ap (λ t. out ++ t) (at_drop_all (λ ys. segment_bytes n (map segment_of ys)) ss i le) ∙ append-nil out

pub program_table-end : (ss : List declared.Segment) (i n : ℕ) (out : List ℕ) → length ss ≤ i
    → out ++ program_table n (map segment_of (drop i ss)) ≡ out
unfolding program_table
program_table-end ss i n out le = ap (λ t. out ++ t) (at_drop_all (λ ys. program_table n (map segment_of ys)) ss i le) ∙ append-nil out

pub section_table-end : (ss : List declared_section.Section) (i n name : ℕ) (out : List ℕ) → length ss ≤ i
    → out ++ section_table n name (map section_of (drop i ss)) ≡ out
unfolding section_table
section_table-end ss i n name out le = ap (λ t. out ++ t) (at_drop_all (λ ys. section_table n name (map section_of ys)) ss i le) ∙ append-nil out

-- lengths
pub names_length : (ss : List Section) → length (names ss) ≡ 11 + length (name_list ss)
unfolding names
names_length ss = omega (arith, length-append (name_list ss) (codes ".shstrtab" ++ 0 ∷ []))

pub name_list-cons : (s : Section) (ss : List Section) → length (name_list (s ∷ ss)) ≡ (length s.name + 1) + length (name_list ss)
name_list-cons s ss = omega (arith, length-append (s.name ++ 0 ∷ []) (name_list ss), length-append s.name (0 ∷ []))

pub name_list_room : (ss : List Section) → length (name_list ss) ≤ sections_room ss
name_list_room [] = omega arith
name_list_room (s ∷ ss) = omega (arith, name_list-cons s ss, name_list_room ss)

pub aligned_low : (n : ℕ) → n ≤ aligned n
unfolding aligned
aligned_low n = omega arith

pub aligned_high : (n : ℕ) → aligned n < n + 4
unfolding aligned
aligned_high n = omega arith

pub placed_low : (n v : ℕ) → n ≤ placed n v
unfolding placed
placed_low n v = omega arith

pub placed_high : (n v : ℕ) → placed n v < n + 4096
unfolding placed
placed_high n v = omega arith

pub sections_end_high : (n : ℕ) (ss : List Section) → sections_end n ss + length (name_list ss) ≤ n + sections_room ss
sections_end_high n [] = omega arith
sections_end_high n (s ∷ ss) =
    omega (arith, sections_end_high (aligned n + length s.bytes) ss, aligned_high n, name_list-cons s ss)

pub segments_end_high : (n : ℕ) (ss : List Segment) → segments_end n ss ≤ n + segments_room ss
segments_end_high n [] = omega arith
segments_end_high n (s ∷ ss) =
    omega (arith, segments_end_high (placed n s.vaddr + length s.bytes) ss, placed_high n s.vaddr)

pub section_room_step : (ss : List declared_section.Section) (i : ℕ) → i < length ss
    → sections_room (map section_of (drop i ss))
    ≡ ((5 + length (get_or ss i no_section).bytes.now) + length (get_or ss i no_section).name.now)
    + sections_room (map section_of (drop (i + 1) ss))
section_room_step ss i low = at_drop_more (λ ys. sections_room (map section_of ys)) ss i no_section low

pub segment_room_step : (ss : List declared.Segment) (i : ℕ) → i < length ss
    → segments_room (map segment_of (drop i ss))
    ≡ (4096 + length (get_or ss i no_segment).bytes.now) + segments_room (map segment_of (drop (i + 1) ss))
segment_room_step ss i low = at_drop_more (λ ys. segments_room (map segment_of ys)) ss i no_segment low

pub section_end_step : (ss : List declared_section.Section) (i n m : ℕ) → i < length ss
    → m ≡ aligned n + length (get_or ss i no_section).bytes.now
    → sections_end m (map section_of (drop (i + 1) ss)) ≡ sections_end n (map section_of (drop i ss))
section_end_step ss i n m low is =
    ap (λ k. sections_end k (map section_of (drop (i + 1) ss))) is
    ∙ sym (at_drop_more (λ ys. sections_end n (map section_of ys)) ss i no_section low)

pub segment_end_step : (ss : List declared.Segment) (i n m : ℕ) → i < length ss
    → m ≡ placed n (get_or ss i no_segment).vaddr + length (get_or ss i no_segment).bytes.now
    → segments_end m (map segment_of (drop (i + 1) ss)) ≡ segments_end n (map segment_of (drop i ss))
segment_end_step ss i n m low is =
    ap (λ k. segments_end k (map segment_of (drop (i + 1) ss))) is
    ∙ sym (at_drop_more (λ ys. segments_end n (map segment_of ys)) ss i no_segment low)

pub names_done : (ss : List declared_section.Section) (i : ℕ) → length ss ≤ i → name_list (map section_of (drop i ss)) ≡ []
names_done ss i le = at_drop_all (λ ys. name_list (map section_of ys)) ss i le

pub sections_done : (ss : List declared_section.Section) (i n : ℕ) → length ss ≤ i → sections_end n (map section_of (drop i ss)) ≡ n
sections_done ss i n le = at_drop_all (λ ys. sections_end n (map section_of ys)) ss i le

pub segments_done : (ss : List declared.Segment) (i n : ℕ) → length ss ≤ i → segments_end n (map segment_of (drop i ss)) ≡ n
segments_done ss i n le = at_drop_all (λ ys. segments_end n (map segment_of ys)) ss i le

pub names_written : (out o1 o2 o3 o4 list : List ℕ) (ss : List Section) → o1 ≡ out ++ 0 ∷ [] → list ≡ []
    → o2 ++ list ≡ o1 ++ name_list ss → o3 ≡ o2 ++ codes ".shstrtab" → o4 ≡ o3 ++ 0 ∷ [] → o4 ≡ out ++ names ss
unfolding names
names_written out o1 o2 o3 o4 list ss one none two three four =
    let all : o2 ≡ o1 ++ name_list ss = sym (append-nil o2) ∙ ap (λ t. o2 ++ t) (sym none) ∙ two in
    rw (four, three, all, one) (simp append_assoc)

-- what follows the segments, piece by piece
pub part_written : (n : ℕ) (ss : List declared_section.Section) (out o1 o2 o3 o4 o5 o6 o7 : List ℕ) → 0 < length ss
    → o1 ≡ out ++ section_bytes n (map section_of ss)
    → o2 ≡ o1 ++ zeros (names_offset n (map section_of ss) - sections_end n (map section_of ss))
    → o3 ≡ o2 ++ names (map section_of ss)
    → o4 ≡ o3 ++ zeros (table_offset n (map section_of ss) - (names_offset n (map section_of ss) + length (names (map section_of ss))))
    → o5 ≡ o4 ++ zeros 40
    → o6 ≡ o5 ++ section_table n 1 (map section_of ss)
    → o7 ≡ o6 ++ flat_map word (names_words (names_offset n (map section_of ss)) (length (names (map section_of ss))))
    → o7 ≡ out ++ section_part n (map section_of ss)
unfolding section_part
part_written n [] out o1 o2 o3 o4 o5 o6 o7 some a b c d e f g = absurd (omega arith)
part_written n (s ∷ ss) out o1 o2 o3 o4 o5 o6 o7 some a b c d e f g = rw (g, f, e, d, c, b, a) (simp append_assoc)

pub part_empty : (n : ℕ) (ss : List declared_section.Section) (out : List ℕ) → length ss ≡ 0 → out ≡ out ++ section_part n (map section_of ss)
unfolding section_part
part_empty n [] out none = sym (append-nil out)
part_empty n (s ∷ ss) out none = absurd (omega arith)

pub header_written : (out o1 o2 o3 o4 magic : List ℕ) (entry flags segments : ℕ) (t : Table) → magic ≡ identification
    → o1 ≡ out ++ magic → o2 ≡ o1 ++ flat_map half (2 ∷ 243 ∷ [])
    → o3 ≡ o2 ++ flat_map word (1 ∷ entry ∷ 52 ∷ t.offset ∷ flags ∷ [])
    → o4 ≡ o3 ++ flat_map half (52 ∷ 32 ∷ segments ∷ t.entry_size ∷ t.count ∷ t.names ∷ [])
    → o4 ≡ out ++ file_header entry flags segments t
unfolding file_header
header_written out o1 o2 o3 o4 magic entry flags segments t is a b c d =
    rw (d, c, b, a, is) (simp (append_assoc, append-nil))

pub identification-is : (0x7f ∷ 0x45 ∷ 0x4c ∷ 0x46 ∷ 1 ∷ 1 ∷ 1 ∷ 0 ∷ 0 ∷ 0 ∷ 0 ∷ 0 ∷ 0 ∷ 0 ∷ 0 ∷ 0 ∷ []) ≡ identification
unfolding identification
identification-is = refl

-- the whole file, part by part
pub file_written : (e : Elf) (ss : List Segment) (ts : List Section) (o0 o1 o2 o3 o4 : List ℕ) (table : Table)
    (entry flags count end n2 n3 : ℕ) → ss ≡ e.segments → ts ≡ e.sections → entry ≡ e.entry → flags ≡ e.flags
    → count ≡ length ss → end ≡ segments_end (headers_end ss) ss → table ≡ table_of end ts
    → n2 ≡ headers_end ss → n3 ≡ segments_end (headers_end ss) ss
    → o0 ≡ [] → o1 ≡ o0 ++ file_header entry flags count table → o2 ≡ o1 ++ program_table (headers_end ss) ss
    → o3 ≡ o2 ++ segment_bytes n2 ss → o4 ≡ o3 ++ section_part n3 ts → o4 ≡ file_of e
unfolding file_of
file_written e ss ts o0 o1 o2 o3 o4 table entry flags count end n2 n3 s_is t_is e_is f_is c_is end_is table_is n2_is n3_is zero one two three four =
    let whole : o4 ≡ file_header entry flags count table ++ (program_table (headers_end ss) ss ++ (segment_bytes n2 ss ++ section_part n3 ts)) =
    rw (four, three, two, one, zero) (simp append_assoc) in
    rw (← s_is, ← t_is, ← e_is, ← f_is)
    (rw (c_is, table_is, end_is, n2_is, n3_is) at whole)

-- one element more that passes
pub words_step : {X Y : Type 0} (p : Y → Bool) (f : X → Y) (xs : List X) (i : ℕ) (d : X) → i < length xs
    → list_all p (map f (take i xs)) ≡ true → p (f (get_or xs i d)) ≡ true → list_all p (map f (take (i + 1) xs)) ≡ true
words_step p f xs i d low before this =
    list_all-map p f (take (i + 1) xs)
    ∙ list_all_more (λ x. p (f x)) xs i d low
    ∙ and_from _ _ (sym (list_all-map p f (take i xs)) ∙ before) this

pub words_whole : {X Y : Type 0} (p : Y → Bool) (f : X → Y) (xs : List X) (i : ℕ) → length xs ≤ i
    → list_all p (map f (take i xs)) ≡ true → list_all p (map f xs) ≡ true
words_whole p f xs i le all = sym (ap (λ ys. list_all p (map f ys)) (take_all i xs le)) ∙ all
