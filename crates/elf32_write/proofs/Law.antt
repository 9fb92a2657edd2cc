-- The law of writing and reading.
use Rattle.std.proofs.Common.{◌≡◌, ℕ, ◌+◌, ◌*◌, ◌^◌, ◌<◌, ◌≤◌, true, not, ◌&&◌, ◌||◌, ◌==◌, inl, inr, List, [], ◌∷◌, ◌++◌, length, length-append, map, filter, refl, sym, ap, ◌∙◌, append_assoc, arith}
use Rattle.std.specs.Prelude.{position}
use Rattle.std.specs.List.{range_with_len}
use Rattle.std.proofs.lemmas.Bool.{and_from, le-leb, ne_eqb, eqb-true, or_cases, false≢true}
use Rattle.elf32_read.specs.declared.headers.FileHeader.{FileHeader}
use Rattle.elf32_read.specs.declared.refused.FileRule.{FileRule}
use Rattle.elf32_read.specs.declared.refused.FileRule.TheVariants.{Short, NotElf, NotElf32, NotExec, NotRiscv, Flags, ProgramTable, SectionTable, Dynamic, SegmentOutside, SegmentSizes}
use Rattle.elf32_read.specs.Elf.{Elf, Section, are_known_flags}
use Rattle.elf32_read.specs.Fields as fields
use Rattle.elf32_read.specs.Fields.{program_header_at, program_headers}
use Rattle.elf32_read.specs.Reading.{elf_of, has_range, is_load, segment_in}
use Rattle.elf32_read.specs.Refusals.{Fits, IsReadable, is_elf, is_elf32, has_program_table, has_section_table, is_dynamic, is_outside, has_wrong_sizes}
use Rattle.elf32_read.proofs.Judging.{readable_by}
use Rattle.elf32_read.specs.declared.headers.ProgramHeader.{ProgramHeader}
use Rattle.elf32_write.specs.declared.table.Table.{Table}
use Rattle.elf32_write.specs.Layout.{identification, headers_end, segments_end, sections_end, names, names_offset, table_of, file_header, program_table, segment_bytes, section_part, file_of}
use Rattle.elf32_write.specs.Writable.{HasWords}
use Rattle.elf32_write.specs.Room.{sections_room, room_limit}
use Rattle.elf32_write.proofs.LayoutLemmas.{aligned_high, names_length, sections_end_high}
use Rattle.elf32_write.proofs.RoomLemmas.{Limits, room_left}
use Rattle.elf32_write.proofs.ReadingFields.{Small, header_made, header_read, file_header-length}
use Rattle.elf32_write.proofs.ReadingSegments.{headers_of, table_read, segments_read, none_outside, none_dynamic, none_wrong, finds_none}
use Rattle.elf32_write.proofs.ReadBack.{program_table-length, segment_bytes-length, table_there, sections_by, sections_are_by, sections_back}

-- the numbers of the ELF header fit
known_small : (flags : ℕ) → are_known_flags flags ≡ true → flags < 2 ^ 32
known_small flags known =
    elim (or_cases (flags == 0) (flags == 0x10) known) [
      | inl none ↦ let is : flags ≡ 0 = eqb-true _ _ none in omega arith
      | inr one ↦ let is : flags ≡ 0x10 = eqb-true _ _ one in omega arith
    ]

table_fits : (end : ℕ) (ts : List Section) → end + sections_room ts ≤ room_limit → length ts ≤ 1000
    → (table_of end ts).offset < 2 ^ 32
table_fits end [] room few = omega arith
table_fits end (s ∷ ts) room few =
    omega (
      arith,
      sections_end_high end (s ∷ ts),
      names_length (s ∷ ts),
      aligned_high (sections_end end (s ∷ ts)),
      aligned_high (names_offset end (s ∷ ts) + length (names (s ∷ ts))),
    )

table_counts : (end : ℕ) (ts : List Section) → length ts ≤ 1000
    → ((table_of end ts).entry_size < 2 ^ 16) × ((table_of end ts).count < 2 ^ 16) × ((table_of end ts).names < 2 ^ 16)
table_counts end [] few = (omega arith, omega arith, omega arith)
table_counts end (s ∷ ts) few = (omega arith, omega arith, omega arith)

-- a written file, in three parts behind its header
record Written (e : Elf) (F H P S R : List ℕ) (base end : ℕ) (t : Table) : Type 0 where
  pub whole : F ≡ H ++ (P ++ (S ++ R))
  pub behind : F ≡ (H ++ P) ++ (S ++ R)
  pub last : F ≡ ((H ++ P) ++ S) ++ R
  pub at_table : length H ≡ 52
  pub at_bytes : length (H ++ P) ≡ base
  pub at_sections : length ((H ++ P) ++ S) ≡ end
  pub header : fields.file_header F ≡ header_made e.entry e.flags (length e.segments) t
  pub headers : program_headers F ≡ headers_of base e.segments

written : (e : Elf) → Limits e → HasWords e
    → let base = headers_end e.segments in
    let end = segments_end base e.segments in
    let t = table_of end e.sections in
    Written e (file_of e) (file_header e.entry e.flags (length e.segments) t) (program_table base e.segments) (segment_bytes base e.segments) (section_part end e.sections) base end t
unfolding file_of header_made
written e l w =
    let ss = e.segments in
    let base = headers_end ss in
    let end = segments_end base ss in
    let t = table_of end e.sections in
    let H = file_header e.entry e.flags (length ss) t in
    let P = program_table base ss in
    let S = segment_bytes base ss in
    let R = section_part end e.sections in
    let F = H ++ (P ++ (S ++ R)) in
    let counts = table_counts end e.sections l.few_sections in
    let left = room_left e l in
    let small : Small e.entry e.flags (length ss) t = record {
      entry_fits = w.entry;
      flags_fit = known_small e.flags l.flags;
      count_fits = omega (arith, l.few_segments);
      offset_fits = table_fits end e.sections left l.few_sections;
      size_fits = counts.0;
      sections_fit = counts.1;
      names_fit = counts.2;
    } in
    let header : fields.file_header F ≡ header_made e.entry e.flags (length ss) t =
    header_read e.entry e.flags (length ss) t (P ++ (S ++ R)) small in
    let h_size = file_header-length e.entry e.flags (length ss) t in
    let p_size = program_table-length base ss in
    let s_size = segment_bytes-length base ss in
    let one = length-append H P in
    let two = length-append (H ++ P) S in
    let by : FileHeader → List ProgramHeader = λ h. map (λ j. program_header_at F (h.e_phoff + 32 * j)) (range_with_len 0 h.e_phnum) in
    record {
      whole = refl;
      behind = sym (append_assoc H P (S ++ R));
      last = sym (append_assoc H P (S ++ R)) ∙ sym (append_assoc (H ++ P) S R);
      at_table = h_size;
      at_bytes = omega arith;
      at_sections = omega arith;
      header = header;
      headers = ap by header ∙ table_read F H (S ++ R) ss 52 base 0 refl (omega arith) (omega (arith, l.room)) w.segments;
    }

begins : (entry flags count : ℕ) (t : Table) (rest : List ℕ) → is_elf (file_header entry flags count t ++ rest) ≡ true
unfolding file_header identification
begins entry flags count t rest = refl

is_of_32 : (entry flags count : ℕ) (t : Table) (rest : List ℕ) → is_elf32 (file_header entry flags count t ++ rest) ≡ true
unfolding file_header identification
is_of_32 entry flags count t rest = refl

-- no rule fits a written file
no_rule : (e : Elf) (F H P S R : List ℕ) (base end : ℕ) (t : Table) → Limits e → Written e F H P S R base end t
    → is_elf F ≡ true → is_elf32 F ≡ true → S ≡ segment_bytes base e.segments → R ≡ section_part end e.sections
    → t ≡ table_of end e.sections → base ≡ headers_end e.segments → (r : FileRule) → Fits F r → ⊥
unfolding header_made
no_rule e F H P S R base end t l w magic wide s_is r_is t_is b_is Short f =
    absurd (omega (arith, f, w.at_table, ap length w.whole, length-append H (P ++ (S ++ R))))
no_rule e F H P S R base end t l w magic wide s_is r_is t_is b_is NotElf f = cc
no_rule e F H P S R base end t l w magic wide s_is r_is t_is b_is NotElf32 f = cc
no_rule e F H P S R base end t l w magic wide s_is r_is t_is b_is (NotExec kind) f =
    f.1 (f.0 ∙ ap (λ (h : FileHeader). h.e_type) w.header)
no_rule e F H P S R base end t l w magic wide s_is r_is t_is b_is (NotRiscv machine) f =
    f.1 (f.0 ∙ ap (λ (h : FileHeader). h.e_machine) w.header)
no_rule e F H P S R base end t l w magic wide s_is r_is t_is b_is (Flags value) f =
    let is : value ≡ e.flags = f.0 ∙ ap (λ (h : FileHeader). h.e_flags) w.header in
    let known : are_known_flags value ≡ true = ap are_known_flags is ∙ l.flags in
    false≢true (sym f.1 ∙ known)
no_rule e F H P S R base end t l w magic wide s_is r_is t_is b_is ProgramTable f =
    let count = length e.segments in
    let some : not (count == 0) ≡ true = ap not (ne_eqb count 0 (λ none. absurd (omega (arith, l.some)))) in
    let within : has_range F 52 (32 * count) ≡ true =
    le-leb _ _ (omega (arith, w.at_bytes, b_is, ap length w.behind, length-append (H ++ P) (S ++ R))) in
    let there : has_program_table F ≡ true =
    ap (λ (h : FileHeader). not (h.e_phnum == 0) && ((h.e_phentsize == 32) && has_range F h.e_phoff (32 * h.e_phnum))) w.header
    ∙ and_from _ _ some within in
    false≢true (sym f ∙ there)
no_rule e F H P S R base end t l w magic wide s_is r_is t_is b_is SectionTable f =
    let there : has_section_table F ≡ true =
    ap (λ (h : FileHeader). (h.e_shnum == 0) || ((h.e_shentsize == 40) && has_range F h.e_shoff (40 * h.e_shnum))) w.header
    ∙ ap (λ (u : Table). (u.count == 0) || ((u.entry_size == 40) && has_range F u.offset (40 * u.count))) t_is
    ∙ table_there F ((H ++ P) ++ S) end e.sections (w.last ∙ ap (λ x. ((H ++ P) ++ S) ++ x) r_is) w.at_sections in
    false≢true (sym f ∙ there)
no_rule e F H P S R base end t l w magic wide s_is r_is t_is b_is (Dynamic k) f =
    finds_none is_dynamic (headers_of base e.segments) k (none_dynamic e.segments base)
    (sym (ap (position is_dynamic) w.headers) ∙ f)
no_rule e F H P S R base end t l w magic wide s_is r_is t_is b_is (SegmentOutside k) f =
    finds_none (is_outside F) (headers_of base e.segments) k
    (none_outside F (H ++ P) R e.segments base (w.behind ∙ ap (λ x. (H ++ P) ++ (x ++ R)) s_is) w.at_bytes)
    (sym (ap (position (is_outside F)) w.headers) ∙ f)
no_rule e F H P S R base end t l w magic wide s_is r_is t_is b_is (SegmentSizes k) f =
    finds_none has_wrong_sizes (headers_of base e.segments) k (none_wrong e.segments base l.placed)
    (sym (ap (position has_wrong_sizes) w.headers) ∙ f)

pub readable : (e : Elf) → Limits e → HasWords e → IsReadable (file_of e)
readable e l w =
    let base = headers_end e.segments in
    let end = segments_end base e.segments in
    let t = table_of end e.sections in
    let H = file_header e.entry e.flags (length e.segments) t in
    let P = program_table base e.segments in
    let S = segment_bytes base e.segments in
    let R = section_part end e.sections in
    let made = written e l w in
    readable_by (file_of e) (no_rule e (file_of e) H P S R base end t l made
    (ap is_elf made.whole ∙ begins e.entry e.flags (length e.segments) t (P ++ (S ++ R)))
    (ap is_elf32 made.whole ∙ is_of_32 e.entry e.flags (length e.segments) t (P ++ (S ++ R))) refl
    refl refl refl)

pub reads_back : (e : Elf) → Limits e → HasWords e → elf_of (file_of e) ≡ e
unfolding header_made
reads_back e l w =
    let F = file_of e in
    let base = headers_end e.segments in
    let end = segments_end base e.segments in
    let t = table_of end e.sections in
    let H = file_header e.entry e.flags (length e.segments) t in
    let P = program_table base e.segments in
    let S = segment_bytes base e.segments in
    let R = section_part end e.sections in
    let made = written e l w in
    let segments : (elf_of F).segments ≡ e.segments =
    ap (λ hs. map (segment_in F) (filter is_load hs)) made.headers
    ∙ segments_read F (H ++ P) R e.segments base made.behind made.at_bytes in
    let sections : (elf_of F).sections ≡ e.sections =
    sections_are_by F ∙ ap (sections_by F) made.header
    ∙ sections_back F ((H ++ P) ++ S) end e.entry e.flags (length e.segments) e.sections made.last made.at_sections (room_left e l) w.sections l.plain in
    λ i. record {
      entry = ap (λ (h : FileHeader). h.e_entry) made.header i;
      flags = ap (λ (h : FileHeader). h.e_flags) made.header i;
      segments = segments i;
      sections = sections i;
    }
