use Rattle.std.proofs.Common.{◌≡◌, ◌+◌, ◌≤◌, ◌∙◌, true, length, map, ap, sym, subst, vec_len, arith}
use Rattle.std.proofs.lemmas.List.{length-map}
use Rattle.std.specs.List.{list_all}
use Rattle.elf32_read.specs.Reading.{elf_of}
use Rattle.elf32_read.specs.Refusals.{IsReadable}
use Rattle.elf32_read.specs.Segments.{segment_of, section_of}
use Rattle.elf32_write.specs.Layout.{headers_end, segments_end, file_of}
use Rattle.elf32_write.specs.Room.{segments_room, sections_room, room_limit}
use Rattle.elf32_write.specs.Writable.{HasWords, has_segment_words, has_section_words}
use Rattle.elf32_write.proofs.Law.{readable, reads_back}
use Rattle.elf32_write.proofs.LayoutLemmas.{file_written}
use Rattle.elf32_write.proofs.RoomLemmas.{limits, room_left}
use Rattle.elf32_write.proofs.push_file.Goals as goal

pub segments_end-end-requires-clause-room : goal.segments_end-end-requires-clause-room
segments_end-end-requires-clause-room c =
    let l = limits c.args.e.now c.requires.writable in
    rw c.segments-segments.ensures.value (omega (arith, l.room))

pub table_of-table-requires-clause-room : goal.table_of-table-requires-clause-room
table_of-table-requires-clause-room c =
    let l = limits c.args.e.now c.requires.writable in
    rw (c.segments_end-end.ensures, c.segments-segments.ensures.value, c.sections-sections.ensures.value) (room_left c.args.e.now l)

pub push_program_table-requires-clause-room : goal.push_program_table-requires-clause-room
push_program_table-requires-clause-room c =
    let l = limits c.args.e.now c.requires.writable in
    rw c.segments-segments.ensures.value (omega (arith, l.room))

pub push_segment_bytes-requires : goal.push_segment_bytes-requires
push_segment_bytes-requires c =
    let l = limits c.args.e.now c.requires.writable in
    let ss = map segment_of c.segments-segments.result.now in
    let room : headers_end ss + segments_room ss ≤ room_limit =
    rw c.segments-segments.ensures.value (omega (arith, l.room)) in
    omega (
      arith,
      room,
      length-map c.segments-segments.result.now segment_of,
      ap length c.requires.empty,
      c.args.out.now.ok.0,
      c.in_ok-push_file_header.ensures.len,
      c.in_ok-push_program_table.ensures.len,
    )

pub push_section_part-requires : goal.push_section_part-requires
push_section_part-requires c =
    let l = limits c.args.e.now c.requires.writable in
    let ss = map segment_of c.segments-segments.result.now in
    let ts = map section_of c.sections-sections.result.now in
    let room : segments_end (headers_end ss) ss + sections_room ts ≤ room_limit =
    rw (c.segments-segments.ensures.value, c.sections-sections.ensures.value) (room_left c.args.e.now l) in
    let start : vec_len c.push_program_table.new.out ≡ headers_end ss =
    omega (
      arith,
      length-map c.segments-segments.result.now segment_of,
      ap length c.requires.empty,
      c.args.out.now.ok.0,
      c.in_ok-push_file_header.ensures.len,
      c.in_ok-push_program_table.ensures.len,
    ) in
    let end : vec_len c.push_segment_bytes.new.out ≡ segments_end (headers_end ss) ss =
    c.in_ok-push_segment_bytes.ensures.len ∙ ap (λ n. segments_end n ss) start in
    omega (arith, room, end)

written_file : (c : goal.In_ok-push_section_part) → c.push_section_part.new.out.items ≡ file_of c.args.e.now
written_file c =
    let ss = map segment_of c.segments-segments.result.now in
    let ts = map section_of c.sections-sections.result.now in
    let count : length c.segments-segments.result.now ≡ length ss = sym (length-map c.segments-segments.result.now segment_of) in
    let start : vec_len c.push_program_table.new.out ≡ headers_end ss =
    omega (
      arith,
      count,
      ap length c.requires.empty,
      c.args.out.now.ok.0,
      c.in_ok-push_file_header.ensures.len,
      c.in_ok-push_program_table.ensures.len,
    ) in
    let end : vec_len c.push_segment_bytes.new.out ≡ segments_end (headers_end ss) ss =
    c.in_ok-push_segment_bytes.ensures.len ∙ ap (λ n. segments_end n ss) start in
    file_written c.args.e.now ss ts c.args.out.now.items c.push_file_header.new.out.items c.push_program_table.new.out.items
    c.push_segment_bytes.new.out.items c.push_section_part.new.out.items c.table_of-table.result c.entry.result c.flags.result
    (length c.segments-segments.result.now) c.segments_end-end.result (vec_len c.push_program_table.new.out) (vec_len c.push_segment_bytes.new.out)
    c.segments-segments.ensures.value c.sections-sections.ensures.value c.entry.ensures c.flags.ensures.value count
    c.segments_end-end.ensures c.table_of-table.ensures start end c.requires.empty c.in_ok-push_file_header.ensures.items
    c.in_ok-push_program_table.ensures.items c.in_ok-push_segment_bytes.ensures.items c.in_ok-push_section_part.ensures.items

words_are : (c : goal.In_ok-push_section_part) → HasWords c.args.e.now
words_are c = record {
  entry = omega (arith, c.entry.ensures);
  segments = subst (λ ss. list_all has_segment_words ss ≡ true) c.segments-segments.ensures.value c.in_ok-push_program_table.ensures.words;
  sections = subst (λ ts. list_all has_section_words ts ≡ true) c.sections-sections.ensures.value c.in_ok-push_section_part.ensures.words;
}

pub returns-clause-ok : goal.returns-clause-ok
returns-clause-ok c = written_file c

pub returns-clause-readable : goal.returns-clause-readable
returns-clause-readable c =
    subst IsReadable (sym (written_file c)) (readable c.args.e.now (limits c.args.e.now c.requires.writable) (words_are c))

pub returns-clause-reads_back : goal.returns-clause-reads_back
returns-clause-reads_back c =
    ap elf_of (written_file c) ∙ reads_back c.args.e.now (limits c.args.e.now c.requires.writable) (words_are c)
