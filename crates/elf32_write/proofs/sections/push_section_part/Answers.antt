use Rattle.std.proofs.Common.{◌≡◌, ◌+◌, ◌-◌, ◌++◌, ◌∙◌, ◌<◌, length, map, ap, sym, vec_len, arith}
use Rattle.std.specs.List.{flat_map}
use Rattle.std.proofs.lemmas.Bool.{eqb-true, eqb-false}
use Rattle.elf32_read.specs.Segments.{section_of}
use Rattle.elf32_write.specs.Layout.{word, zeros, aligned, sections_end, names, names_offset, table_offset, section_table, names_words}
use Rattle.elf32_write.proofs.LayoutLemmas.{names_length, sections_end_high, part_written, part_empty}
use Rattle.elf32_write.proofs.sections.push_section_part.Goals as goal

pub returns-then-is_empty-clause-items : goal.returns-then-is_empty-clause-items
returns-then-is_empty-clause-items c =
    part_empty (vec_len c.args.out.now) c.args.sections.now c.args.out.now.items (eqb-true _ _ (sym c.if-is_empty.ensures))

pub overflow_cast-len : goal.overflow_cast-len
overflow_cast-len c =
    let high = sections_end_high (vec_len c.args.out.now) (map section_of c.args.sections.now) in
    omega (arith, high, c.len.ensures, c.in_ok-push_section_bytes.ensures.len, c.requires)

pub aligned-names-requires : goal.aligned-names-requires
aligned-names-requires c =
    let high = sections_end_high (vec_len c.args.out.now) (map section_of c.args.sections.now) in
    omega (arith, high, c.len.ensures, c.in_ok-push_section_bytes.ensures.len, c.requires)

pub overflow_cast-names_end : goal.overflow_cast-names_end
overflow_cast-names_end c =
    let high = sections_end_high (vec_len c.args.out.now) (map section_of c.args.sections.now) in
    omega (
      arith,
      high,
      names_length (map section_of c.args.sections.now),
      c.len.ensures,
      c.in_ok-push_section_bytes.ensures.len,
      c.aligned-names.ensures.high,
      c.in_ok-pad.ensures.len,
      c.in_ok-push_names.ensures.len,
      c.len-names_end.ensures,
      c.requires,
    )

pub aligned-table-requires : goal.aligned-table-requires
aligned-table-requires c =
    let high = sections_end_high (vec_len c.args.out.now) (map section_of c.args.sections.now) in
    omega (
      arith,
      high,
      names_length (map section_of c.args.sections.now),
      c.len.ensures,
      c.in_ok-push_section_bytes.ensures.len,
      c.aligned-names.ensures.high,
      c.in_ok-pad.ensures.len,
      c.in_ok-push_names.ensures.len,
      c.len-names_end.ensures,
      c.requires,
    )

pub push_names_header-requires : goal.push_names_header-requires
push_names_header-requires c =
    omega (
      arith,
      names_length (map section_of c.args.sections.now),
      c.in_ok-pad.ensures.len,
      c.in_ok-push_names.ensures.len,
      c.len-names_end.ensures,
    )

pub returns-clause-items : goal.returns-clause-items
returns-clause-items c =
    let ss = c.args.sections.now in
    let n = vec_len c.args.out.now in
    let all = map section_of ss in
    let none : length ss ≡ 0 → ⊥ = eqb-false (length ss) 0 (sym c.if-is_empty.ensures) in
    let some : 0 < length ss = omega (arith, none) in
    let end : vec_len c.push_section_bytes.new.out ≡ sections_end n all = c.in_ok-push_section_bytes.ensures.len in
    let at : c.aligned-names.result ≡ names_offset n all = c.aligned-names.ensures.value ∙ ap aligned (c.len.ensures ∙ end) in
    let names_end : vec_len c.push_names.new.out ≡ names_offset n all + length (names all) =
    omega (arith, at, c.in_ok-pad.ensures.len, c.in_ok-push_names.ensures.len) in
    let table : c.aligned-table.result ≡ table_offset n all = c.aligned-table.ensures.value ∙ ap aligned (c.len-names_end.ensures ∙ names_end) in
    let size : c.len-names_end.result - c.aligned-names.result ≡ length (names all) = omega (arith, at, names_end, c.len-names_end.ensures) in
    let forty : c.aligned-table.result + 40 - vec_len c.pad-2.new.out ≡ 40 = omega (arith, c.in_ok-pad-2.ensures.len) in
    part_written n ss c.args.out.now.items c.push_section_bytes.new.out.items c.pad.new.out.items c.push_names.new.out.items
    c.pad-2.new.out.items c.pad-3.new.out.items c.push_section_table.new.out.items c.push_names_header.new.out.items some
    c.in_ok-push_section_bytes.ensures.items
    (c.in_ok-pad.ensures.items ∙ ap (λ k. c.push_section_bytes.new.out.items ++ zeros (k - vec_len c.push_section_bytes.new.out)) at
    ∙ ap (λ k. c.push_section_bytes.new.out.items ++ zeros (names_offset n all - k)) end)
    c.in_ok-push_names.ensures.items
    (c.in_ok-pad-2.ensures.items ∙ ap (λ k. c.push_names.new.out.items ++ zeros (k - vec_len c.push_names.new.out)) table
    ∙ ap (λ k. c.push_names.new.out.items ++ zeros (table_offset n all - k)) names_end)
    (c.in_ok-pad-3.ensures.items ∙ ap (λ k. c.pad-2.new.out.items ++ zeros k) forty)
    (c.in_ok-push_section_table.ensures.items ∙ ap (λ k. c.pad-3.new.out.items ++ section_table k 1 all) c.len-end.ensures)
    (c.in_ok-push_names_header.ensures
    ∙ ap (λ k. c.push_section_table.new.out.items ++ flat_map word (names_words k (c.len-names_end.result - c.aligned-names.result))) at
    ∙ ap (λ k. c.push_section_table.new.out.items ++ flat_map word (names_words (names_offset n all) k)) size)
