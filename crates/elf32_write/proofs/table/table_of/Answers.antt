use Rattle.std.proofs.Common.{map, arith}
use Rattle.elf32_read.specs.Segments.{section_of}
use Rattle.elf32_write.proofs.LayoutLemmas.{names_length, sections_end_high}
use Rattle.elf32_write.proofs.table.table_of.Goals as goal

pub aligned-names-requires : goal.aligned-names-requires
aligned-names-requires c =
    omega (arith, sections_end_high c.args.end (map section_of c.args.sections.now), c.sections_end.ensures, c.requires.room)

pub overflow_add-names : goal.overflow_add-names
overflow_add-names c =
    omega (
      arith,
      sections_end_high c.args.end (map section_of c.args.sections.now),
      names_length (map section_of c.args.sections.now),
      c.sections_end.ensures,
      c.names_size.ensures,
      c.aligned-names.ensures.high,
      c.requires.room,
    )

pub aligned-requires : goal.aligned-requires
aligned-requires c =
    omega (
      arith,
      sections_end_high c.args.end (map section_of c.args.sections.now),
      names_length (map section_of c.args.sections.now),
      c.sections_end.ensures,
      c.names_size.ensures,
      c.aligned-names.ensures.high,
      c.requires.room,
    )
