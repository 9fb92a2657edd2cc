use Rattle.std.proofs.Common.{length, map, ap, arith}
use Rattle.elf32_read.specs.Segments.{section_of}
use Rattle.elf32_write.proofs.LayoutLemmas.{names_done, names_length}
use Rattle.elf32_write.proofs.offsets.names_size.Goals as goal

pub returns : goal.returns
returns c =
    omega (
      arith,
      ap length (names_done c.args.sections.now c.loop-s.s-index c.loop-s-test.false),
      names_length (map section_of c.args.sections.now),
      c.loop-s.invariant.size,
    )
