use Rattle.std.proofs.Common.{length, map, ap, arith}
use Rattle.elf32_read.specs.Segments.{section_of}
use Rattle.elf32_write.proofs.LayoutLemmas.{names_done, names_length, names_written}
use Rattle.elf32_write.proofs.sections.push_names.Goals as goal

pub returns-clause-items : goal.returns-clause-items
returns-clause-items c =
    names_written c.args.out.now.items c.push.new.self.items c.loop-s.out.items c.extend_from_slice-2.new.self.items
    c.push-2.new.self.items _ (map section_of c.args.sections.now) c.in_ok-push.ensures.items
    (names_done c.args.sections.now c.loop-s.s-index c.loop-s-test.false) c.loop-s.invariant.written
    c.in_ok-extend_from_slice-2.ensures.items c.in_ok-push-3.ensures.items

pub returns-clause-len : goal.returns-clause-len
returns-clause-len c =
    omega (
      arith,
      ap length (names_done c.args.sections.now c.loop-s.s-index c.loop-s-test.false),
      names_length (map section_of c.args.sections.now),
      c.loop-s.invariant.len,
      c.in_ok-push.ensures.len,
      c.in_ok-extend_from_slice-2.ensures.len,
      c.in_ok-push-3.ensures.len,
    )
