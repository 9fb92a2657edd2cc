use Rattle.std.proofs.Common.{◌∙◌, sym, arith}
use Rattle.elf32_read.specs.Segments.{section_of}
use Rattle.elf32_write.specs.Writable.{has_section_words}
use Rattle.elf32_write.proofs.LayoutLemmas.{no_section, table_step, section_room_step, words_step, words_whole, section_table-end}
use Rattle.elf32_write.proofs.sections.push_section_table.Goals as goal

pub loop-s-preserved : goal.loop-s-preserved
loop-s-preserved c =
    let ss = c.args.sections.now in
    let i = c.loop-s.s-index in
    let low = c.loop-s-test.true in
    record {
      written =
          table_step ss i no_section c.loop-s.out.items c.push_section_header.new.out.items c.loop-s.end c.loop-s.name
          c.aligned-offset.result low c.aligned-offset.ensures.value c.in_ok-push_section_header.ensures.items
          ∙ c.loop-s.invariant.written;
      words = words_step has_section_words section_of ss i no_section low c.loop-s.invariant.words c.push_section_header.ensures.words;
      room = omega (arith, section_room_step ss i low, c.aligned-offset.ensures.high, c.loop-s.invariant.room);
      names = omega (arith, section_room_step ss i low, c.loop-s.invariant.names);
    }

pub returns-clause-items : goal.returns-clause-items
returns-clause-items c =
    sym (section_table-end c.args.sections.now c.loop-s.s-index c.loop-s.end c.loop-s.name c.loop-s.out.items c.loop-s-test.false)
    ∙ c.loop-s.invariant.written

pub returns-clause-words : goal.returns-clause-words
returns-clause-words c =
    words_whole has_section_words section_of c.args.sections.now c.loop-s.s-index c.loop-s-test.false c.loop-s.invariant.words
