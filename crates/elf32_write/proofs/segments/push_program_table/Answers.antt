use Rattle.std.proofs.Common.{◌∙◌, sym, arith}
use Rattle.elf32_read.specs.Segments.{segment_of}
use Rattle.elf32_write.specs.Writable.{has_segment_words}
use Rattle.elf32_write.proofs.LayoutLemmas.{no_segment, program_step, segment_room_step, words_step, words_whole, program_table-end}
use Rattle.elf32_write.proofs.segments.push_program_table.Goals as goal

pub loop-s-preserved : goal.loop-s-preserved
loop-s-preserved c =
    let ss = c.args.segments.now in
    let i = c.loop-s.s-index in
    let low = c.loop-s-test.true in
    record {
      written =
          program_step ss i no_segment c.loop-s.out.items c.push_program_header.new.out.items c.loop-s.end
          c.placed-offset.result low c.placed-offset.ensures.value c.in_ok-push_program_header.ensures.items
          ∙ c.loop-s.invariant.written;
      len = omega (arith, c.in_ok-push_program_header.ensures.len, c.loop-s.invariant.len);
      words = words_step has_segment_words segment_of ss i no_segment low c.loop-s.invariant.words c.push_program_header.ensures.words;
      room = omega (arith, segment_room_step ss i low, c.placed-offset.ensures.high, c.loop-s.invariant.room);
    }

pub returns-clause-items : goal.returns-clause-items
returns-clause-items c =
    sym (program_table-end c.args.segments.now c.loop-s.s-index c.loop-s.end c.loop-s.out.items c.loop-s-test.false)
    ∙ c.loop-s.invariant.written

pub returns-clause-words : goal.returns-clause-words
returns-clause-words c =
    words_whole has_segment_words segment_of c.args.segments.now c.loop-s.s-index c.loop-s-test.false c.loop-s.invariant.words
