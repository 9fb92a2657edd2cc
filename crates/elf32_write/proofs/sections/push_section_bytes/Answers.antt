use Rattle.std.proofs.Common.{◌≡◌, ◌+◌, ◌∙◌, length, get_or, ap, sym, vec_len, arith}
use Rattle.elf32_write.specs.Layout.{aligned}
use Rattle.elf32_write.proofs.LayoutLemmas.{no_section, section_step, section_end_step, section_room_step, section_bytes-end, sections_done}
use Rattle.elf32_write.proofs.sections.push_section_bytes.Goals as goal

pub loop-s-preserved : goal.loop-s-preserved
loop-s-preserved c =
    let ss = c.args.sections.now in
    let i = c.loop-s.s-index in
    let offset = c.aligned-offset.result in
    let low = c.loop-s-test.true in
    let is : offset ≡ aligned (vec_len c.loop-s.out) =
    c.aligned-offset.ensures.value ∙ ap aligned c.len.ensures in
    let size : vec_len c.extend_from_slice.new.self ≡ offset + length (get_or ss i no_section).bytes.now =
    omega (arith, c.in_ok-extend_from_slice.ensures.len, c.in_ok-pad.ensures.len) in
    record {
      written =
          section_step ss i no_section c.loop-s.out.items c.pad.new.out.items c.extend_from_slice.new.self.items
          (vec_len c.loop-s.out) offset (vec_len c.extend_from_slice.new.self) low is
          c.in_ok-pad.ensures.items c.in_ok-extend_from_slice.ensures.items size
          ∙ c.loop-s.invariant.written;
      len =
          section_end_step ss i (vec_len c.loop-s.out) (vec_len c.extend_from_slice.new.self) low
          (size ∙ ap (λ n. n + length (get_or ss i no_section).bytes.now) is)
          ∙ c.loop-s.invariant.len;
      room = omega (arith, section_room_step ss i low, size, c.aligned-offset.ensures.high, c.len.ensures, c.loop-s.invariant.room);
    }

pub returns-clause-items : goal.returns-clause-items
returns-clause-items c =
    sym (section_bytes-end c.args.sections.now c.loop-s.s-index (vec_len c.loop-s.out) c.loop-s.out.items c.loop-s-test.false)
    ∙ c.loop-s.invariant.written

pub returns-clause-len : goal.returns-clause-len
returns-clause-len c =
    sym (sections_done c.args.sections.now c.loop-s.s-index (vec_len c.loop-s.out) c.loop-s-test.false)
    ∙ c.loop-s.invariant.len
