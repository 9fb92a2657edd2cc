use Rattle.std.proofs.Common.{◌≡◌, ◌+◌, ◌∙◌, length, get_or, ap, sym, vec_len, arith}
use Rattle.elf32_write.specs.Layout.{placed}
use Rattle.elf32_write.proofs.LayoutLemmas.{no_segment, segment_step, segment_end_step, segment_room_step, segment_bytes-end, segments_done}
use Rattle.elf32_write.proofs.segments.push_segment_bytes.Goals as goal

pub loop-s-preserved : goal.loop-s-preserved
loop-s-preserved c =
    let ss = c.args.segments.now in
    let i = c.loop-s.s-index in
    let offset = c.placed-offset.result in
    let low = c.loop-s-test.true in
    let is : offset ≡ placed (vec_len c.loop-s.out) (get_or ss i no_segment).vaddr =
    c.placed-offset.ensures.value ∙ ap (λ n. placed n (get_or ss i no_segment).vaddr) c.len.ensures in
    let size : vec_len c.extend_from_slice.new.self ≡ offset + length (get_or ss i no_segment).bytes.now =
    omega (arith, c.in_ok-extend_from_slice.ensures.len, c.in_ok-pad.ensures.len) in
    record {
      written =
          segment_step ss i no_segment c.loop-s.out.items c.pad.new.out.items c.extend_from_slice.new.self.items
          (vec_len c.loop-s.out) offset (vec_len c.extend_from_slice.new.self) low is
          c.in_ok-pad.ensures.items c.in_ok-extend_from_slice.ensures.items size
          ∙ c.loop-s.invariant.written;
      len =
          segment_end_step ss i (vec_len c.loop-s.out) (vec_len c.extend_from_slice.new.self) low
          (size ∙ ap (λ n. n + length (get_or ss i no_segment).bytes.now) is)
          ∙ c.loop-s.invariant.len;
      room = omega (arith, segment_room_step ss i low, size, c.placed-offset.ensures.high, c.len.ensures, c.loop-s.invariant.room);
    }

pub returns-clause-items : goal.returns-clause-items
returns-clause-items c =
    sym (segment_bytes-end c.args.segments.now c.loop-s.s-index (vec_len c.loop-s.out) c.loop-s.out.items c.loop-s-test.false)
    ∙ c.loop-s.invariant.written

pub returns-clause-len : goal.returns-clause-len
returns-clause-len c =
    sym (segments_done c.args.segments.now c.loop-s.s-index (vec_len c.loop-s.out) c.loop-s-test.false)
    ∙ c.loop-s.invariant.len
