use Rattle.std.proofs.Common.{arith, length-append}
use Rattle.jump_map.proofs.MicroLemmas.{strides_more}
use Rattle.jump_map.proofs.sequences.find_strides.Goals as goal

pub loop-k-preserved : goal.loop-k-preserved
loop-k-preserved c =
    let h = c.loop-k.invariant in
    let items = c.in_ok-push.ensures.items in
    record {
      count = simp (items, length-append) (omega (arith, h.count));
      each = strides_more c.args.micros.now c.loop-k.strides.items c.push.new.self.items c.stride_at.result c.loop-k.k items
          h.count h.each c.stride_at.ensures;
    }
