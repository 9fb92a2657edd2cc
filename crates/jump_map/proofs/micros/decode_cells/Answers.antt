use Rattle.std.proofs.Common.{arith, length-append}
use Rattle.jump_map.proofs.MicroLemmas.{micros_more}
use Rattle.jump_map.proofs.micros.decode_cells.Goals as goal

pub loop-k-preserved : goal.loop-k-preserved
loop-k-preserved c =
    let h = c.loop-k.invariant in
    let items = c.in_ok-push.ensures.items in
    record {
      count = simp (items, length-append) (omega (arith, h.count));
      are = micros_more c.args.cells.now c.loop-k.micros.items c.push.new.self.items c.micro_at.result c.loop-k.k items
          h.count h.are c.micro_at.ensures.value;
    }
