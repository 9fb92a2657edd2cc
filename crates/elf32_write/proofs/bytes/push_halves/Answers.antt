use Rattle.std.proofs.Common.{◌≡◌, length, ap, arith}
use Rattle.elf32_write.proofs.LayoutLemmas.{halves_more}
use Rattle.elf32_write.proofs.bytes.push_halves.Goals as goal

pub loop-half-preserved : goal.loop-half-preserved
loop-half-preserved c =
    let size : length c.to_le_bytes.result ≡ 2 = ap length c.to_le_bytes.ensures in
    record {
      written =
          halves_more _ _ _ _ _ c.loop-half-test.true c.loop-half.invariant.written c.in_ok-extend_from_slice.ensures.items c.to_le_bytes.ensures;
      len = omega (arith, size, c.in_ok-extend_from_slice.ensures.len, c.loop-half.invariant.len);
    }
