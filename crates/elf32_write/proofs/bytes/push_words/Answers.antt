use Rattle.std.proofs.Common.{◌≡◌, length, ap, arith}
use Rattle.elf32_write.proofs.LayoutLemmas.{words_more}
use Rattle.elf32_write.proofs.bytes.push_words.Goals as goal

pub loop-word-preserved : goal.loop-word-preserved
loop-word-preserved c =
    let size : length c.to_le_bytes.result ≡ 4 = ap length c.to_le_bytes.ensures in
    record {
      written =
          words_more _ _ _ _ _ c.loop-word-test.true c.loop-word.invariant.written c.in_ok-extend_from_slice.ensures.items c.to_le_bytes.ensures;
      len = omega (arith, size, c.in_ok-extend_from_slice.ensures.len, c.loop-word.invariant.len);
    }
