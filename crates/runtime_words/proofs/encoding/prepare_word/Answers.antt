use Rattle.std.proofs.Common.{◌≡◌, ◌<◌, ◌+◌, ◌*◌, ◌%◌, ◌^◌, arith}
use Rattle.runtime_words.proofs.ReadingLemmas.{reads_prepare}
use Rattle.runtime_words.proofs.encoding.prepare_word.Goals as goal

pub returns : goal.returns
returns c =
    let is = c.from.ensures in
    let number = c.number.ensures.value in
    let small = c.number.ensures.small in
    let low : c.args.rs1 < 32 = omega (arith, number, small) in
    let word : c.from.result * 32768 % 4294967296 + 24587 ≡ c.args.rs1 * 2 ^ 15 + 0x600b = omega (arith, is, number, small) in
    reads_prepare _ c.args.rs1 low word
