use Rattle.std.proofs.Common.{◌≡◌, ◌<◌, ◌+◌, ◌*◌, ◌%◌, ◌^◌, Bool, true, false, cond, refl, ◌∙◌, arith}
use mir.Val.{bool_byte}
use Rattle.runtime_words.proofs.ReadingLemmas.{byte_small, reads_batch_of}
use Rattle.runtime_words.proofs.encoding.batch_word.Goals as goal

byte_is : (b : Bool) → bool_byte b ≡ cond b 1 0
byte_is true = refl
byte_is false = refl

pub returns : goal.returns
returns c =
    let rs2 = c.number.ensures in
    let rs1 = c.number-2.ensures in
    let from2 = c.from.ensures in
    let from1 = c.from-2.ensures in
    let byte : c.from-3.result ≡ cond c.args.stores 1 0 = c.from-3.ensures ∙ byte_is c.args.stores in
    let low1 : c.args.rs1 < 32 = omega (arith, rs1.value, rs1.small) in
    let low2 : c.args.rs2 < 32 = omega (arith, rs2.value, rs2.small) in
    let bit = byte_small c.args.stores in
    let small : c.from-3.result < 2 = omega (arith, byte, bit) in
    let word : c.from.result * 1048576 % 4294967296 + c.from-2.result * 32768 % 4294967296 + c.from-3.result * 128 % 4294967296 + 20491
    ≡ c.args.rs2 * 2 ^ 20 + c.args.rs1 * 2 ^ 15 + c.from-3.result * 2 ^ 7 + 0x500b = omega (arith, from1, from2, rs1.value, rs2.value, low1, low2, small) in
    record { again = reads_batch_of _ c.from-3.result c.args.rs1 c.args.rs2 c.args.stores byte low1 low2 word }
