use Rattle.std.proofs.Common.{◌≡◌, ◌++◌, ap, ◌∙◌}
use Rattle.std.specs.Int.{bytes_low_first}
use Rattle.rv32_decode.specs.Words.{word_of}
use Rattle.rv32_decode.proofs.Rebuilt.{only_word}
use Rattle.workload.proofs.CodeBytes.{bytes_more}
use Rattle.workload.proofs.generated.code_bytes.Goals as goal

pub loop-instruction-preserved : goal.loop-instruction-preserved
loop-instruction-preserved c =
    let word : c.encode.result ≡ word_of c.instruction-item.result =
    only_word c.encode.result c.instruction-item.result c.encode.type_inv c.encode.ensures.again in
    bytes_more c.args.code.now c.loop-instruction.bytes.items _ c.loop-instruction.instruction-index
    c.instruction-item.result c.loop-instruction-test.true c.instruction-item.is
    c.loop-instruction.invariant
    (c.in_ok-extend_from_slice.ensures.items
    ∙ ap (λ b. c.loop-instruction.bytes.items ++ b)
    (c.to_le_bytes.ensures ∙ ap (bytes_low_first 0 4) word))
