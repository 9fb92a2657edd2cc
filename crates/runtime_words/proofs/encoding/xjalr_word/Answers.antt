use Rattle.std.proofs.Common.{◌∙◌}
use Rattle.runtime_words.proofs.ReadingLemmas.{reads_xjalr}
use Rattle.runtime_words.proofs.encoding.xjalr_word.Goals as goal

pub returns : goal.returns
returns c =
    let h = c.custom_0_word.ensures in
    reads_xjalr c.custom_0_word.result c.args.rd c.args.rs1 c.args.imm h.opcode h.funct3 (h.rd ∙ c.from.ensures ∙ c.number.ensures.value) h.rs1 h.imm
