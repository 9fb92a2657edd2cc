use Rattle.runtime_words.proofs.ReadingLemmas.{reads_miss_r}
use Rattle.runtime_words.proofs.encoding.miss_r_word.Goals as goal

pub returns : goal.returns
returns c =
    let h = c.custom_0_word.ensures in
    reads_miss_r c.custom_0_word.result c.logarithm.result c.args.rs1 c.args.imm c.args.width h.opcode h.funct3 h.rd h.rs1 h.imm c.logarithm.ensures.value
