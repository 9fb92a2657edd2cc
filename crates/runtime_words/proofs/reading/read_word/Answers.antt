use Rattle.std.proofs.Common.{refl, sym, ◌∙◌}
use Rattle.runtime_words.proofs.ReadingLemmas.{reads_custom_0, reads_custom_1, reads_other}
use Rattle.runtime_words.proofs.reading.read_word.Goals as goal

pub returns-then-opcode-eq-CUSTOM_0 : goal.returns-then-opcode-eq-CUSTOM_0
returns-then-opcode-eq-CUSTOM_0 c = c.read_custom_0.ensures ∙ sym (reads_custom_0 c.args.word _ (sym c.opcode-opcode.ensures ∙ c.if-opcode-eq-CUSTOM_0.true) refl)

pub returns-then-opcode-eq-CUSTOM_1 : goal.returns-then-opcode-eq-CUSTOM_1
returns-then-opcode-eq-CUSTOM_1 c = c.read_custom_1.ensures ∙ sym (reads_custom_1 c.args.word (sym c.opcode-opcode.ensures ∙ c.if-opcode-eq-CUSTOM_1.true))

pub returns-else-opcode-eq-CUSTOM_1 : goal.returns-else-opcode-eq-CUSTOM_1
returns-else-opcode-eq-CUSTOM_1 c = c.read_native.ensures ∙ sym (reads_other c.args.word (λ e. c.if-opcode-eq-CUSTOM_0.false (c.opcode-opcode.ensures ∙ e)) (λ e. c.if-opcode-eq-CUSTOM_1.false (c.opcode-opcode.ensures ∙ e)))
