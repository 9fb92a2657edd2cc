use Rattle.std.proofs.Common.{◌∙◌}
use Rattle.byte_range.proofs.ByteLemmas.{load_byte, load_half, load_word}
use Rattle.byte_range.proofs.bytes.load_at.Goals as goal

pub returns-in-Byte-clause-value : goal.returns-in-Byte-clause-value
returns-in-Byte-clause-value c = rw c.in-Byte.is (load_byte c.args.bytes.now c.args.at _ c.from.ensures)

pub returns-in-Half-clause-value : goal.returns-in-Half-clause-value
returns-in-Half-clause-value c = rw c.in-Half.is (load_half c.args.bytes.now c.args.at _ (c.from-in-Half.ensures ∙ c.from_le_bytes.ensures))

pub returns-in-Word-clause-value : goal.returns-in-Word-clause-value
returns-in-Word-clause-value c = rw c.in-Word.is (load_word c.args.bytes.now c.args.at _ c.from_le_bytes-in-Word.ensures)
