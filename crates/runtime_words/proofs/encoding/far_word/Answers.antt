use Rattle.std.proofs.Common.{refl}
use Rattle.runtime_words.proofs.ReadingLemmas.{reads_far}
use Rattle.runtime_words.proofs.encoding.far_word.Goals as goal

pub returns : goal.returns
returns c = reads_far _ c.args.number c.bits.ensures.small (rw c.bits.ensures.value refl)
