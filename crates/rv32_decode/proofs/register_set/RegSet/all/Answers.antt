use Rattle.std.proofs.lemmas.Nat.Bits.{bit_at_ones}
use Rattle.rv32_decode.proofs.register_set.RegSet.all.Goals as goal

pub returns : goal.returns
returns c = λ r l. bit_at_ones 32 r l
