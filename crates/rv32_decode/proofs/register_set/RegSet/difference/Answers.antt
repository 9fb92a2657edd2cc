use Rattle.std.proofs.Common.{arith}
use Rattle.rv32_decode.proofs.Members.{difference_member}
use Rattle.rv32_decode.proofs.register_set.RegSet.difference.Goals as goal

pub returns : goal.returns
returns c = λ q l. rw (← c.self.view_is, ← c.other.view_is) (difference_member c.self.inside.bits c.other.inside.bits q (omega arith) l)
