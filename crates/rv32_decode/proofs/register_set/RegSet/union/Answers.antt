use Rattle.rv32_decode.proofs.Members.{union_member}
use Rattle.rv32_decode.proofs.register_set.RegSet.union.Goals as goal

pub returns : goal.returns
returns c = λ q l. rw (← c.self.view_is, ← c.other.view_is) (union_member c.self.inside.bits c.other.inside.bits q)
