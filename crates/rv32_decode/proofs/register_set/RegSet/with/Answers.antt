use Rattle.rv32_decode.proofs.Members.{with_member}
use Rattle.rv32_decode.proofs.register_set.RegSet.with.Goals as goal

pub returns : goal.returns
returns c = λ q l. rw (← c.self.view_is, ← c.number.ensures.value) (with_member c.self.inside.bits c.number.result q c.number.ensures.small)
