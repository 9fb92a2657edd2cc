use Rattle.std.proofs.Common.{◌≡◌, None, Some}
use Rattle.block_layout.proofs.text.range_of.Goals as goal

pub returns-in_err-hexadecimal-clause-only : goal.returns-in_err-hexadecimal-clause-only
returns-in_err-hexadecimal-clause-only c = λ r h. let e : None ≡ Some r.start = c.in_err-hexadecimal.ensures.only r.start h.start in absurd (cc)

pub returns-in_err-hexadecimal-2-clause-only : goal.returns-in_err-hexadecimal-2-clause-only
returns-in_err-hexadecimal-2-clause-only c = λ r h. let e : None ≡ Some r.length = c.in_err-hexadecimal-2.ensures.only r.length h.length in absurd (cc)
