use Rattle.std.proofs.Common.{refl, inl, inr}
use Rattle.std.specs.Prelude.{codes}
use Rattle.rv32_lines.proofs.statements.kind_then.Goals as goal

pub returns-in-Some-clause-some : goal.returns-in-Some-clause-some
returns-in-Some-clause-some c = (codes "r", inl (refl, refl), c.in-Some.ensures.some)

pub returns-in-Some-behind-clause-some : goal.returns-in-Some-behind-clause-some
returns-in-Some-behind-clause-some c = (codes "rx", inr (inl (refl, refl)), c.in-Some-behind.ensures.some)

pub returns-clause-some : goal.returns-clause-some
returns-clause-some c = (codes "rw", inr (inr (refl, refl)), c.in_ok-rest.ensures.some)
