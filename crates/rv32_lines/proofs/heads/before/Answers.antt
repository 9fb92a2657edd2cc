use Rattle.std.proofs.lemmas.Bool.Decides.{Decides-eqb}
use Rattle.std.proofs.lemmas.Slice.Eq.{strip_suffix_is}
use Rattle.rv32_lines.proofs.Ends.{found, back_only}
use Rattle.rv32_lines.proofs.heads.before.Goals as goal

pub returns-clause-some : goal.returns-clause-some
returns-clause-some c =
    found _ _ c.strip_suffix.result
    (strip_suffix_is Decides-eqb c.args.name.now c.args.suffix.now c.strip_suffix.result
    c.strip_suffix.ensures.cases)

pub returns-clause-only : goal.returns-clause-only
returns-clause-only c =
    back_only c.args.name.now c.args.suffix.now c.strip_suffix.result
    (strip_suffix_is Decides-eqb c.args.name.now c.args.suffix.now c.strip_suffix.result
    c.strip_suffix.ensures.cases)
