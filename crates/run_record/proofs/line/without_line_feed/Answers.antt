use Rattle.std.proofs.Common.{◌∷◌, []}
use Rattle.std.proofs.lemmas.Bool.Decides.{Decides-eqb}
use Rattle.std.proofs.lemmas.Slice.Eq.{strip_suffix_is}
use Rattle.run_record.proofs.Digits.{found}
use Rattle.run_record.proofs.line.without_line_feed.Goals as goal

pub returns-clause-some : goal.returns-clause-some
returns-clause-some c = found _ _ c.strip_suffix.result (strip_suffix_is Decides-eqb c.args.text.now (10 ∷ []) c.strip_suffix.result c.strip_suffix.ensures.cases)
