use Rattle.std.proofs.Common.{◌≡◌, drop, length, ap, sym, ◌∙◌}
use Rattle.std.proofs.lemmas.Bool.Decides.{Decides-eqb}
use Rattle.std.proofs.lemmas.Slice.Eq.{starts_is}
use Rattle.run_record.proofs.lines.TextLines.begin_with.Goals as goal

pub returns-clause-yes : goal.returns-clause-yes
returns-clause-yes c = λ rest e.
    let same : c.self.inside.bytes.now ≡ c.args.self.now.bytes = ap (λ l. l.bytes) c.self.view_is in
    (starts_is Decides-eqb c.self.inside.bytes.now c.args.word.now c.starts_with.result c.starts_with.ensures.value).1 rest (same ∙ e)

pub returns-clause-only : goal.returns-clause-only
returns-clause-only c = λ yes.
    let same : c.self.inside.bytes.now ≡ c.args.self.now.bytes = ap (λ l. l.bytes) c.self.view_is in
    (drop (length c.args.word.now) c.self.inside.bytes.now, sym same ∙ (starts_is Decides-eqb c.self.inside.bytes.now c.args.word.now c.starts_with.result c.starts_with.ensures.value).0 yes)
