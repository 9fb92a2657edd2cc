use Rattle.std.proofs.Common.{sym, ap, ◌∙◌}
use Rattle.std.specs.Prelude.{is_some}
use Rattle.page_events.specs.Shown.{Kept}
use Rattle.page_events.proofs.Adds.{full_stays}
use Rattle.page_events.proofs.shown.Shown.is_full.Goals as goal

pub returns-clause-full : goal.returns-clause-full
returns-clause-full c = λ full seen more same.
    full_stays c.args.self.now seen more
    (sym (ap (λ (k : Kept). is_some k.behind) c.self.view_is) ∙ sym c.is_some.ensures ∙ full) same
