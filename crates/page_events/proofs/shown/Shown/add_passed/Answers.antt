use Rattle.std.proofs.Common.{◌≡◌, [], ◌∷◌, ◌++◌, subst}
use Rattle.std.specs.Prelude.{OnOk}
use Rattle.page_events.specs.Shown.{kept}
use Rattle.page_events.proofs.shown.Shown.add_passed.Goals as goal

pub returns : goal.returns
returns c = λ seen same.
    subst (λ x. OnOk c.add.result (c.add.new.self ≡ kept (seen ++ x ∷ []))) c.event_of.ensures (c.add.ensures seen same)
