use Rattle.std.proofs.Common.{◌≡◌, ◌++◌, ◌∷◌, [], sym, ◌∙◌}
use Rattle.run_trace.specs.Given.{traced_of}
use Rattle.block_view.specs.event_text.Shown.{shown}
use Rattle.page_view.specs.page_events.Shown.{kept}
use Rattle.views.proofs.Pages.{more_shown, no_more_shown}
use Rattle.views.proofs.Viewed.{on_ok_as}
use Rattle.views.proofs.page.add_if_shown.Goals as goal

pub returns-then-not-is_shown : goal.returns-then-not-is_shown
returns-then-not-is_shown c = λ seen before.
    before ∙ no_more_shown c.args.options.now seen (traced_of c.args.event) (sym c.is_shown.ensures ∙ c.if-not-is_shown.true)

pub returns : goal.returns
returns c = λ seen before.
    let o = c.args.options.now in
    let x = traced_of c.args.event in
    let now = c.add.new.self in
    on_ok_as (now ≡ kept (shown o seen ++ x ∷ [])) (now ≡ kept (shown o (seen ++ x ∷ []))) c.add.result
    (λ e. e ∙ more_shown o seen x (sym c.is_shown.ensures ∙ c.if-not-is_shown.false)) (c.add.ensures (shown o seen) before)
