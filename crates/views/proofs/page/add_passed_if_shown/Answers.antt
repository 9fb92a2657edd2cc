use Rattle.std.proofs.Common.{◌≡◌, ◌++◌, ◌∷◌, [], sym, ◌∙◌}
use Rattle.run_trace.specs.Passing.{passed_of}
use Rattle.block_view.specs.event_text.Shown.{shown}
use Rattle.page_view.specs.page_events.Shown.{kept}
use Rattle.views.proofs.Pages.{more_shown, no_more_shown}
use Rattle.views.proofs.Viewed.{on_ok_as}
use Rattle.views.proofs.page.add_passed_if_shown.Goals as goal

pub returns-then-not-is_passed_shown : goal.returns-then-not-is_passed_shown
returns-then-not-is_passed_shown c = λ seen before.
    before ∙ no_more_shown c.args.options.now seen (passed_of c.args.word.now)
    (sym c.is_passed_shown.ensures ∙ c.if-not-is_passed_shown.true)

pub returns : goal.returns
returns c = λ seen before.
    let o = c.args.options.now in
    let x = passed_of c.args.word.now in
    let now = c.add_passed.new.self in
    on_ok_as (now ≡ kept (shown o seen ++ x ∷ [])) (now ≡ kept (shown o (seen ++ x ∷ []))) c.add_passed.result
    (λ e. e ∙ more_shown o seen x (sym c.is_passed_shown.ensures ∙ c.if-not-is_passed_shown.false))
    (c.add_passed.ensures (shown o seen) before)
