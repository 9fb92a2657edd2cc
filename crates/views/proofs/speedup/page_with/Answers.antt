use Rattle.std.proofs.Common.{◌++◌, ◌∙◌}
use Rattle.speedup_page.specs.Page.{page_text}
use Rattle.views.proofs.speedup.page_with.Goals as goal

pub returns : goal.returns
returns c =
    c.in_ok-push_page.ensures
    ∙ (λ i. c.new-page.ensures.items i ++ page_text (c.parameters_of.ensures i) c.args.base c.args.rows.now)
