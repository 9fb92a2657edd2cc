use Rattle.std.proofs.Common.{◌++◌, ◌∙◌, ap}
use Rattle.std.proofs.lemmas.Result.{on_ok_weaker}
use Rattle.speedup_page.specs.Page.{body_text}
use Rattle.speedup_page.proofs.Chains.{ok_behind}
use Rattle.speedup_page.proofs.page.push_page.Goals as goal

pub returns : goal.returns
returns c =
    let old = c.args.out.now.items in
    let one = c.push_start.new.out.items in
    let two = c.push_given.new.out.items in
    let r = c.push_body.result in
    let p = c.args.page.now in
    ok_behind r old one _ _ _ c.in_ok-push_start.ensures
    (ok_behind r one two _ _ _ c.in_ok-push_given.ensures
    (on_ok_weaker r (λ e. e ∙ ap (λ s. two ++ body_text p.parameters.nodes s p.rows.now) c.steps.ensures)
    c.push_body.ensures))
