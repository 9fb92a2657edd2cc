use Rattle.std.proofs.Common.{◌++◌, ◌∙◌, ap, codes}
use Rattle.std.proofs.lemmas.Result.{on_ok_weaker}
use Rattle.speedup_page.specs.Rows.{numbered}
use Rattle.speedup_page.proofs.Chains.{ok_behind}
use Rattle.speedup_page.proofs.page.push_limits.Goals as goal

pub returns : goal.returns
returns c =
    let old = c.args.out.now.items in
    let one = c.push_numbered.new.out.items in
    let r = c.push_numbered-2.result in
    ok_behind r old one _ _ _
    (c.in_ok-push_numbered.ensures ∙ ap (λ n. old ++ numbered (codes "shasta_view speedup IN OUT --nodes ") n)
    (c.from-nodes.ensures ∙ c.number.ensures.value))
    (on_ok_weaker r (λ e. e ∙ ap (λ n. one ++ numbered (codes " --budget ") n)
    (c.from.ensures ∙ c.number-2.ensures.value)) c.push_numbered-2.ensures)
