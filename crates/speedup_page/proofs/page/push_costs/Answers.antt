use Rattle.std.proofs.Common.{◌++◌, ◌∙◌, ap, codes}
use Rattle.std.proofs.lemmas.Result.{on_ok_weaker}
use Rattle.speedup_page.specs.Rows.{numbered}
use Rattle.speedup_page.proofs.Chains.{ok_behind}
use Rattle.speedup_page.proofs.page.push_costs.Goals as goal

pub returns : goal.returns
returns c =
    let old = c.args.out.now.items in
    let one = c.push_numbered.new.out.items in
    let two = c.push_numbered-2.new.out.items in
    let r = c.push_numbered-3.result in
    ok_behind r old one _ _ _
    (c.in_ok-push_numbered.ensures ∙ ap (λ n. old ++ numbered (codes " --latency ") n) c.from.ensures)
    (ok_behind r one two _ _ _
    (c.in_ok-push_numbered-2.ensures ∙ ap (λ n. one ++ numbered (codes " --line ") n) c.from-2.ensures)
    (on_ok_weaker r (λ e. e ∙ ap (λ n. two ++ numbered (codes " --handling ") n) c.from-3.ensures)
    c.push_numbered-3.ensures))
