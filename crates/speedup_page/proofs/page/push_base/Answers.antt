use Rattle.std.proofs.Common.{◌++◌, ◌∙◌, ap, codes}
use Rattle.speedup_page.specs.Rows.{numbered}
use Rattle.speedup_page.proofs.Chains.{ok_behind, ok_last}
use Rattle.speedup_page.proofs.page.push_base.Goals as goal

pub returns-in_ok-push_numbered-in-Steps : goal.returns-in_ok-push_numbered-in-Steps
returns-in_ok-push_numbered-in-Steps c =
    let old = c.args.out.now.items in
    let one = c.push_numbered.new.out.items in
    let r = c.extend_from_slice-in-Steps.result in
    rw c.in-Steps.is (ok_behind r old one _ _ _ (c.in_ok-push_numbered-in-Steps.ensures
    ∙ ap (λ n. old ++ numbered (codes "<p>On one processor and one memory the original makes ") n) c.from.ensures)
    (ok_last r one _ _ c.extend_from_slice-in-Steps.ensures.items))
