use Rattle.std.proofs.Common.{◌++◌, ◌∙◌, ap, codes}
use Rattle.speedup_page.specs.Rows.{numbered}
use Rattle.speedup_page.proofs.Chains.{ok_behind, ok_last}
use Rattle.speedup_page.proofs.page.push_name.Goals as goal

pub returns : goal.returns
returns c =
    let old = c.args.out.now.items in
    let one = c.push_numbered.new.out.items in
    let r = c.extend_from_slice.result in
    ok_behind r old one _ _ _ (c.in_ok-push_numbered.ensures
    ∙ ap (λ n. old ++ numbered (codes "Speed-up on up to ") n) (c.from.ensures ∙ c.number.ensures.value))
    (ok_last r one _ _ c.extend_from_slice.ensures.items)
