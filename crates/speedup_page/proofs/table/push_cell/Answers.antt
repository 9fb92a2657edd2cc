use Rattle.std.proofs.Common.{◌++◌, ◌∙◌, ap, codes}
use Rattle.speedup_page.specs.Rows.{numbered}
use Rattle.speedup_page.proofs.Chains.{ok_behind, ok_last}
use Rattle.speedup_page.proofs.table.push_cell.Goals as goal

pub returns : goal.returns
returns c =
    let old = c.args.out.now.items in
    let one = c.push_numbered.new.out.items in
    let two = c.push_numbered-2.new.out.items in
    let r = c.extend_from_slice.result in
    ok_behind r old one _ _ _ c.in_ok-push_numbered.ensures (ok_behind r one two _ _ _
    (c.in_ok-push_numbered-2.ensures ∙ ap (λ n. one ++ numbered (codes "<small>") n) c.share_of.ensures)
    (ok_last r two _ _ c.extend_from_slice.ensures.items))
