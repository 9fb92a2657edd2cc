use Rattle.std.proofs.Common.{◌++◌, ◌∙◌, ap, codes}
use Rattle.speedup_page.specs.Rows.{numbered}
use Rattle.speedup_page.proofs.Chains.{ok_behind, ok_last}
use Rattle.speedup_page.proofs.bars.push_piece.Goals as goal

pub returns : goal.returns
returns c =
    let old = c.args.out.now.items in
    let one = c.extend_from_slice.new.self.items in
    let two = c.extend_from_slice-2.new.self.items in
    let three = c.push_numbered.new.out.items in
    let four = c.push_numbered-2.new.out.items in
    let five = c.push_numbered-3.new.out.items in
    let r = c.extend_from_slice-3.result in
    ok_behind r old one _ _ _ c.in_ok-extend_from_slice.ensures.items
    (ok_behind r one two _ _ _ c.in_ok-extend_from_slice-2.ensures.items
    (ok_behind r two three _ _ _ c.in_ok-push_numbered.ensures (ok_behind r three four _ _ _
    (c.in_ok-push_numbered-2.ensures ∙ ap (λ n. three ++ numbered (codes "' width='") n) c.saturating_sub.ensures)
    (ok_behind r four five _ _ _ c.in_ok-push_numbered-3.ensures
    (ok_last r five _ _ c.extend_from_slice-3.ensures.items)))))
