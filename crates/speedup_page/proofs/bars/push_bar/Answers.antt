use Rattle.std.proofs.Common.{◌++◌, ◌∙◌, ap, codes}
use Rattle.std.proofs.lemmas.Result.{on_ok_weaker}
use Rattle.speedup_page.specs.Bars.{pieces_text}
use Rattle.speedup_page.specs.Rows.{numbered}
use Rattle.speedup_page.proofs.Chains.{ok_behind}
use Rattle.speedup_page.proofs.bars.push_bar.Goals as goal

pub returns : goal.returns
returns c =
    let old = c.args.out.now.items in
    let one = c.push_numbered.new.out.items in
    let two = c.push_numbered-2.new.out.items in
    let three = c.extend_from_slice.new.self.items in
    let spent = c.args.row.now.spent in
    let r = c.push_pieces.result in
    ok_behind r old one _ _ _ c.in_ok-push_numbered.ensures (ok_behind r one two _ _ _
    (c.in_ok-push_numbered-2.ensures ∙ ap (λ n. one ++ numbered (codes "'>") n) c.from.ensures)
    (ok_behind r two three _ _ _ c.in_ok-extend_from_slice.ensures.items
    (on_ok_weaker r (λ e. e ∙ ap (λ n. three ++ pieces_text c.args.y n c.args.row.now.steps spent) c.whole.ensures.value)
    c.push_pieces.ensures)))
