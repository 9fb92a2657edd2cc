use Rattle.std.proofs.Common.{◌++◌, ◌∙◌, ap}
use Rattle.speedup_page.specs.Chart.{drawn_text}
use Rattle.speedup_page.proofs.Chains.{ok_behind, ok_last}
use Rattle.speedup_page.proofs.chart.push_chart.Goals as goal

pub returns : goal.returns
returns c =
    let old = c.args.out.now.items in
    let one = c.push_fixed.new.out.items in
    let two = c.push_drawn.new.out.items in
    let r = c.extend_from_slice.result in
    ok_behind r old one _ _ _ c.in_ok-push_fixed.ensures (ok_behind r one two _ _ _
    (c.in_ok-push_drawn.ensures
    ∙ ap (λ n. one ++ drawn_text c.args.most n c.args.base c.args.rows.now) c.room_of.ensures.value)
    (ok_last r two _ _ c.extend_from_slice.ensures.items))
