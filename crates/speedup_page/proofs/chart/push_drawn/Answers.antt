use Rattle.speedup_page.proofs.Chains.{ok_behind}
use Rattle.speedup_page.proofs.chart.push_drawn.Goals as goal

pub returns : goal.returns
returns c =
    let old = c.args.out.now.items in
    let s1 = c.push_grid.new.out.items in
    let s2 = c.push_ideal.new.out.items in
    let s3 = c.push_line.new.out.items in
    let r = c.push_rows.result in
    ok_behind r old s1 _ _ _ c.in_ok-push_grid.ensures
    (ok_behind r s1 s2 _ _ _ c.in_ok-push_ideal.ensures
    (ok_behind r s2 s3 _ _ _ c.in_ok-push_line.ensures c.push_rows.ensures))
