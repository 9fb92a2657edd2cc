use Rattle.speedup_page.proofs.Chains.{ok_behind, ok_last}
use Rattle.speedup_page.proofs.chart.push_line.Goals as goal

pub returns : goal.returns
returns c =
    let old = c.args.out.now.items in
    let s1 = c.extend_from_slice.new.self.items in
    let s2 = c.push_corners.new.out.items in
    let r = c.extend_from_slice-2.result in
    ok_behind r old s1 _ _ _ c.in_ok-extend_from_slice.ensures.items
    (ok_behind r s1 s2 _ _ _ c.in_ok-push_corners.ensures
    (ok_last r s2 _ _ c.extend_from_slice-2.ensures.items))
