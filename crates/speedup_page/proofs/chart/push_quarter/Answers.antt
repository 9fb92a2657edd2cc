use Rattle.speedup_page.proofs.Chains.{ok_behind, ok_last}
use Rattle.speedup_page.proofs.chart.push_quarter.Goals as goal

pub returns : goal.returns
returns c =
    let old = c.args.out.now.items in
    let s1 = c.push_numbered.new.out.items in
    let s2 = c.push_numbered-2.new.out.items in
    let s3 = c.extend_from_slice.new.self.items in
    let s4 = c.push_hundredths.new.out.items in
    let r = c.extend_from_slice-2.result in
    ok_behind r old s1 _ _ _ c.in_ok-push_numbered.ensures
    (ok_behind r s1 s2 _ _ _ c.in_ok-push_numbered-2.ensures
    (ok_behind r s2 s3 _ _ _ c.in_ok-extend_from_slice.ensures.items
    (ok_behind r s3 s4 _ _ _ c.in_ok-push_hundredths.ensures
    (ok_last r s4 _ _ c.extend_from_slice-2.ensures.items))))
