use Rattle.std.proofs.Common.{◌++◌, ◌∙◌, ap, codes}
use Rattle.speedup_page.specs.Rows.{numbered}
use Rattle.speedup_page.proofs.Chains.{ok_behind, ok_last}
use Rattle.speedup_page.proofs.chart.push_mark_at.Goals as goal

pub returns : goal.returns
returns c =
    let old = c.args.out.now.items in
    let s1 = c.push_numbered.new.out.items in
    let s2 = c.push_numbered-2.new.out.items in
    let s3 = c.push_numbered-3.new.out.items in
    let s4 = c.push_numbered-4.new.out.items in
    let s5 = c.extend_from_slice.new.self.items in
    let s6 = c.push_hundredths.new.out.items in
    let r = c.extend_from_slice-2.result in
    ok_behind r old s1 _ _ _ c.in_ok-push_numbered.ensures
    (ok_behind r s1 s2 _ _ _ c.in_ok-push_numbered-2.ensures
    (ok_behind r s2 s3 _ _ _ c.in_ok-push_numbered-3.ensures (ok_behind r s3 s4 _ _ _
    (c.in_ok-push_numbered-4.ensures ∙ ap (λ n. s3 ++ numbered (codes "' y='") n) c.beside.ensures)
    (ok_behind r s4 s5 _ _ _ c.in_ok-extend_from_slice.ensures.items
    (ok_behind r s5 s6 _ _ _ c.in_ok-push_hundredths.ensures
    (ok_last r s6 _ _ c.extend_from_slice-2.ensures.items))))))
