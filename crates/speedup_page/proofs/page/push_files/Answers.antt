use Rattle.speedup_page.proofs.Chains.{ok_behind}
use Rattle.speedup_page.proofs.page.push_files.Goals as goal

pub returns : goal.returns
returns c =
    let old = c.args.out.now.items in
    let s1 = c.push_if.new.out.items in
    let s2 = c.push_if-2.new.out.items in
    let r = c.push_if-3.result in
    ok_behind r old s1 _ _ _ c.in_ok-push_if.ensures
    (ok_behind r s1 s2 _ _ _ c.in_ok-push_if-2.ensures c.push_if-3.ensures)
