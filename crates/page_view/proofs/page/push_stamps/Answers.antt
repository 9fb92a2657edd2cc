use Rattle.page_view.proofs.Chains.{ok_behind}
use Rattle.page_view.proofs.page.push_stamps.Goals as goal

pub returns : goal.returns
returns c =
    let old = c.args.out.now.items in
    let one = c.extend_from_slice.new.self.items in
    let two = c.push_count.new.out.items in
    let three = c.extend_from_slice-2.new.self.items in
    let r = c.push_between.result in
    ok_behind r old one _ _ _ c.in_ok-extend_from_slice.ensures.items
    (ok_behind r one two _ _ _ c.in_ok-push_count.ensures
    (ok_behind r two three _ _ _ c.in_ok-extend_from_slice-2.ensures.items c.push_between.ensures))
