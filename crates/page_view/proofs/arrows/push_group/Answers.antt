use Rattle.std.proofs.Common.{◌++◌, ap, ◌∙◌}
use Rattle.page_view.proofs.Chains.{ok_behind, ok_last}
use Rattle.page_view.proofs.arrows.push_group.Goals as goal

pub returns : goal.returns
returns c =
    let old = c.args.out.now.items in
    let one = c.extend_from_slice.new.self.items in
    let two = c.extend_from_slice-2.new.self.items in
    let r = c.extend_from_slice-3.result in
    let end = ok_last r two _ _ c.extend_from_slice-3.ensures.items in
    ok_behind r old one _ _ _ c.in_ok-extend_from_slice.ensures.items (ok_behind r one two _ _ _
    (c.in_ok-extend_from_slice-2.ensures.items ∙ ap (λ t. one ++ t) c.purpose_of.ensures) end)
