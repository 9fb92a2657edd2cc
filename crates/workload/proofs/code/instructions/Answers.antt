use Rattle.std.proofs.Common.{◌++◌, length, ap, ◌∙◌}
use Rattle.workload.specs.Generated.{again, instructions}
use Rattle.workload.proofs.Groups.{joined}
use Rattle.workload.proofs.code.instructions.Goals as goal

pub returns : goal.returns
unfolding instructions
returns c =
    let made = c.in_ok-groups.ensures.items in
    let count = c.len.ensures ∙ c.in_ok-groups.groups.ok.0 ∙ ap length made in
    let appended = c.deref.ensures.value ∙ made in
    let back = c.again.ensures ∙ ap again count in
    joined _ _ _ _ _ _ _ _ _ _ _ _ _ _ _ c.new-code.ensures.items
    c.in_ok-extend_from_slice.ensures.items c.in_ok-extend_from_slice-2.ensures.items
    c.in_ok-extend_from_slice-3.ensures.items c.in_ok-extend_from_slice-4.ensures.items
    c.in_ok-extend_from_slice-5.ensures.items c.in_ok-extend_from_slice-6.ensures.items
    c.in_ok-extend_from_slice-7.ensures.items
    ∙ (λ i. c.opening.ensures i ++ (appended i ++ (back i ++ (c.meeting.ensures i
    ++ (c.summing.ensures i ++ (c.writing.ensures i ++ c.leaving.ensures i))))))
