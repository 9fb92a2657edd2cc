-- By what the lane lets in.
use Rattle.std.proofs.Common.{◌≡◌, ◌∙◌, Bool, true, false, not, refl, sym}
use Rattle.lane_machine.proofs.node.SmpNode.holds_other.Goals as goal

not_true : (b : Bool) → not b ≡ true → b ≡ false
not_true true e = absurd (cc)
not_true false e = refl

pub returns-then-other-lane-clause-holds : goal.returns-then-other-lane-clause-holds
returns-then-other-lane-clause-holds c = λ yes w i is.
    sym (c.lets.ensures.value w i is) ∙ not_true c.lets.result yes
