use Rattle.std.proofs.Common.{◌∙◌, ◌+◌, Some, sym, ap, subst}
use Rattle.std.proofs.lemmas.Bool.{false≢true}
use Rattle.rv32_decode.specs.Registers.{IsMember}
use Rattle.check_plan.proofs.MemberLemmas.{IsSearch, search_here, search_pass, search_skip, search_begin}
use Rattle.check_plan.proofs.scratches.member.Goals as goal
use Rattle.check_plan.proofs.scratches.member.Goals.{then-has+else-left-eq0, else-has}

pub loop-number-init : goal.loop-number-init
loop-number-init c = search_begin c.args.set c.args.k

pub returns-then-left-eq0-clause-ok : goal.returns-then-left-eq0-clause-ok
returns-then-left-eq0-clause-ok c =
    let m : IsMember c.args.set c.loop-number.number = subst (IsMember c.args.set) c.new-register.ensures (c.has.ensures.0 c.if-has.true) in
    search_here c.args.set c.args.k c.loop-number.number c.loop-number.left c.loop-number-test.true m c.if-left-eq0.true c.loop-number.invariant
    ∙ ap (λ x. Some x) (sym c.new-register.ensures)

pub loop-number-preserved : goal.loop-number-preserved
loop-number-preserved c =
    let set = c.args.set in
    let number = c.loop-number.number in
    let left = c.loop-number.left in
    elim c.if-has.branch [
      | then-has+else-left-eq0 w ↦
          let m : IsMember set number = subst (IsMember set) c.new-register.ensures (c.has.ensures.0 w.if-has.true) in
          subst (IsSearch set c.args.k (number + 1)) (sym w.left-is) (search_pass set c.args.k number left c.loop-number-test.true m w.if-left-eq0.false c.loop-number.invariant)
      | else-has w ↦
          let out : IsMember set number → ⊥ = λ m. false≢true (sym w.if-has.false ∙ c.has.ensures.1 (subst (IsMember set) (sym c.new-register.ensures) m)) in
          subst (IsSearch set c.args.k (number + 1)) (sym w.left-is) (search_skip set c.args.k number left c.loop-number-test.true out c.loop-number.invariant)
    ]
