use Rattle.std.proofs.Common.{◌≡◌, ◌∙◌, ◌+◌, ◌*◌, Some, None, sym, ap, subst, refl, arith, MatchOption}
use Rattle.std.proofs.lemmas.Bool.{false≢true}
use Rattle.templates.specs.Code.{code_of}
use Rattle.batch_plan.specs.Stretches.{IsRunPrefix, IsStretchOf}
use Rattle.batch_plan.proofs.StretchLemmas.{stretch_low}
use Rattle.batch_plan.proofs.StepLemmas.{goes_on, ends_before, ends_here}
use Rattle.batch_plan.proofs.stretches.RunPrefix.longer.Goals as goal
use Rattle.batch_plan.proofs.stretches.RunPrefix.longer.Goals.{else-may_stand-via-then-may_stand+else-is_near, else-may_stand-via-else-may_stand}

pub overflow_add-address : goal.overflow_add-address
overflow_add-address c =
    let low = stretch_low c.args.code.now c.args.address c.args.words c.requires.ascends
    c.requires.stretch.stretch in
    let is = c.from.ensures in
    omega (arith, low, is)

pub returns-in_err-i : goal.returns-in_err-i
returns-in_err-i c =
    let code = code_of c.args.code.now in
    let a = c.args.address in
    let n = c.args.words in
    let here : code (a + 4 * n) ≡ None =
    ap (λ m. code (a + 4 * m)) (sym c.from.ensures) ∙ sym c.at.ensures.value ∙ c.in_err-i.was in
    record {
      value =
          subst (λ o. MatchOption o (IsRunPrefix code a (n + 1) → ⊥) (IsStretchOf code a (n + 1)))
          (sym c.from_residual.ensures)
          (ends_before code a n c.args.self.now c.requires.stretch here);
    }

pub returns-then-is_near : goal.returns-then-is_near
returns-then-is_near c =
    let code = code_of c.args.code.now in
    let a = c.args.address in
    let n = c.args.words in
    let here : code (a + 4 * n) ≡ Some c.in_ok-i.i =
    ap (λ m. code (a + 4 * m)) (sym c.from.ensures) ∙ sym c.at.ensures.value ∙ c.in_ok-i.was in
    record {
      value =
          goes_on code a n c.in_ok-i.i c.with-reach.result c.args.self.now
          (record { reach = c.with-reach.result; ends = c.is_access.result })
          c.requires.stretch here c.with-reach.ensures.value
          (sym c.may_stand.ensures.value ∙ c.if-may_stand.true)
          (sym c.is_near.ensures.value ∙ c.if-is_near.true) refl c.is_access.ensures.value;
    }

pub returns-else-may_stand : goal.returns-else-may_stand
returns-else-may_stand c =
    let code = code_of c.args.code.now in
    let a = c.args.address in
    let n = c.args.words in
    let here : code (a + 4 * n) ≡ Some c.in_ok-i.i =
    ap (λ m. code (a + 4 * m)) (sym c.from.ensures) ∙ sym c.at.ensures.value ∙ c.in_ok-i.was in
    record {
      value =
          ends_here code a n c.in_ok-i.i c.with-reach.result c.args.self.now c.requires.stretch here
          c.with-reach.ensures.value (λ stands near. elim c.else-may_stand.branch [
            | else-may_stand-via-then-may_stand+else-is_near w ↦
                false≢true (sym w.if-is_near.false ∙ w.is_near.ensures.value ∙ near)
            | else-may_stand-via-else-may_stand w ↦
                false≢true (sym w.if-may_stand.false ∙ c.may_stand.ensures.value ∙ stands)
          ]);
    }
