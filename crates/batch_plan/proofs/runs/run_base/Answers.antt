use Rattle.std.proofs.Common.{◌≡◌, ◌+◌, ◌≤◌, sym, subst, rules, arith}
use Rattle.std.specs.Prelude.{MatchOption}
use Rattle.templates.specs.Code.{code_of}
use Rattle.templates.specs.Runs.{IsRun}
use Rattle.batch_plan.specs.Batches.{IsRunBy}
use Rattle.batch_plan.specs.Stretches.{IsStretchOf}
use Rattle.batch_plan.proofs.RunLemmas.{no_run, run_by}
use Rattle.batch_plan.proofs.runs.run_base.Goals as goal

pub returns-in_err-stretch-clause-value : goal.returns-in_err-stretch-clause-value
returns-in_err-stretch-clause-value c =
    let code = code_of c.args.code.now in
    let a = c.args.address in
    let n = c.args.words in
    subst (λ o. MatchOption o (IsRun code a n → ⊥) (IsRunBy code a n))
    (sym c.from_residual.ensures)
    (λ h.
    let two = h.some in
    no_run code a 1 n (λ z. omega (arith, z)) (omega (arith, two)) c.in_err-stretch.ensures.value h)

pub returns-in_err-stretch-2-clause-value : goal.returns-in_err-stretch-2-clause-value
returns-in_err-stretch-2-clause-value c =
    let code = code_of c.args.code.now in
    let a = c.args.address in
    let n = c.args.words in
    let lt = c.loop-count-test.true in
    subst (λ o. MatchOption o (IsRun code a n → ⊥) (IsRunBy code a n))
    (sym c.from_residual-in_err-stretch-2.ensures)
    (λ h.
    no_run code a (c.loop-count.count + 1) n (λ z. omega (arith, z)) (omega (arith, lt))
    c.in_err-stretch-2.ensures.value h)

pub returns-then-stretch-clause-value : goal.returns-then-stretch-clause-value
returns-then-stretch-clause-value c =
    let code = code_of c.args.code.now in
    let a = c.args.address in
    let n = c.args.words in
    let two : 2 ≤ n = search rules in
    let few : n ≤ 16 = search rules in
    let count : c.loop-count.count ≡ n = omega (arith, two) in
    run_by code a n c.base.result c.loop-count.stretch two few
    (subst (λ m. IsStretchOf code a m c.loop-count.stretch) count c.loop-count.invariant)
    c.if-stretch.true c.base.ensures.value
