use Rattle.std.proofs.Common.{◌+◌, ◌%◌, ◌≤◌, sym, subst, ◌∙◌, arith}
use Rattle.flow_graph.proofs.CodeLemmas.{IsCollected, aligned_and, past, skip, whole}
use Rattle.flow_graph.proofs.code.collect_code.Goals as goal
use Rattle.flow_graph.proofs.code.collect_code.Goals.{in-Some-code_at+in_ok-push, in_default-code_at}

pub push-requires-clause-aligned : goal.push-requires-clause-aligned
push-requires-clause-aligned c = let next = c.in-Some.ensures.some in aligned_and (c.in-Some.address % 4) _ next.code_word

pub loop-address-preserved : goal.loop-address-preserved
loop-address-preserved c =
    let e = c.args.program.now in
    let h = c.loop-address.invariant in
    let next = c.in-Some.ensures.some in
    let a = c.in-Some.address in
    let low = c.in-Some.ensures.low in
    let few : a + 4 ≤ 0x80000000 = omega (arith, low) in
    elim c.match-code_at.branch [
      | in-Some-code_at+in_ok-push w ↦ past e c.loop-address.code c.match-code_at.code c.loop-address.from a w.in-Some-code_at.instruction h next few w.in-Some-code_at.ensures (w.code-is ∙ w.in_ok-push.ensures.ok)
      | in_default-code_at w ↦ subst (λ ws. IsCollected e ws (a + 4)) (sym w.code-is) (skip e c.loop-address.code c.loop-address.from a h next few (sym w.in_default-code_at.is ∙ c.code_at.ensures))
    ]

pub returns : goal.returns
returns c = record { value = whole c.args.program.now c.loop-address.code c.loop-address.from c.loop-address.invariant c.in_default.ensures.none }
