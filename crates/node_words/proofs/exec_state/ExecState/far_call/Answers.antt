use Rattle.std.proofs.lemmas.Option.{slice_get_within}
use Rattle.std.proofs.Common.{◌+◌, ◌%◌, ◌^◌, Bool, sym, ap, ◌∙◌, subst, refl, arith}
use Rattle.node_memory.specs.micro_op.declared.micro_op.MicroOp.{MicroOp}
use Rattle.node_words.specs.Strides.{IsTried, StridesBy, straight}
use Rattle.node_words.proofs.ReachLemmas.{Code, code_of}
use Rattle.node_words.proofs.StrideLemmas.{as_many}
use Rattle.node_words.proofs.AlongLemmas.{strides_straight}
use Rattle.node_words.proofs.WholeLemmas.{call_goes, found_at}
use Rattle.node_words.proofs.exec_state.ExecState.far_call.Goals as goal

pub returns-clause-strides : goal.returns-clause-strides
returns-clause-strides c image few are =
    let b = c.args.self.now in
    let b' = c.put_number.new.self in
    let from = c.args.going.now in
    let to = c.jump.new.going in
    let there = c.requires.there in
    let code : Code = code_of b image c.args.micros.now few are in
    let many = as_many image c.args.micros.now are in
    let inside = slice_get_within c.args.micros.now (from.at + 2) c.requires.jump.jump c.requires.jump.there in
    let jump = found_at c.args.micros.now (from.at + 2) _ c.requires.jump.jump c.index-micros-going.is c.requires.jump.there in
    subst (λ (r : Bool). IsTried r (StridesBy image (straight 3) from b to b') from b to b') (sym c.jump.ensures.done)
    (strides_straight image 3 3 3 from to b b' c.jump.ensures.left (omega arith) (omega arith) (omega arith)
    (omega (arith, inside, many)) c.jump.ensures.low
    (call_goes code from.at to.at ((there.upper.imm + there.lower.imm) % 2 ^ 32) there.upper.rd b b' refl there refl
    refl c.requires.jump (c.jump.ensures.at ∙ ap (λ (m : MicroOp). m.imm) jump)
    (c.put_number.ensures.lane there.upper there.lower there.upper_there there.lower_there) c.put_number.ensures.local))

pub returns-clause-inside : goal.returns-clause-inside
returns-clause-inside c =
    let there = c.requires.jump in
    let jump = found_at c.args.micros.now (c.args.going.now.at + 2) _ there.jump c.index-micros-going.is there.there in
    let at = c.jump.ensures.at ∙ ap (λ (m : MicroOp). m.imm) jump in
    let inside = there.inside in
    omega (arith, at, inside)
