use Rattle.std.proofs.lemmas.Option.{slice_get_within}
use Rattle.std.proofs.Common.{◌+◌, Bool, sym, ap, ◌∙◌, subst, refl, arith}
use Rattle.node_memory.specs.micro_op.declared.micro_op.MicroOp.{MicroOp}
use Rattle.node_words.specs.Strides.{IsTried, StridesBy, straight}
use Rattle.node_words.proofs.ReachLemmas.{Code, code_of}
use Rattle.node_words.proofs.StrideLemmas.{as_many}
use Rattle.node_words.proofs.AlongLemmas.{strides_straight}
use Rattle.node_words.proofs.WholeLemmas.{found_at, poll_jump_goes}
use Rattle.node_words.proofs.exec_state.ExecState.poll_jump.Goals as goal

pub returns : goal.returns
returns c = record {
  strides = λ image few are.
      let b = c.args.self.now in
      let at = c.args.going.now.at in
      let to = c.jump.new.going in
      let there = c.requires.there in
      let code : Code = code_of b image c.args.micros.now few are in
      let many = as_many image c.args.micros.now are in
      let inside = slice_get_within c.args.micros.now (at + 1) there.jump there.there in
      let jump = found_at c.args.micros.now (at + 1) _ there.jump c.index-micros-going.is there.there in
      subst (λ (r : Bool). IsTried r (StridesBy image (straight 2) c.args.going.now b to b) c.args.going.now b to b)
      (sym c.jump.ensures.done)
      (strides_straight image 2 2 2 c.args.going.now to b b c.jump.ensures.left (omega arith) (omega arith) (omega arith)
      (omega (arith, inside, many)) c.jump.ensures.low
      (poll_jump_goes code at to.at b refl c.requires.poll there (c.jump.ensures.at ∙ ap (λ (m : MicroOp). m.imm) jump)));
  inside =
      let there = c.requires.there in
      let jump = found_at c.args.micros.now (c.args.going.now.at + 1) _ there.jump c.index-micros-going.is there.there in
      let at = c.jump.ensures.at ∙ ap (λ (m : MicroOp). m.imm) jump in
      let inside = there.inside in
      omega (arith, at, inside);
}
