use Rattle.std.proofs.Common.{Bool, subst, sym}
use Rattle.node_words.specs.Strides.{IsTried, StepsBy}
use Rattle.node_words.proofs.StrideLemmas.{jumps}
use Rattle.node_words.proofs.exec_state.ExecState.jump_by.Goals as goal

pub returns : goal.returns
returns c = record {
  tried = λ image.
      let b = c.args.self.now in
      let op = c.args.op.now in
      let from = c.args.going.now in
      let to = c.jump.new.going in
      subst (λ (r : Bool). IsTried r (StepsBy image op from b to b) from b to b) (sym c.jump.ensures.done)
      (jumps image op from to b c.requires.is c.requires.keeps_none c.jump.ensures.left c.jump.ensures.at c.jump.ensures.low);
  to = c.jump.ensures.at;
}
