use Rattle.node_memory.specs.rv32_step.declared.Demand.TheVariants.{Continues}
use Rattle.node_words.proofs.StrideLemmas.{continues, steps_next}
use Rattle.node_words.proofs.exec_state.ExecState.nothing.Goals as goal

pub returns : goal.returns
returns c = record {
  tried = λ image.
      let b = c.args.self.now in
      steps_next image c.args.op.now Continues c.args.going.now c.on.new.self b b c.requires.means c.on.ensures.left
      c.on.ensures.at c.requires.low (continues b);
  next = c.on.ensures.at;
}
