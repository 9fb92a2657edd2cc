use Rattle.node_words.proofs.AccessLemmas.{loaded_gives}
use Rattle.node_words.proofs.exec_state.ExecState.value_at.Goals as goal

pub returns-in-Some : goal.returns-in-Some
returns-in-Some c = record {
  value = loaded_gives c.args.self.now c.args.kind c.width.result c.args.address c.in-Some.raw _ c.width.ensures.value
      c.in-Some.ensures.value c.extend.ensures;
}
