use Rattle.node_words.proofs.AccessLemmas.{loaded_gives}
use Rattle.node_words.proofs.exec_state.ExecState.value_checked.Goals as goal

pub returns-in-Some-clause-value : goal.returns-in-Some-clause-value
returns-in-Some-clause-value c =
    loaded_gives c.args.self.now c.args.kind c.width.result c.args.address c.in-Some.raw _ c.width.ensures.value
    c.in-Some.ensures.value c.extend.ensures
