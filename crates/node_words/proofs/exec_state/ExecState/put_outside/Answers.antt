use Rattle.node_words.proofs.AccessLemmas.{stored_or}
use Rattle.node_words.proofs.exec_state.ExecState.put_outside.Goals as goal

pub returns-clause-stores : goal.returns-clause-stores
returns-clause-stores c =
    let near = c.store.ensures in
    stored_or c.store.result c.args.self.now c.args.width c.args.address c.args.value c.store.new.self
    c.requires near.shared near.local near.ground (λ none. (near.elsewhere none).0)
