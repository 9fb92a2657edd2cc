use Rattle.std.proofs.Common.{◌∙◌, ap}
use Rattle.node_words.specs.node_model.Turns.{word_turn}
use Rattle.node_words.specs.node_model.Node.{Work}
use Rattle.node_machine.specs.NodeState.{node_of}
use Rattle.node_machine.proofs.node_state.NodeState.run_until_send.Goals as goal

pub returns-clause-ran : goal.returns-clause-ran
returns-clause-ran c = record {
  words = c.run_by.result;
  last = node_of c.run_by.new.self;
  goes_on = c.run_by.ensures.goes_on;
  may = c.run_by.ensures.may;
  turn = c.serve_word.ensures.turn
      ∙ ap (λ (w : Work). word_turn w (node_of c.run_by.new.self)) c.run_by.ensures.work;
}
