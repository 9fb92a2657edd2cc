use Rattle.std.proofs.Common.{◌≡◌, ◌+◌, ◌++◌, ◌≤◌, length}
use Rattle.node_words.specs.node_model.Turns.{byes_to}
use Rattle.node_machine.proofs.node_state.add_byes.Given as goal

abbrev pub invariant-loop-to : goal.invariant-loop-to
invariant-loop-to l = record {
  items : l.sends.items ≡ l.fn.sends.items ++ byes_to l.to;
  len : length l.sends.items ≤ 2 + l.to;
}
