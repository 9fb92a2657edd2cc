use Rattle.std.proofs.Common.{◌≡◌, ℕ, ◌<◌, ◌≤◌}
use Rattle.block_layout.specs.Layout.{blocks}
use Rattle.state_table.specs.declared.State.TheVariants.{Invalid}
use Rattle.state_table.specs.States.{state_of}
use Rattle.node_words.specs.flag_memory.Copy.{bytes_of}
use Rattle.node_machine.specs.Opening.{opening_state, opening_bytes}
use Rattle.node_machine.proofs.opening.open_blocks.Given as goal

abbrev pub invariant-loop-block : goal.invariant-loop-block
invariant-loop-block l = record {
  states_layout : l.states.layout ≡ l.fn.states.layout;
  classes : l.states.program ≡ l.fn.states.program;
  copy_layout : l.copy.layout ≡ l.fn.copy.layout;
  state : (b : ℕ) → b < l.block → state_of l.states b ≡ opening_state l.layout l.me b;
  rest : (b : ℕ) → l.block ≤ b → b < blocks l.layout → state_of l.states b ≡ Invalid;
  bytes : (b : ℕ) → b < l.block → bytes_of l.copy b ≡ opening_bytes l.program l.layout l.me b;
}
