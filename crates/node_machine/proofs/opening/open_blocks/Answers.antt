use Rattle.std.proofs.Common.{◌∙◌}
use Rattle.block_layout.specs.Layout.{blocks}
use Rattle.state_table.specs.declared.State.TheVariants.{Invalid}
use Rattle.state_table.specs.States.{state_of}
use Rattle.node_words.specs.flag_memory.Copy.{bytes_of}
use Rattle.node_machine.specs.Opening.{opening_state, opening_bytes}
use Rattle.node_machine.proofs.OpeningLemmas.{opened, unopened}
use Rattle.node_machine.proofs.opening.open_blocks.Goals as goal

pub loop-block-preserved : goal.loop-block-preserved
loop-block-preserved c =
    let l = c.args.layout.now in
    let me = c.args.me in
    let e = c.args.program.now in
    let k = c.loop-block.block in
    let inv = c.loop-block.invariant in
    let state = c.in_ok-open_block.ensures.state in
    let bytes = c.in_ok-open_block.ensures.bytes in
    record {
      states_layout = c.open_block.ensures.states_layout ∙ inv.states_layout;
      classes = c.open_block.ensures.classes ∙ inv.classes;
      copy_layout = c.open_block.ensures.copy_layout ∙ inv.copy_layout;
      state = opened (state_of c.loop-block.states) (state_of c.open_block.new.states) k (opening_state l me) state inv.state;
      rest = unopened (state_of c.loop-block.states) (state_of c.open_block.new.states) k (blocks l) (opening_state l me k) Invalid state inv.rest;
      bytes = opened (bytes_of c.loop-block.copy) (bytes_of c.open_block.new.copy) k (opening_bytes e l me) bytes inv.bytes;
    }
