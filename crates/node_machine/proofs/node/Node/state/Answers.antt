-- A block's state is that of its first line.
use Rattle.std.proofs.Common.{ap, sym, subst, ◌∙◌}
use Rattle.state_table.specs.States.{state_of}
use Rattle.node_words.specs.declared.exec_state.ExecState.{ExecState}
use Rattle.node_words.specs.node_memory.Blocks.{ShelfLaws}
use Rattle.node_machine.specs.declared.node_state.NodeState.{NodeState as Stored}
use Rattle.node_machine.specs.NodeState.{layout_of}
use Rattle.node_machine.proofs.BlockLemmas.{LineLaws, block_state}
use Rattle.node_machine.proofs.node.Node.state.Goals as goal

pub returns : goal.returns
returns c =
    let law = c.layout_law.ensures in
    let laws : LineLaws = record { ends = law.ends; has = law.has; found = law.found; shared = law.shared; some = law.some } in
    let b = c.args.self.now.shared.body.value in
    let view = ap (λ (f : Stored). f.shared.body.value) c.self.view_is in
    let here : ShelfLaws b.local = subst (λ (x : ExecState). ShelfLaws x.local) (c.deref.ensures ∙ view) c.laws.ensures in
    record {
      value = c.block_state.ensures
          ∙ ap (λ (x : ExecState). state_of x.local.states c.args.block) (c.deref-2.ensures ∙ view)
          ∙ sym (block_state laws (layout_of b) here.valid b.local.states c.args.block c.requires.block here.lines.one);
    }
