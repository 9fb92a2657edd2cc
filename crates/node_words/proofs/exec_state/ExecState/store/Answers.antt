use Rattle.std.proofs.Common.{Bool, cond, ap, sym, ◌∙◌}
use Rattle.node_memory.specs.byte_range.Memory.{stored}
use Rattle.node_memory.specs.byte_range.Window.{window_memory}
use Rattle.node_words.specs.declared.exec_state.ExecState.{ExecState}
use Rattle.node_words.proofs.AccessLemmas.{window_stored}
use Rattle.node_words.proofs.StrideLemmas.{store_leaves}
use Rattle.node_words.proofs.exec_state.ExecState.store.Goals as goal

pub returns-then-is_in_window-clause-leaves : goal.returns-then-is_in_window-clause-leaves
returns-then-is_in_window-clause-leaves c at =
    let b = c.args.self.now in
    let b' : ExecState = record b { lane = record b.lane { private = c.store.new.self } } in
    let a = c.args.address in
    let m = window_memory b.lane.private in
    let inside = sym c.is_in_window.ensures ∙ c.if-is_in_window.true in
    let bytes = c.store.ensures.bytes ∙ ap (λ (t : Bool). cond t (stored c.args.width m a c.args.value) m) inside in
    store_leaves b b' c.args.width a c.args.value
    (window_stored b c.args.width a c.args.value c.store.new.self c.requires inside bytes) at
