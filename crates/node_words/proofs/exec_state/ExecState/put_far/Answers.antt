use Rattle.std.proofs.Common.{◌∙◌, ap, cond, sym, Bool}
use Rattle.node_memory.specs.byte_range.Memory.{stored}
use Rattle.node_memory.specs.byte_range.Window.{window_memory}
use Rattle.node_memory.specs.node_model.Node.{is_writable_state}
use Rattle.node_words.proofs.AccessLemmas.{window_stored, window_state}
use Rattle.node_words.proofs.exec_state.ExecState.put_far.Goals as goal

pub returns-then-is_in_window-clause-stores : goal.returns-then-is_in_window-clause-stores
returns-then-is_in_window-clause-stores c =
    let b = c.args.self.now in
    let a = c.args.address in
    let m = window_memory b.lane.private in
    let inside = sym c.is_in_window.ensures ∙ c.if-is_in_window.true in
    let bytes = c.store.ensures.bytes ∙ ap (λ (t : Bool). cond t (stored c.args.width m a c.args.value) m) inside in
    window_stored b c.args.width a c.args.value c.store.new.self
    (sym c.is_aligned.ensures.value ∙ c.if-not-is_aligned.false) inside bytes

pub returns-then-is_in_window-clause-writable : goal.returns-then-is_in_window-clause-writable
returns-then-is_in_window-clause-writable c _ =
    let inside = sym c.is_in_window.ensures ∙ c.if-is_in_window.true in
    ap is_writable_state (window_state c.args.self.now.local c.args.address c.laws.ensures inside)
