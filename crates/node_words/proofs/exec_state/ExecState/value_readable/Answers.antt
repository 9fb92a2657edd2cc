use Rattle.std.proofs.Common.{◌∙◌, ap, sym}
use Rattle.node_memory.specs.byte_range.Memory.{raw}
use Rattle.node_memory.specs.byte_range.Window.{window_memory, is_in_window}
use Rattle.node_memory.specs.node_model.Node.{is_readable_state}
use Rattle.node_memory.proofs.MemoryLemmas.{in_window}
use Rattle.node_words.proofs.AccessLemmas.{window_gives, window_state}
use Rattle.node_words.proofs.exec_state.ExecState.value_readable.Goals as goal

pub returns-in-Some-clause-value : goal.returns-in-Some-clause-value
returns-in-Some-clause-value c =
    let b = c.args.self.now in
    let a = c.args.address in
    let w = in_window (is_in_window a) c.in-Some.raw (raw c.width-width.result (window_memory b.lane.private) a) c.in-Some.ensures.value in
    window_gives b c.args.kind c.width-width.result a c.in-Some.raw _ c.width-width.ensures.value
    (sym c.is_aligned.ensures.value ∙ c.if-not-is_aligned.false) w.0 w.1 c.extend.ensures

pub returns-in-Some-clause-readable : goal.returns-in-Some-clause-readable
returns-in-Some-clause-readable c =
    let b = c.args.self.now in
    let a = c.args.address in
    let w = in_window (is_in_window a) c.in-Some.raw (raw c.width-width.result (window_memory b.lane.private) a) c.in-Some.ensures.value in
    ap is_readable_state (window_state b.local a c.laws.ensures w.0)
