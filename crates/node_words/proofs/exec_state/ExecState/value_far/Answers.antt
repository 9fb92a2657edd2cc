use Rattle.std.proofs.Common.{◌∙◌, sym}
use Rattle.node_memory.specs.byte_range.Memory.{raw}
use Rattle.node_memory.specs.byte_range.Window.{window_memory, is_in_window}
use Rattle.node_memory.proofs.MemoryLemmas.{in_window}
use Rattle.node_words.proofs.AccessLemmas.{window_gives}
use Rattle.node_words.proofs.exec_state.ExecState.value_far.Goals as goal

pub returns-in-Some : goal.returns-in-Some
returns-in-Some c =
    let b = c.args.self.now in
    let a = c.args.address in
    let w = in_window (is_in_window a) c.in-Some.raw (raw c.width-width.result (window_memory b.lane.private) a) c.in-Some.ensures.value in
    record {
      value = window_gives b c.args.kind c.width-width.result a c.in-Some.raw _ c.width-width.ensures.value
          (sym c.is_aligned.ensures.value ∙ c.if-not-is_aligned.false) w.0 w.1 c.extend.ensures;
    }
