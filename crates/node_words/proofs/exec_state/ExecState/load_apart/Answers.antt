use Rattle.std.proofs.Common.{ℕ, refl, ap, ◌∙◌}
use Rattle.rv32_decode.specs.declared.Width.{Width}
use Rattle.rv32_decode.specs.Widths.{is_aligned}
use Rattle.node_memory.specs.byte_range.Memory.{raw}
use Rattle.node_memory.specs.byte_range.Window.{window_memory, is_in_window}
use Rattle.node_memory.proofs.MemoryLemmas.{in_window}
use Rattle.node_words.specs.Kept.{lane_of}
use Rattle.node_words.specs.declared.exec_state.ExecState.{ExecState}
use Rattle.node_words.proofs.AccessLemmas.{window_gives}
use Rattle.node_words.proofs.StrideLemmas.{load_leaves}
use Rattle.node_words.proofs.exec_state.ExecState.load_apart.Goals as goal

pub returns-in-Some-clause-leaves : goal.returns-in-Some-clause-leaves
returns-in-Some-clause-leaves c at =
    let b = c.args.self.now in
    let b' : ExecState = record b { lane = record b.lane { registers = c.set.new.self } } in
    let a = c.args.address in
    let width = c.width.result in
    let aligned = ap (λ (x : Width). is_aligned x a) c.width.ensures.value ∙ c.requires in
    let w = in_window (is_in_window a) c.in-Some.raw (raw width (window_memory b.lane.private) a) c.in-Some.ensures.value in
    let gives = window_gives b c.args.kind width a c.in-Some.raw _ c.width.ensures.value aligned w.0 w.1 c.extend.ensures in
    load_leaves b b' c.args.kind c.args.rd a c.extend.result gives
    (λ (k : ℕ) t. record (lane_of b.lane k) { registers = c.set.ensures t }) refl at
