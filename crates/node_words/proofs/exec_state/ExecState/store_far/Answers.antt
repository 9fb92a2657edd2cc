use Rattle.std.proofs.Common.{ℕ, ap, subst, ◌∙◌}
use Rattle.node_memory.specs.exec_map.Contents.{program_of}
use Rattle.rv32_decode.specs.Widths.{is_aligned}
use Rattle.node_memory.specs.node_model.Node.{region_of, store}
use Rattle.node_memory.specs.rv32_step.Registers.{reg, registers_of}
use Rattle.node_memory.specs.Shelf.{ground_of, local_of}
use Rattle.node_words.specs.Kept.{LeavesBehind, lane_of}
use Rattle.node_words.proofs.exec_state.ExecState.store_far.Goals as goal

pub returns-then-is_aligned-clause-aligned : goal.returns-then-is_aligned-clause-aligned
returns-then-is_aligned-clause-aligned c =
    c.if-is_aligned.ensures.value ∙ ap (is_aligned c.args.width) c.sum_by-address.ensures

pub returns-else-is_aligned-clause-aligned : goal.returns-else-is_aligned-clause-aligned
returns-else-is_aligned-clause-aligned c =
    c.if-is_aligned.ensures.value ∙ ap (is_aligned c.args.width) c.sum_by-address.ensures

pub returns-then-is_aligned-clause-leaves : goal.returns-then-is_aligned-clause-leaves
returns-then-is_aligned-clause-leaves c is at =
    let b = c.args.self.now in
    let b' = c.store.new.self in
    let leaves = λ (a v : ℕ). LeavesBehind (store (program_of b.local.program) (lane_of b.lane at) (local_of b.local) c.args.width a v (region_of a))
    (ground_of b.local) at b'.lane b'.local in
    subst (λ (a : ℕ). leaves a (reg (registers_of b.lane.registers) c.args.op.now.rs2)) c.sum_by-address.ensures
    (subst (leaves c.sum_by-address.result) c.get-value.ensures (c.store.ensures.leaves at))
