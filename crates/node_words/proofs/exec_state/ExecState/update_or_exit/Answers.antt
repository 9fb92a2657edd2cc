use Rattle.std.proofs.Common.{◌≡◌, ℕ, true, sym, ap, ◌∙◌, subst}
use Rattle.rv32_decode.specs.declared.Width.TheVariants.{Word}
use Rattle.rv32_decode.specs.Widths.{is_aligned}
use Rattle.node_memory.specs.exec_map.Contents.{program_of}
use Rattle.rv32_ops.specs.Operations.{amo}
use Rattle.node_memory.specs.node_model.Node.{ProcessorState, region_of, set_register, update}
use Rattle.node_words.specs.declared.lane.ProcessorState as kept
use Rattle.node_memory.specs.Shelf.{ground_of, local_of}
use Rattle.node_words.specs.Kept.{Does, lane_of, tally_of, move_of}
use Rattle.node_words.specs.declared.lane.WordOutcome.{WordOutcome}
use Rattle.node_words.proofs.StepLemmas.{store_next, updated_to}
use Rattle.node_words.proofs.exec_state.ExecState.update_or_exit.Goals as goal

pub returns-then-is_aligned-clause-does : goal.returns-then-is_aligned-clause-does
returns-then-is_aligned-clause-does c at =
    let b = c.args.self.now in
    let a = c.args.address in
    let program = program_of b.local.program in
    let old = c.word-old.result in
    let new : c.amo.result ≡ amo c.args.op old c.args.value = c.amo.ensures in
    let next = store_next program (lane_of b.lane at) (local_of b.local) Word a c.amo.result (region_of a) in
    let aligned : is_aligned Word a ≡ true = sym c.if-is_aligned.ensures.value in
    let left = c.store.ensures.leaves at in
    let stored = c.store.new.self.lane in
    let after : kept.ProcessorState = record { registers = c.set.new.self; private = stored.private; written = stored.written; off = stored.off; spills = stored.spills } in
    rw aligned (subst (λ (v : ℕ). Does (update program (lane_of b.lane at) (local_of b.local) c.args.op c.args.r a c.args.value v) (ground_of b.local) at after c.store.new.self.local c.only_moves.result) (c.word-old.ensures at)
    (subst (λ (v : ℕ). Does (updated_to program (lane_of b.lane at) (local_of b.local) c.args.r a old v) (ground_of b.local) at after c.store.new.self.local c.only_moves.result) new (record {
      leaves = record {
        lane = ap (λ (f : ℕ → ℕ). record (lane_of stored at) { registers = f }) c.set.ensures
            ∙ ap (λ (l : ProcessorState). set_register l c.args.r old) left.lane;
        local = left.local;
        ground_same = left.ground_same;
      };
      output = ap (λ (o : WordOutcome). o.output) c.only_moves.ensures ∙ sym next.1;
      tally = ap (λ (o : WordOutcome). tally_of o.tally) c.only_moves.ensures ∙ sym next.2;
      move = ap (λ (o : WordOutcome). move_of o.next) c.only_moves.ensures ∙ sym next.0;
    })))
