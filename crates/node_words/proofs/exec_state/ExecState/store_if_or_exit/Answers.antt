use Rattle.std.proofs.Common.{◌≡◌, ℕ, true, None, sym, ap, ◌∙◌}
use Rattle.rv32_decode.specs.declared.Width.TheVariants.{Word}
use Rattle.rv32_decode.specs.Widths.{is_aligned}
use Rattle.node_memory.specs.exec_map.Contents.{program_of}
use Rattle.node_memory.specs.llsc.Reservation.{holds}
use Rattle.node_memory.specs.node_model.Node.{ProcessorState, NodeMemory, region_of, set_register}
use Rattle.node_memory.specs.Shelf.{local_of}
use Rattle.node_words.specs.Kept.{lane_of, tally_of, move_of}
use Rattle.node_words.specs.declared.lane.WordOutcome.{WordOutcome}
use Rattle.node_words.proofs.StepLemmas.{store_next}
use Rattle.node_words.proofs.exec_state.ExecState.store_if_or_exit.Goals as goal

pub returns-clause-does : goal.returns-clause-does
returns-clause-does c at =
    let b = c.args.self.now in
    let a = c.args.address in
    let program = program_of b.local.program in
    let next = store_next program (lane_of b.lane at) (local_of b.local) Word a c.args.value (region_of a) in
    let aligned : is_aligned Word a ≡ true = sym c.is_aligned.ensures.value ∙ c.if-not-is_aligned.false in
    let reserved : holds b.local.reservation a ≡ true = sym c.holds.ensures ∙ c.if-not-holds.false in
    let left = c.store.ensures.leaves at in
    let stored = c.store.new.self.lane in
    rw (aligned, reserved) (record {
      leaves = record {
        lane = ap (λ (f : ℕ → ℕ). record (lane_of stored at) { registers = f }) c.set-2.ensures
            ∙ ap (λ (l : ProcessorState). set_register l c.args.r 0) left.lane;
        local = c.end_reservation-2.ensures.local ∙ ap (λ (n : NodeMemory). record n { reservation = None }) left.local;
        ground_same = c.end_reservation-2.ensures.ground ∙ left.ground_same;
      };
      output = ap (λ (o : WordOutcome). o.output) c.only_moves-2.ensures ∙ sym next.1;
      tally = ap (λ (o : WordOutcome). tally_of o.tally) c.only_moves-2.ensures ∙ sym next.2;
      move = ap (λ (o : WordOutcome). move_of o.next) c.only_moves-2.ensures ∙ sym next.0;
    })
