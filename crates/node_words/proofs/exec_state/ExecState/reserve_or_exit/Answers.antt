use Rattle.std.proofs.Common.{◌≡◌, true, Some, sym, ap, ◌∙◌}
use Rattle.rv32_decode.specs.declared.LoadKind.TheVariants.{Word as WordLoad}
use Rattle.rv32_decode.specs.declared.Width.TheVariants.{Word}
use Rattle.rv32_decode.specs.Widths.{is_aligned}
use Rattle.node_memory.specs.exec_map.Contents.{program_of}
use Rattle.node_memory.specs.node_model.Node.{NodeMemory, region_of}
use Rattle.node_memory.specs.Shelf.{local_of}
use Rattle.node_words.specs.Kept.{lane_of, tally_of, move_of}
use Rattle.node_words.specs.declared.lane.WordOutcome.{WordOutcome}
use Rattle.node_words.proofs.StepLemmas.{load_next}
use Rattle.node_words.proofs.exec_state.ExecState.reserve_or_exit.Goals as goal

pub returns-then-is_aligned-clause-does : goal.returns-then-is_aligned-clause-does
returns-then-is_aligned-clause-does c at =
    let b = c.args.self.now in
    let a = c.args.address in
    let next = load_next (program_of b.local.program) (lane_of b.lane at) (local_of b.local) WordLoad c.args.r a (region_of a) in
    let aligned : is_aligned Word a ≡ true = sym c.if-is_aligned.ensures.value in
    let left = c.load.ensures.leaves at in
    rw aligned (record {
      leaves = record {
        lane = left.lane;
        local = c.reserve.ensures.local ∙ ap (λ (n : NodeMemory). record n { reservation = Some a }) left.local;
        ground_same = c.reserve.ensures.ground ∙ left.ground_same;
      };
      output = ap (λ (o : WordOutcome). o.output) c.only_moves.ensures ∙ sym next.1;
      tally = ap (λ (o : WordOutcome). tally_of o.tally) c.only_moves.ensures ∙ sym next.2;
      move = ap (λ (o : WordOutcome). move_of o.next) c.only_moves.ensures ∙ sym next.0;
    })
