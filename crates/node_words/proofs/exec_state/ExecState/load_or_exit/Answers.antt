use Rattle.std.proofs.Common.{◌≡◌, true, sym, ap, ◌∙◌}
use Rattle.rv32_decode.specs.Widths.{is_aligned, width_of}
use Rattle.rv32_decode.specs.declared.Width.{Width}
use Rattle.node_memory.specs.exec_map.Contents.{program_of}
use Rattle.node_memory.specs.node_model.Node.{region_of}
use Rattle.node_memory.specs.Shelf.{local_of}
use Rattle.node_words.specs.Kept.{lane_of, tally_of, move_of}
use Rattle.node_words.specs.declared.lane.WordOutcome.{WordOutcome}
use Rattle.node_words.proofs.StepLemmas.{load_next}
use Rattle.node_words.proofs.exec_state.ExecState.load_or_exit.Goals as goal

pub returns-then-is_aligned-clause-does : goal.returns-then-is_aligned-clause-does
returns-then-is_aligned-clause-does c at =
    let b = c.args.self.now in
    let next = load_next (program_of b.local.program) (lane_of b.lane at) (local_of b.local) c.args.kind c.args.r c.args.address (region_of c.args.address) in
    let aligned : is_aligned (width_of c.args.kind) c.args.address ≡ true = sym (c.if-is_aligned.ensures.value ∙ ap (λ (w : Width). is_aligned w c.args.address) c.width.ensures.value) in
    rw aligned (record { leaves = c.load.ensures.leaves at; output = ap (λ (o : WordOutcome). o.output) c.only_moves.ensures ∙ sym next.1; tally = ap (λ (o : WordOutcome). tally_of o.tally) c.only_moves.ensures ∙ sym next.2; move = ap (λ (o : WordOutcome). move_of o.next) c.only_moves.ensures ∙ sym next.0 })
