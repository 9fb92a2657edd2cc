use Rattle.std.proofs.Common.{◌≡◌, ◌+◌, ◌^◌, ◌∙◌, ◌∷◌, ap, sym, arith}
use Rattle.std.specs.Option.{option_to_list}
use Rattle.block_layout.specs.Layout.{Shape, block_of}
use Rattle.rv32_program.specs.Program.{line_of}
use Rattle.lane_model.specs.node_model.Turns.{each_block_once}
use Rattle.node_machine.specs.node_words.node_memory.Shelf.{Ground, want_of, others_of, all_wants}
use Rattle.node_machine.specs.NodeState.{layout_of}
use Rattle.node_machine.proofs.NodeStateLemmas.{counts_up}
use Rattle.lane_model.specs.Turns.{blocks_of, still}
use Rattle.lane_machine.specs.Waits.{wait_among, all_waits}
use Rattle.lane_machine.proofs.AskLemmas.{two_still}
use Rattle.lane_machine.proofs.asking.ask_wants.Goals as goal

pub returns-in_default-clause-counts : goal.returns-in_default-clause-counts
returns-in_default-clause-counts c most below =
    counts_up (most + 1) (most + 2) _ (omega arith) (c.ask-first.ensures.counts most below)

pub ask-other-requires-clause-counts : goal.ask-other-requires-clause-counts
ask-other-requires-clause-counts c =
    counts_up (2 ^ 62 + 1) (2 ^ 63) _ (omega arith) (c.ask-first.ensures.counts (2 ^ 62) c.requires.counts)

pub returns-then-first-clause-counts : goal.returns-then-first-clause-counts
returns-then-first-clause-counts c most below =
    counts_up (most + 1 + 1) (most + 2) _ (omega arith)
    (c.ask-other.ensures.counts (most + 1) (c.ask-first.ensures.counts most below))

pub returns-else-first-clause-counts : goal.returns-else-first-clause-counts
returns-else-first-clause-counts c most below =
    counts_up (most + 1 + 1) (most + 2) _ (omega arith)
    (c.ask-other.ensures.counts (most + 1) (c.ask-first.ensures.counts most below))

pub returns-then-first-clause-awaits : goal.returns-then-first-clause-awaits
returns-then-first-clause-awaits c =
    let l = layout_of c.args.body.now in
    let l1 = layout_of c.ask-first.new.body in
    let same : l1 ≡ l = ap (λ (g : Ground). g.layout) c.ask-first.ensures.ground in
    let ps = c.args.places.now in
    let f = wait_among (all_waits c.ask-first.new.protocol ps) in
    let g = wait_among (all_waits c.ask-other.new.protocol ps) in
    let w = c.args.wants.first in
    let v = c.in-Some.want in
    let once = ap (λ (x : Shape). each_block_once x (all_wants c.args.wants)) (sym same) ∙ c.want_of_other_block.ensures.once
    ∙ ap (λ x. want_of w ∷ others_of x) c.in-Some.is in
    let other : option_to_list c.ask-other.result.block ≡ still g (option_to_list (block_of l (line_of v.at))) =
    c.ask-other.ensures.awaits ∙ ap (λ (x : Shape). still g (option_to_list (block_of x (line_of v.at)))) same in
    two_still (block_of l (line_of w.at)) (block_of l (line_of v.at)) f g _ _ c.ask-first.ensures.awaits other
    (λ b is. c.ask-other.ensures.others b (λ also.
    c.want_of_other_block.ensures.apart v b c.in-Some.is (ap (λ (x : Shape). block_of x (line_of w.at)) same ∙ is) also))
    ∙ ap (λ ws. still g (blocks_of l ws)) (sym once)

pub returns-else-first-clause-awaits : goal.returns-else-first-clause-awaits
returns-else-first-clause-awaits c =
    let l = layout_of c.args.body.now in
    let l1 = layout_of c.ask-first.new.body in
    let same : l1 ≡ l = ap (λ (g : Ground). g.layout) c.ask-first.ensures.ground in
    let ps = c.args.places.now in
    let f = wait_among (all_waits c.ask-first.new.protocol ps) in
    let g = wait_among (all_waits c.ask-other.new.protocol ps) in
    let w = c.args.wants.first in
    let v = c.in-Some.want in
    let once = ap (λ (x : Shape). each_block_once x (all_wants c.args.wants)) (sym same) ∙ c.want_of_other_block.ensures.once
    ∙ ap (λ x. want_of w ∷ others_of x) c.in-Some.is in
    let other : option_to_list c.ask-other.result.block ≡ still g (option_to_list (block_of l (line_of v.at))) =
    c.ask-other.ensures.awaits ∙ ap (λ (x : Shape). still g (option_to_list (block_of x (line_of v.at)))) same in
    two_still (block_of l (line_of w.at)) (block_of l (line_of v.at)) f g _ _ c.ask-first.ensures.awaits other
    (λ b is. c.ask-other.ensures.others b (λ also.
    c.want_of_other_block.ensures.apart v b c.in-Some.is (ap (λ (x : Shape). block_of x (line_of w.at)) same ∙ is) also))
    ∙ ap (λ ws. still g (blocks_of l ws)) (sym once)
