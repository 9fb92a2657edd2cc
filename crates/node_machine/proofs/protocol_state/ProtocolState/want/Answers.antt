use Rattle.std.proofs.Common.{◌≡◌, ◌+◌, ◌^◌, ◌∙◌, [], ◌∷◌, ap, sym, refl, arith}
use Rattle.block_layout.specs.Layout.{Shape}
use Rattle.node_words.specs.node_model.Turns.{Turn, each_block_once}
use Rattle.node_words.specs.node_memory.Shelf.{Ground, want_of, others_of, all_wants}
use Rattle.node_machine.specs.NodeState.{layout_of, with_parts}
use Rattle.node_machine.specs.ProtocolState.{turn_by}
use Rattle.node_machine.specs.Wanted.{wanted, block_with, wants_along}
use Rattle.node_machine.proofs.NodeStateLemmas.{counts_up}
use Rattle.node_machine.proofs.protocol_state.ProtocolState.want.Goals as goal

pub want_line-other-requires-clause-counts : goal.want_line-other-requires-clause-counts
want_line-other-requires-clause-counts c =
    counts_up (2 ^ 62 + 1) (2 ^ 63) _ (omega arith) (c.want_line-post.ensures.counts (2 ^ 62) c.requires.counts)

pub returns-in_default-clause-counts : goal.returns-in_default-clause-counts
returns-in_default-clause-counts c most below =
    counts_up (most + 1) (most + 2) _ (omega arith) (c.want_line-post.ensures.counts most below)

pub returns-clause-counts : goal.returns-clause-counts
returns-clause-counts c most below =
    counts_up (most + 1 + 1) (most + 2) _ (omega arith)
    (c.want_line-other.ensures.counts (most + 1) (c.want_line-post.ensures.counts most below))

pub returns-in_default-clause-wants : goal.returns-in_default-clause-wants
returns-in_default-clause-wants c n p =
    let body = c.args.body.now in
    let d = c.args.self.now in
    let l = layout_of body in
    let m = with_parts n body d in
    let same : layout_of c.want_line-post.new.body ≡ l = ap (λ (g : Ground). g.layout) c.want_line-post.ensures.ground in
    let once = ap (λ (x : Shape). each_block_once x (all_wants c.args.wants)) (sym same) ∙ c.in_default.ensures.once in
    ap (wants_along l (turn_by m [] p)) once
    ∙ sym (ap (λ x. x ∷ []) (c.wanted_of-first.ensures m refl))

pub returns-clause-wants : goal.returns-clause-wants
returns-clause-wants c n p =
    let body = c.args.body.now in
    let d = c.args.self.now in
    let l = layout_of body in
    let m = with_parts n body d in
    let body' = c.want_line-post.new.body in
    let d' = c.want_line-post.new.self in
    let m' = with_parts n body' d' in
    let v = want_of c.in-Some.other in
    let first = want_of c.args.wants.first in
    let same : layout_of body' ≡ l = ap (λ (g : Ground). g.layout) c.want_line-post.ensures.ground in
    let once = ap (λ (x : Shape). each_block_once x (all_wants c.args.wants)) (sym same) ∙ c.want_of_other_block.ensures.once
    ∙ ap (λ x. want_of c.args.wants.first ∷ others_of x) c.in-Some.is in
    let head = sym (c.wanted_of-first.ensures m refl) in
    let next = ap (λ (t : Turn). wanted l t.node v (block_with l v.at)) (c.want_line-post.ensures.turn n [] p)
    ∙ ap (λ (x : Shape). wanted x m' v (block_with x v.at)) (sym same) ∙ sym (c.wanted_of-second.ensures m' refl) in
    ap (wants_along l (turn_by m [] p)) once ∙ (λ t. head t ∷ (next t ∷ []))
