use Rattle.std.proofs.Common.{◌/◌, ◌∙◌, ℕ, ap, sym, Some, List}
use Rattle.std.proofs.lemmas.List.{append-nil}
use Rattle.node_words.specs.dsm_messages.declared.messages.Post.{Post}
use Rattle.node_words.specs.node_model.Turns.{want_in}
use Rattle.node_machine.specs.NodeState.{layout_of, with_parts}
use Rattle.node_machine.specs.ProtocolState.{turn_by}
use Rattle.node_machine.proofs.BlockLemmas.{LineLaws}
use Rattle.node_machine.proofs.ProtocolLemmas.{unmet_none, unmet_some}
use Rattle.node_machine.proofs.protocol_state.ProtocolState.want_line.Goals as goal

pub want_block-requires-clause-none : goal.want_block-requires-clause-none
want_block-requires-clause-none c = c.requires.none c.in-Some.block (sym c.in-Some.ensures)

pub want_block-requires-clause-block : goal.want_block-requires-clause-block
want_block-requires-clause-block c =
    (c.layout_law.ensures.found c.args.body.now.local.copy.layout c.in-Some.block (c.args.want.at / 64) c.laws.ensures.valid (sym c.in-Some.ensures)).0

pub returns-in-None-clause-turn : goal.returns-in-None-clause-turn
returns-in-None-clause-turn c n posts p =
    let body = c.args.body.now in
    let d = c.args.self.now in
    ap (want_in (layout_of body) (turn_by (with_parts n body d) posts p) c.args.want.need) (sym c.in-None.ensures)
    ∙ ap (λ (x : List Post). turn_by (with_parts n body d) x p) (sym (append-nil posts))

pub returns-in-None-clause-begun : goal.returns-in-None-clause-begun
returns-in-None-clause-begun c unmet =
    let law = c.layout_law.ensures in
    let laws : LineLaws = record { ends = law.ends; has = law.has; found = law.found; shared = law.shared; some = law.some } in
    absurd (unmet_none laws c.args.body.now.local c.laws.ensures c.args.want.need (c.args.want.at / 64) (sym c.in-None.ensures) unmet)

pub returns-in-Some-clause-turn : goal.returns-in-Some-clause-turn
returns-in-Some-clause-turn c n posts p =
    let body = c.args.body.now in
    let d = c.args.self.now in
    ap (want_in (layout_of body) (turn_by (with_parts n body d) posts p) c.args.want.need) (sym c.in-Some.ensures)
    ∙ c.want_block.ensures.turn n posts p

pub returns-in-Some-clause-begun : goal.returns-in-Some-clause-begun
returns-in-Some-clause-begun c unmet =
    let law = c.layout_law.ensures in
    let laws : LineLaws = record { ends = law.ends; has = law.has; found = law.found; shared = law.shared; some = law.some } in
    c.want_block.ensures.begun (unmet_some laws c.args.body.now.local c.laws.ensures c.args.want.need (c.args.want.at / 64) c.in-Some.block (sym c.in-Some.ensures) unmet)

pub returns-in-Some-clause-others : goal.returns-in-Some-clause-others
returns-in-Some-clause-others c b apart =
    c.want_block.ensures.others b (λ e. apart (sym c.in-Some.ensures ∙ ap (λ (x : ℕ). Some x) (sym e)))
