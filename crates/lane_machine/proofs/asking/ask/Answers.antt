use Rattle.std.proofs.Common.{◌/◌, ◌∙◌, sym, ap}
use Rattle.lane_model.specs.Turns.{ask}
use Rattle.node_machine.proofs.BlockLemmas.{LineLaws}
use Rattle.node_machine.proofs.ProtocolLemmas.{unmet_none, unmet_some}
use Rattle.node_machine.specs.NodeState.{layout_of}
use Rattle.lane_machine.specs.ProtocolStates.{asked_by, stood}
use Rattle.lane_machine.proofs.asking.ask.Goals as goal

pub ask_block-requires-clause-block : goal.ask_block-requires-clause-block
ask_block-requires-clause-block c =
    (c.layout_law.ensures.found c.args.body.now.local.copy.layout c.in-Some.block (c.args.want.at / 64) c.laws.ensures.valid (sym c.in-Some.ensures)).0

pub returns-in-Some-clause-turn : goal.returns-in-Some-clause-turn
returns-in-Some-clause-turn c n posts p again =
    let body = c.args.body.now in
    ap (λ o. ask (layout_of body) c.args.want.need o (asked_by (stood n body c.args.protocol.now c.args.places.now) posts p again))
    (sym c.in-Some.ensures) ∙ c.ask_block.ensures.turn n posts p again

pub returns-in-None-clause-begun : goal.returns-in-None-clause-begun
returns-in-None-clause-begun c idle unmet =
    let law = c.layout_law.ensures in
    let laws : LineLaws = record { ends = law.ends; has = law.has; found = law.found; shared = law.shared; some = law.some } in
    absurd (unmet_none laws c.args.body.now.local c.laws.ensures c.args.want.need (c.args.want.at / 64) (sym c.in-None.ensures) unmet)

pub returns-in-Some-clause-begun : goal.returns-in-Some-clause-begun
returns-in-Some-clause-begun c idle unmet =
    let law = c.layout_law.ensures in
    let laws : LineLaws = record { ends = law.ends; has = law.has; found = law.found; shared = law.shared; some = law.some } in
    c.ask_block.ensures.begun idle
    (unmet_some laws c.args.body.now.local c.laws.ensures c.args.want.need (c.args.want.at / 64) c.in-Some.block (sym c.in-Some.ensures) unmet)
