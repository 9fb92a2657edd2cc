use Rattle.std.proofs.Common.{◌≡◌, ◌∙◌, ◌&&◌, ltb, length}
use Rattle.node_words.specs.declared.exec_state.ExecState.{ExecState}
use Rattle.node_words.specs.node_model.Turns.{count_row}
use Rattle.node_machine.specs.ProtocolState.{is_order}
use Rattle.node_machine.proofs.BlockLemmas.{LineLaws}
use Rattle.node_machine.proofs.ProtocolLemmas.{counted, routed_turn, routed_few}
use Rattle.node_machine.proofs.protocol_state.ProtocolState.handle.Goals as goal

pub returns-clause-turn : goal.returns-clause-turn
returns-clause-turn c n me =
    let body = c.args.body.now in
    let d = c.args.self.now in
    let law = c.layout_law.ensures in
    let laws : LineLaws = record { ends = law.ends; has = law.has; found = law.found; shared = law.shared; some = law.some } in
    let body' : ExecState = record body { local = c.route.new.local; counts = c.count_row-body.result } in
    let posts = c.route.new.sends.items in
    let given : c.gives_up-given.result ≡ (is_order c.args.message && ltb 0 (length posts)) =
    c.gives_up-given.ensures ∙ (λ t. c.is_order-order.ensures t && ltb 0 (c.len.ensures.value t)) in
    let counts : c.count_row-body.result ≡ counted c.args.message posts body.counts =
    c.count_row-body.ensures ∙ (λ t. count_row (given t) (c.len-2.ensures.value t) body.counts) in
    routed_turn laws body body' d c.route.new.self posts c.args.from c.requires.protocol c.laws.ensures c.laws-2.ensures
    c.args.message n me counts c.route.ensures.routed

pub returns-clause-few : goal.returns-clause-few
returns-clause-few c =
    let body = c.args.body.now in
    let body' : ExecState = record body { local = c.route.new.local; counts = c.count_row-body.result } in
    (routed_few body body' c.args.self.now c.route.new.self c.route.new.sends.items c.args.message c.args.from c.route.ensures.routed).0

pub returns-clause-none : goal.returns-clause-none
returns-clause-none c =
    let body = c.args.body.now in
    let body' : ExecState = record body { local = c.route.new.local; counts = c.count_row-body.result } in
    (routed_few body body' c.args.self.now c.route.new.self c.route.new.sends.items c.args.message c.args.from c.route.ensures.routed).1
