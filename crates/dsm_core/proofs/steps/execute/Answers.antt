-- The word was passed, or it is executed with room.
use Rattle.run_order.specs.node_model.Core.{Exec}
use Rattle.dsm_core.specs.CoreSteps.{HaveMade, HaveKept}
use Rattle.dsm_core.proofs.CoreSteps.{made_same, kept_same, passed_made, on_ok, on_err}
use Rattle.dsm_core.proofs.steps.execute.Goals as goal

pub returns-then-exec_silent-clause-event : goal.returns-then-exec_silent-clause-event
returns-then-exec_silent-clause-event c =
    passed_made c.args.count c.args.node c.args.nodes.now.items c.exec_silent.new.nodes.items
    c.args.lists.now.items (c.exec_silent.ensures.passed c.if-exec_silent.true)

pub returns-clause-event : goal.returns-clause-event
returns-clause-event c =
    let ns0 = c.args.nodes.now.items in
    let ns1 = c.exec_silent.new.nodes.items in
    let ns2 = c.execute_with_room.new.nodes.items in
    let q0 = c.args.lists.now.items in
    let q1 = c.execute_with_room.new.lists.items in
    let e = Exec c.args.node in
    on_ok c.execute_with_room.result (λ (made : HaveMade c.args.count ns1 ns2 q0 q1 e).
    made_same c.args.count ns0 ns1 ns2 q0 q1 e (c.exec_silent.ensures.same c.if-exec_silent.false) made)
    c.execute_with_room.ensures.event

pub returns-clause-err : goal.returns-clause-err
returns-clause-err c =
    let ns0 = c.args.nodes.now.items in
    let ns1 = c.exec_silent.new.nodes.items in
    let ns2 = c.execute_with_room.new.nodes.items in
    let q0 = c.args.lists.now.items in
    let q1 = c.execute_with_room.new.lists.items in
    on_err c.execute_with_room.result (λ (kept : HaveKept c.args.count ns1 ns2 q0 q1).
    kept_same c.args.count ns0 ns1 ns2 q0 q1 (c.exec_silent.ensures.same c.if-exec_silent.false) kept)
    c.execute_with_room.ensures.err
