-- By each demand.
use Rattle.std.proofs.Common.{sym, refl, subst}
use Rattle.replay.specs.node_model.Node.{native}
use Rattle.replay.specs.node_machine.NodeState.{work_of, node_of}
use Rattle.run_trace.specs.Looks.{IsReach}
use Rattle.run_trace.proofs.reach.reach_by.Goals as goal

pub returns-in-Loads : goal.returns-in-Loads
returns-in-Loads c = λ place at.
    let f = c.args.node.now in
    subst (λ d. IsReach c.load_reach.result (native (work_of f).program place at (node_of f).lane (node_of f).local d))
    (sym c.in-Loads.is) (c.load_reach.ensures.loads place at c.in-Loads.field-1)

pub returns-in-Reserves : goal.returns-in-Reserves
returns-in-Reserves c = λ place at.
    let f = c.args.node.now in
    subst (λ d. IsReach c.load_reach-in-Reserves.result (native (work_of f).program place at (node_of f).lane (node_of f).local d))
    (sym c.in-Reserves.is) (c.load_reach-in-Reserves.ensures.reserves place at c.in-Reserves.field-0 refl)

pub returns-in-Stores : goal.returns-in-Stores
returns-in-Stores c = λ place at.
    let f = c.args.node.now in
    subst (λ d. IsReach c.store_reach.result (native (work_of f).program place at (node_of f).lane (node_of f).local d))
    (sym c.in-Stores.is)
    (c.store_reach.ensures (work_of f).program place at c.in-Stores.field-2 (node_of f).lane (node_of f).local)

pub returns-in-StoresIf : goal.returns-in-StoresIf
returns-in-StoresIf c = λ place at.
    let f = c.args.node.now in
    subst (λ d. IsReach c.store_if_reach.result (native (work_of f).program place at (node_of f).lane (node_of f).local d))
    (sym c.in-StoresIf.is) (c.store_if_reach.ensures place at c.in-StoresIf.field-0 c.in-StoresIf.field-2)

pub returns-in-Updates : goal.returns-in-Updates
returns-in-Updates c = λ place at.
    let f = c.args.node.now in
    subst (λ d. IsReach c.update_reach.result (native (work_of f).program place at (node_of f).lane (node_of f).local d))
    (sym c.in-Updates.is)
    (c.update_reach.ensures place at c.in-Updates.field-1 c.in-Updates.field-3 c.in-Updates.field-0)
