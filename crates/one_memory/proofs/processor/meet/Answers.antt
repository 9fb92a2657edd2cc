use Rattle.std.proofs.Common.{sym, subst}
use Rattle.std.specs.Prelude.{IfOk}
use Rattle.rv32_step.specs.declared.Demand.{Demand}
use Rattle.one_memory.specs.Machine.{Meets}
use Rattle.one_memory.proofs.processor.meet.Goals as goal

pub returns-in-Jumps-clause-ok : goal.returns-in-Jumps-clause-ok
returns-in-Jumps-clause-ok c =
    let m = c.args.memory.now in
    subst (λ (d : Demand). Meets c.args.p d c.args.at m c.args.body.now m c.jump.new.body c.jump.result) (sym c.in-Jumps.is) (c.jump.ensures c.args.p m)

pub returns-in-Branches-clause-ok : goal.returns-in-Branches-clause-ok
returns-in-Branches-clause-ok c =
    let m = c.args.memory.now in
    let b = c.args.body.now in
    subst (λ (d : Demand). Meets c.args.p d c.args.at m b m b c.go_to.result) (sym c.in-Branches.is) (c.go_to.ensures c.args.p m b)

pub returns-in-Loads-clause-ok : goal.returns-in-Loads-clause-ok
returns-in-Loads-clause-ok c =
    let m = c.args.memory.now in
    subst (λ (d : Demand). Meets c.args.p d c.args.at m c.args.body.now m c.load.new.body c.load.result) (sym c.in-Loads.is) (c.load.ensures c.args.p)

pub returns-in-Stores-clause-ok : goal.returns-in-Stores-clause-ok
returns-in-Stores-clause-ok c =
    subst (λ (d : Demand). Meets c.args.p d c.args.at c.args.memory.now c.args.body.now c.store.new.memory c.store.new.body c.store.result) (sym c.in-Stores.is) c.store.ensures.ok

pub returns-in-Calls-clause-ok : goal.returns-in-Calls-clause-ok
returns-in-Calls-clause-ok c =
    subst (λ (d : Demand). IfOk c.call.result (Meets c.args.p d c.args.at c.args.memory.now c.args.body.now c.call.new.memory c.call.new.body)) (sym c.in-Calls.is) (c.call.ensures.ok c.args.p)

pub returns-in-Reserves-clause-ok : goal.returns-in-Reserves-clause-ok
returns-in-Reserves-clause-ok c =
    subst (λ (d : Demand). Meets c.args.p d c.args.at c.args.memory.now c.args.body.now c.load_reserved.new.memory c.load_reserved.new.body c.load_reserved.result) (sym c.in-Reserves.is) c.load_reserved.ensures.ok

pub returns-in-StoresIf-clause-ok : goal.returns-in-StoresIf-clause-ok
returns-in-StoresIf-clause-ok c =
    subst (λ (d : Demand). Meets c.args.p d c.args.at c.args.memory.now c.args.body.now c.store_conditional.new.memory c.store_conditional.new.body c.store_conditional.result) (sym c.in-StoresIf.is) c.store_conditional.ensures.ok

pub returns-in-Updates-clause-ok : goal.returns-in-Updates-clause-ok
returns-in-Updates-clause-ok c =
    subst (λ (d : Demand). Meets c.args.p d c.args.at c.args.memory.now c.args.body.now c.update.new.memory c.update.new.body c.update.result) (sym c.in-Updates.is) c.update.ensures.ok
