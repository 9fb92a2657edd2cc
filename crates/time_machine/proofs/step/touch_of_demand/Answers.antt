use Rattle.std.proofs.Common.{ap, sym, ◌∙◌}
use Rattle.llsc.specs.Reservation.{holds}
use Rattle.rv32_step.specs.Demands.{call_step}
use Rattle.rv32_step.specs.OneMemory.{State}
use Rattle.one_memory.specs.Machine.{original_of, state_of}
use Rattle.time_machine.proofs.Touches.{loads, reserves, stores, updates, puts, ends, returns, stores_if, stores_not}
use Rattle.time_machine.proofs.step.touch_of_demand.Goals as goal

pub returns-in-Loads : goal.returns-in-Loads
returns-in-Loads c =
    let m = c.args.machine.now in
    c.read.ensures ∙ loads (original_of m) (state_of m) c.args.p c.args.program.now c.requires.program c.args.d c.width.result c.in-Loads.is c.width.ensures.value

pub returns-in-Reserves : goal.returns-in-Reserves
returns-in-Reserves c =
    let m = c.args.machine.now in
    c.read-in-Reserves.ensures ∙ reserves (original_of m) (state_of m) c.args.p c.args.program.now c.requires.program c.args.d c.in-Reserves.is

pub returns-in-Stores : goal.returns-in-Stores
returns-in-Stores c =
    let m = c.args.machine.now in
    c.write.ensures ∙ stores (original_of m) (state_of m) c.args.p c.args.program.now c.requires.program c.args.d c.in-Stores.is

pub returns-in-Updates : goal.returns-in-Updates
returns-in-Updates c =
    let m = c.args.machine.now in
    c.write-in-Updates.ensures ∙ updates (original_of m) (state_of m) c.args.p c.args.program.now c.requires.program c.args.d c.in-Updates.is

pub returns-then-holds : goal.returns-then-holds
returns-then-holds c =
    let m = c.args.machine.now in
    let s : State = state_of m in
    let held = ap (λ r. holds r c.in-StoresIf.address) c.reservation.ensures in
    c.write-then-holds.ensures ∙ stores_if (original_of m) s c.args.p c.args.program.now c.requires.program c.args.d c.in-StoresIf.is
    (sym held ∙ sym c.holds.ensures ∙ c.if-holds.true)

pub returns-else-holds : goal.returns-else-holds
returns-else-holds c =
    let m = c.args.machine.now in
    let s : State = state_of m in
    let held = ap (λ r. holds r c.in-StoresIf.address) c.reservation.ensures in
    stores_not (original_of m) s c.args.p c.args.program.now c.requires.program c.args.d c.in-StoresIf.is
    (sym held ∙ sym c.holds.ensures ∙ c.if-holds.false)

pub returns-in-Puts : goal.returns-in-Puts
returns-in-Puts c =
    let m = c.args.machine.now in
    let s : State = state_of m in
    let p = c.args.p in
    let is = c.call_step.ensures.value ∙ ap (λ r. call_step r c.written.result) c.registers.ensures
    ∙ ap (call_step (s.processors p).registers) c.written.ensures in
    c.read-in-Puts.ensures
    ∙ puts (original_of m) s p c.args.program.now c.requires.program c.args.d c.call_step.result (record { calls = c.in-Calls.is; call_is = is }) c.in-Puts.is

pub returns-in-Ends : goal.returns-in-Ends
returns-in-Ends c =
    let m = c.args.machine.now in
    let s : State = state_of m in
    let p = c.args.p in
    let is = c.call_step.ensures.value ∙ ap (λ r. call_step r c.written.result) c.registers.ensures
    ∙ ap (call_step (s.processors p).registers) c.written.ensures in
    ends (original_of m) s p c.args.program.now c.requires.program c.args.d c.call_step.result (record { calls = c.in-Calls.is; call_is = is }) c.in-Ends.is

pub returns-in-Returns : goal.returns-in-Returns
returns-in-Returns c =
    let m = c.args.machine.now in
    let s : State = state_of m in
    let p = c.args.p in
    let is = c.call_step.ensures.value ∙ ap (λ r. call_step r c.written.result) c.registers.ensures
    ∙ ap (call_step (s.processors p).registers) c.written.ensures in
    returns (original_of m) s p c.args.program.now c.requires.program c.args.d c.call_step.result (record { calls = c.in-Calls.is; call_is = is }) c.in-Returns.is
