use Rattle.std.proofs.Common.{ℕ, ap, sym, ◌∙◌}
use Rattle.exec_map.specs.Contents.{code_at}
use Rattle.rv32_program.specs.Program.{Program}
use Rattle.rv32_step.specs.Demands.{demand_of}
use Rattle.rv32_step.specs.OneMemory.{State}
use Rattle.one_memory.specs.Machine.{original_of, state_of}
use Rattle.time_machine.proofs.Touches.{by_demand, no_code, touch_met}
use Rattle.time_machine.proofs.step.touch_of_step.Goals as goal

pub returns-in_err-instruction : goal.returns-in_err-instruction
returns-in_err-instruction c =
    let m = c.args.machine.now in
    let s : State = state_of m in
    let p = c.args.p in
    let e = c.args.program.now in
    let here = c.code_at.ensures ∙ ap (code_at e) c.pc-pc.ensures
    ∙ ap (λ (q : Program). q.code (s.processors p).pc) (sym c.requires.program) in
    rw c.from_residual.ensures (no_code (original_of m) s p e c.requires.program (sym c.in_err-instruction.was ∙ here))

pub returns : goal.returns
returns c =
    let m = c.args.machine.now in
    let s : State = state_of m in
    let p = c.args.p in
    let e = c.args.program.now in
    let i = c.in_ok-instruction.instruction in
    let here = c.code_at.ensures ∙ ap (code_at e) c.pc-pc.ensures
    ∙ ap (λ (q : Program). q.code (s.processors p).pc) (sym c.requires.program) in
    let demand = c.demand_of.ensures.value ∙ ap (λ (r : ℕ → ℕ). demand_of i r c.pc-pc.result) c.registers.ensures
    ∙ ap (demand_of i (s.processors p).registers) c.pc-pc.ensures in
    c.touch_of_demand.ensures ∙ ap (touch_met (original_of m) s p) demand
    ∙ by_demand (original_of m) s p e c.requires.program i (sym c.in_ok-instruction.was ∙ here)
