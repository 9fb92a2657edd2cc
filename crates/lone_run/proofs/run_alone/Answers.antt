use Rattle.std.proofs.Common.{◌≡◌, ap, ◌∙◌, subst, arith}
use Rattle.exec_map.specs.Contents.{program_of}
use Rattle.rv32_step.specs.OneMemory.{Original, State, opening}
use Rattle.one_memory.specs.Machine.{original_of, state_of}
use Rattle.one_memory.specs.ByOrder.{end_by}
use Rattle.one_memory.specs.Turns.{AreTurns}
use Rattle.lone_run.proofs.Turns.{is_alone, run_whole}
use Rattle.lone_run.proofs.run_alone.Goals as goal

pub run_alone-requires-clause-runs : goal.run_alone-requires-clause-runs
run_alone-requires-clause-runs c = ap (λ (s : State). (s.processors 0).exit) c.in_ok-machine.ensures.opening

pub returns : goal.returns
returns c =
    let e = c.in_ok-machine.ensures in
    let o = original_of c.in_ok-machine.machine in
    let n = c.in_ok-steps.steps in
    let done = c.in_ok-steps.ensures in
    let end : State = state_of c.run_alone.new.self in
    let same = is_alone o (program_of c.args.program.now) c.args.layout.now e.program e.layout e.nodes in
    let turns : AreTurns o 0 n (opening o) end = subst (λ (s : State). AreTurns o 0 n s end) e.opening done.turns in
    let most : c.number-most.result ≡ c.args.budget = c.number-most.ensures.value in
    let fits = done.most in
    let is : c.end_of.result ≡ end_by c.args.budget (end.processors 0).exit = c.end_of.ensures
    ∙ ap (λ b. end_by b c.exit.result) most ∙ ap (λ x. end_by c.args.budget x) c.exit.ensures in
    run_whole (program_of c.args.program.now) c.args.layout.now c.args.budget n end c.end_of.result
    (subst (λ (o : Original). AreTurns o 0 n (opening o) end) same turns)
    (omega (arith, most, fits)) (λ lt. done.all (omega (arith, lt, most))) is
