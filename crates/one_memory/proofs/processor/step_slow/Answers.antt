use Rattle.std.proofs.Common.{ap, ◌∙◌}
use Rattle.std.proofs.lemmas.Result.{IfOk-weaker}
use Rattle.exec_map.specs.Contents.{code_at}
use Rattle.rv32_step.specs.Demands.{demand_of}
use Rattle.rv32_step.specs.Registers.{registers_of}
use Rattle.one_memory.proofs.StepLemmas.{demanded}
use Rattle.one_memory.proofs.processor.step_slow.Goals as goal

pub returns-in-Some-clause-ok : goal.returns-in-Some-clause-ok
returns-in-Some-clause-ok c =
    let m = c.args.memory.now in
    let b = c.args.body.now in
    let pc = c.address_of-pc.ensures in
    let here = c.in-Some.ensures ∙ ap (code_at m.program) pc in
    let demand = c.demand_of.ensures.value ∙ ap (demand_of c.in-Some.i (registers_of b.registers)) pc in
    IfOk-weaker c.meet.result _ _ (λ move met. demanded c.args.p c.args.at m c.meet.new.memory b c.meet.new.body c.in-Some.i c.demand_of.result move here demand met) c.meet.ensures.ok
