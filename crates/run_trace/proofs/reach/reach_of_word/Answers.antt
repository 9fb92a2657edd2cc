-- By what its demand, or its call, reaches.
use Rattle.std.proofs.Common.{sym, ap₂, subst, ◌∙◌}
use Rattle.replay.specs.node_model.rv32_step.Demands.{demand_of, call_step}
use Rattle.replay.specs.node_model.Node.{native, make_call, execute}
use Rattle.replay.specs.node_machine.NodeState.{work_of, node_of}
use Rattle.run_trace.specs.Looks.{IsReach}
use Rattle.run_trace.proofs.reach.reach_of_word.Goals as goal

pub returns-in-Native : goal.returns-in-Native
returns-in-Native c = λ place.
    let f = c.args.node.now in
    let p = (work_of f).program in let l = (node_of f).lane in let n = (node_of f).local in
    let demand = c.demand_of.ensures.value
    ∙ ap₂ (demand_of c.in-Native.i) c.registers.ensures.value c.at.ensures.value in
    subst (λ w. IsReach c.reach_by.result (execute p place l.at w l n)) (sym c.in-Native.is)
    (subst (λ d. IsReach c.reach_by.result (native p place l.at l n d)) demand (c.reach_by.ensures place l.at))

pub returns-in-Call : goal.returns-in-Call
returns-in-Call c = λ place.
    let f = c.args.node.now in
    let p = (work_of f).program in let l = (node_of f).lane in let n = (node_of f).local in
    let step = c.call_step.ensures.value ∙ ap₂ call_step c.registers-in-Call.ensures.value c.written.ensures.value in
    subst (λ w. IsReach c.reach_of_call.result (execute p place l.at w l n)) (sym c.in-Call.is)
    (subst (λ s. IsReach c.reach_of_call.result (make_call p l n s)) step (c.reach_of_call.ensures p l n))
