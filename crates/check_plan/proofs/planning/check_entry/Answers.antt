use Rattle.std.proofs.Common.{◌∙◌, sym, ap}
use Rattle.std.specs.Prelude.{take}
use Rattle.rv32_decode.specs.Fields.{bit}
use Rattle.templates.specs.WholePlan.{in_order, scratches_of}
use Rattle.templates.specs.Code.{code_of}
use Rattle.check_plan.proofs.PlanLemmas.{entry_some}
use Rattle.check_plan.proofs.planning.check_entry.Goals as goal

pub returns-in-Some-clause-entry : goal.returns-in-Some-clause-entry
returns-in-Some-clause-entry c =
    let e = c.entry-in-Some.ensures in
    let at = sym (c.in-Some.ensures.value ∙ ap (λ ws. code_of ws c.args.address) (c.code.ensures.value ∙ c.graph.ensures.value)) in
    let chosen = c.choose-single.ensures.value ∙ ap (λ rs. scratches_of (take c.scratch_count.result (in_order (bit c.all_dead-dead.result) rs))) c.candidates.ensures.value in
    entry_some (code_of c.args.live.now) c.args.address c.in-Some.i c.all_dead-dead.result c.scratch_count.result c.template_of-template.result c.choose-single.result c.entry-in-Some.result
    at c.template_of-template.ensures.value c.scratch_count.ensures.value (λ r nz lt. c.all_dead-dead.ensures.members c.in-Some.i r at nz lt) chosen
    e.address e.template e.single e.polls
