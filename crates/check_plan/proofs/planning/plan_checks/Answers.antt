use Rattle.std.proofs.Common.{◌∙◌, ap, subst}
use Rattle.templates.specs.Code.{code_of}
use Rattle.templates.specs.Places.{HasPlaces}
use Rattle.check_plan.proofs.PlanLemmas.{is_plan}
use Rattle.check_plan.proofs.planning.plan_checks.Goals as goal

pub returns : goal.returns
returns c =
    let code = code_of c.args.live.now in
    let places = c.in_ok-places.places.items in
    let q = c.in_ok-places.ensures in
    let whole = ap code_of (c.code.ensures.value ∙ c.graph.ensures.value) in
    record {
      value = is_plan code places c.in_ok-plan.plan q.ascending (subst (λ f. HasPlaces f places) whole q.places) (c.in_ok-plan.ensures.places ∙ c.deref.ensures.value) c.in_ok-plan.ensures.each c.in_ok-plan.ensures.runs;
    }
