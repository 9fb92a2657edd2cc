use Rattle.std.proofs.Common.{◌≡◌, ◌∙◌, sym, subst, ap}
use Rattle.exec_map.specs.Contents.{program_of}
use Rattle.templates.specs.Code.{HasCode, code_of}
use Rattle.templates.specs.WholePlan.{IsPlanOf}
use Rattle.jump_map.specs.Image.{Expands, IsRewriting}
use Rattle.rewriter.proofs.RunLemmas.{runs_of, in_ok}
use Rattle.rewriter.proofs.rewriting.rewrite.Goals as goal

pub by_plan-requires-clause-runs : goal.by_plan-requires-clause-runs
by_plan-requires-clause-runs c =
    let p = program_of c.args.program.now in
    let plan = c.in_ok-plan.plan in
    let is_plan : IsPlanOf c.args.options.batch p.code plan =
    subst (λ f. IsPlanOf c.args.options.batch f plan) (sym c.in_ok-graph.ensures.code)
    c.in_ok-plan.ensures.value in
    runs_of p c.code.result.now plan
    (c.in_ok-graph.ensures.code ∙ ap code_of (sym c.code.ensures.value))
    (c.plan_law.ensures.admissible c.args.options.batch p plan is_plan)

pub returns-clause-plan : goal.returns-clause-plan
returns-clause-plan c =
    let p = program_of c.args.program.now in
    let plan = c.in_ok-plan.plan in
    let is_plan : IsPlanOf c.args.options.batch p.code plan =
    subst (λ f. IsPlanOf c.args.options.batch f plan) (sym c.in_ok-graph.ensures.code)
    c.in_ok-plan.ensures.value in
    in_ok c.by_plan.result (λ r. r.plan ≡ plan) (λ r. Expands c.code.result.now plan r.image)
    (λ r. IsPlanOf c.args.options.batch p.code r.plan) c.by_plan.ensures.plan
    c.by_plan.ensures.image
    (λ r same expands. subst (λ q. IsPlanOf c.args.options.batch p.code q) (sym same) is_plan)

pub returns-clause-rewriting : goal.returns-clause-rewriting
returns-clause-rewriting c =
    let p = program_of c.args.program.now in
    let plan = c.in_ok-plan.plan in
    let is_plan : IsPlanOf c.args.options.batch p.code plan =
    subst (λ f. IsPlanOf c.args.options.batch f plan) (sym c.in_ok-graph.ensures.code)
    c.in_ok-plan.ensures.value in
    let code : HasCode p c.code.result.now =
    c.in_ok-graph.ensures.code ∙ ap code_of (sym c.code.ensures.value) in
    in_ok c.by_plan.result (λ r. r.plan ≡ plan) (λ r. Expands c.code.result.now plan r.image)
    (λ r. IsRewriting p r.plan r.image) c.by_plan.ensures.plan c.by_plan.ensures.image
    (λ r same expands.
    subst (λ q. IsRewriting p q r.image) (sym same) (record {
      admissible = c.plan_law.ensures.admissible c.args.options.batch p plan is_plan;
      expansion = expands p code;
    }))

pub returns-clause-too_large : goal.returns-clause-too_large
returns-clause-too_large c = λ w is. record {
  plan = c.in_ok-plan.plan;
  is_plan =
      subst (λ f. IsPlanOf c.args.options.batch f c.in_ok-plan.plan)
      (sym c.in_ok-graph.ensures.code) c.in_ok-plan.ensures.value;
  many =
      c.by_plan.ensures.too_large w is (program_of c.args.program.now)
      (c.in_ok-graph.ensures.code ∙ ap code_of (sym c.code.ensures.value));
}
