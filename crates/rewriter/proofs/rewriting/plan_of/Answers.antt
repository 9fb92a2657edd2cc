use Rattle.std.proofs.Common.{sym, subst, false}
use Rattle.templates.specs.Code.{code_of}
use Rattle.templates.specs.WholePlan.{IsCheckPlan, IsPlanOf}
use Rattle.rewriter.proofs.rewriting.plan_of.Goals as goal

pub returns : goal.returns
returns c =
    let same = c.in_ok-live.ensures.code in
    let checks = subst (λ ws. IsCheckPlan (code_of ws) c.in_ok-plan.plan) same c.in_ok-plan.ensures.value in
    let polls : IsPlanOf false (code_of c.in_ok-live.live) c.plan_polls.new.plan =
    subst (λ ws. IsPlanOf false (code_of ws) c.plan_polls.new.plan) (sym same) (c.plan_polls.ensures.plan checks) in
    record {
      value = subst (λ ws. IsPlanOf c.args.options.batch (code_of ws) c.add_batches.new.plan) same (c.add_batches.ensures.plan polls);
    }
