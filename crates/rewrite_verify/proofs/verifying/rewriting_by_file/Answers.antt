use Rattle.std.proofs.Common.{◌∙◌, ap, subst, sym}
use Rattle.exec_map.specs.Contents.{program_of}
use Rattle.templates.specs.Code.{HasCode, code_of}
use Rattle.rewrite_verify.specs.Reading.{IsGoodPlan}
use Rattle.rewrite_verify.proofs.PlanLemmas.{ascends, runs_of, is_by_plan, is_too_large}
use Rattle.rewrite_verify.proofs.verifying.rewriting_by_file.Goals as goal

pub by_plan-requires-clause-ascends : goal.by_plan-requires-clause-ascends
by_plan-requires-clause-ascends c =
    ascends (code_of c.in_ok-live.live) c.args.elf.now c.in_ok-plan.plan c.in_ok-plan.ensures.ok

pub by_plan-requires-clause-runs : goal.by_plan-requires-clause-runs
by_plan-requires-clause-runs c =
    let same = c.in_ok-live.ensures.code ∙ sym c.code.ensures.value in
    runs_of c.code.result.now c.args.elf.now c.in_ok-plan.plan
    (subst (λ ws. IsGoodPlan (code_of ws) c.args.elf.now c.in_ok-plan.plan) same
    c.in_ok-plan.ensures.ok)

pub returns-in-Ok-clause-ok : goal.returns-in-Ok-clause-ok
returns-in-Ok-clause-ok c =
    let same = c.in_ok-live.ensures.code ∙ sym c.code.ensures.value in
    let code : HasCode (program_of c.args.original.now) c.code.result.now =
    sym (ap (λ e. (program_of e).code) c.requires.accepted) ∙ c.in_ok-graph.ensures.code
    ∙ ap code_of (sym c.code.ensures.value) in
    is_by_plan c.args.original.now c.args.elf.now c.code.result.now c.in_ok-plan.plan _ _ code
    (subst (λ ws. IsGoodPlan (code_of ws) c.args.elf.now c.in_ok-plan.plan) same
    c.in_ok-plan.ensures.ok)
    c.in-Ok.ensures.plan c.in-Ok.ensures.image

pub returns-in-Err-CodeTooLarge-clause-refused : goal.returns-in-Err-CodeTooLarge-clause-refused
returns-in-Err-CodeTooLarge-clause-refused c =
    let same = c.in_ok-live.ensures.code ∙ sym c.code.ensures.value in
    let code : HasCode (program_of c.args.original.now) c.code.result.now =
    sym (ap (λ e. (program_of e).code) c.requires.accepted) ∙ c.in_ok-graph.ensures.code
    ∙ ap code_of (sym c.code.ensures.value) in
    is_too_large c.args.original.now c.args.elf.now c.code.result.now c.in_ok-plan.plan _ code
    (subst (λ ws. IsGoodPlan (code_of ws) c.args.elf.now c.in_ok-plan.plan) same
    c.in_ok-plan.ensures.ok)
    (c.by_plan.ensures.too_large _ (cc))
