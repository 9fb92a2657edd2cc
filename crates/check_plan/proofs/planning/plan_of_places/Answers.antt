use Rattle.templates.specs.Code.{code_of}
use Rattle.check_plan.proofs.PlanLemmas.{planned_more}
use Rattle.check_plan.proofs.planning.plan_of_places.Goals as goal

pub loop-address-preserved : goal.loop-address-preserved
loop-address-preserved c =
    planned_more (code_of c.args.live.now) c.args.places.now c.loop-address.address-index c.loop-address.plan c.push.new.self c.check_entry.result
    c.loop-address-test.true c.check_entry.ensures.address c.check_entry.ensures.entry c.check_entry.ensures.run c.in_ok-push.ensures.ok c.loop-address.invariant
