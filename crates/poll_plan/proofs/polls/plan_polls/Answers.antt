use Rattle.std.proofs.Common.{ap}
use Rattle.templates.specs.Code.{code_of}
use Rattle.poll_plan.specs.Polls.{with_polls}
use Rattle.poll_plan.proofs.PollLemmas.{within, next_first, all_first, whole}
use Rattle.poll_plan.proofs.polls.plan_polls.Goals as goal

pub get-entry-requires : goal.get-entry-requires
get-entry-requires c = record {
  within = within (with_polls (code_of c.args.graph.now)) c.loop-k.k c.args.plan.now c.loop-k.plan c.len-k-end.result c.loop-k.invariant c.len-k-end.ensures.value c.loop-k-test.true;
}

pub set-requires : goal.set-requires
set-requires c = record {
  within = within (with_polls (code_of c.args.graph.now)) c.loop-k.k c.args.plan.now c.loop-k.plan c.len-k-end.result c.loop-k.invariant c.len-k-end.ensures.value c.loop-k-test.true;
}

pub loop-k-preserved : goal.loop-k-preserved
loop-k-preserved c =
    let f = with_polls (code_of c.args.graph.now) in
    next_first f c.loop-k.k c.args.plan.now c.loop-k.plan c.set.new.self c.get-entry.result _ c.loop-k.invariant c.get-entry.ensures.value
    (ap (λ b. record c.get-entry.result { polls = b }) c.closes_loop_at.ensures.value) c.set.ensures.value

pub returns-clause-polls : goal.returns-clause-polls
returns-clause-polls c =
    all_first (with_polls (code_of c.args.graph.now)) c.loop-k.k c.args.plan.now c.loop-k.plan c.len-k-end.result c.loop-k.invariant c.len-k-end.ensures.value c.loop-k-test.false

pub returns-clause-plan : goal.returns-clause-plan
returns-clause-plan c =
    let code = code_of c.args.graph.now in
    whole code c.args.plan.now c.loop-k.plan
    (all_first (with_polls code) c.loop-k.k c.args.plan.now c.loop-k.plan c.len-k-end.result c.loop-k.invariant c.len-k-end.ensures.value c.loop-k-test.false)
