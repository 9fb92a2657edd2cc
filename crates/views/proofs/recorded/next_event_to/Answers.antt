use Rattle.std.proofs.Common.{[], ◌∷◌, ◌++◌, subst}
use Rattle.run_trace.specs.Given.{traced_of}
use Rattle.run_trace.specs.Tracing.{HasGoneOn, HasTraced, record_traced}
use Rattle.views.proofs.Ends.{ends_later, ends_whole}
use Rattle.views.proofs.recorded.next_event_to.Goals as goal

-- all were made
pub returns-in_default-clause-next : goal.returns-in_default-clause-next
returns-in_default-clause-next c = λ seen traced trace whole.
    let u = c.next_event.new.tracer in
    ends_whole u c.args.to seen trace (c.replay_law.ensures.one (record_traced u))
    (subst (HasGoneOn u seen) c.in_default.is (c.in_ok-event.ensures.next seen traced)) whole

-- the next is later
pub returns-then-event-to-clause-next : goal.returns-then-event-to-clause-next
returns-then-event-to-clause-next c = λ seen traced trace whole.
    let u = c.next_event.new.tracer in
    let x = traced_of c.in-Some.event in
    let more : HasTraced u (seen ++ x ∷ []) =
    subst (HasGoneOn u seen) c.in-Some.is (c.in_ok-event.ensures.next seen traced) in
    ends_later u c.args.to seen x trace (c.replay_law.ensures.one (record_traced u)) more
    c.if-event-to.true whole

pub returns-clause-next : goal.returns-clause-next
returns-clause-next c = λ seen traced.
    subst (HasGoneOn c.next_event.new.tracer seen) c.in-Some.is (c.in_ok-event.ensures.next seen traced)
