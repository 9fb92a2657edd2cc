-- One event more.
use mir.Val.{bool_byte}
use Rattle.std.proofs.Common.{◌≡◌, ◌∙◌, ◌+◌, [], ◌∷◌, ◌++◌, refl, ap, subst, arith}
use Rattle.std.specs.Prelude.{is_some}
use Rattle.event_text.specs.run_trace.Given.{traced_of}
use Rattle.event_text.specs.run_trace.Tracing.{HasGoneOn, HasTraced, IsFewer, record_traced}
use Rattle.recorded_run.proofs.Along.{counts_all, makes_one, more_fits, same_picks, walked_on}
use Rattle.recorded_run.proofs.walk.Walk.next.Goals as goal

pub next_event-requires-clause-traced : goal.next_event-requires-clause-traced
next_event-requires-clause-traced c = (c.requires.counting.0, c.requires.counting.1.traced)

pub next_event-requires-clause-whole : goal.next_event-requires-clause-whole
next_event-requires-clause-whole c = (c.requires.of_picks.are.told, c.requires.of_picks.are.whole)

pub returns-in_default-clause-goes : goal.returns-in_default-clause-goes
returns-in_default-clause-goes c = λ seen h.
    subst (HasGoneOn c.next_event.new.tracer seen) c.in_default.is (c.in_ok-event.ensures.next seen h.traced)

pub returns-in_default-clause-counts : goal.returns-in_default-clause-counts
returns-in_default-clause-counts c =
    let w = c.args.self.now in
    let t = c.next_event.new.tracer in
    let same = c.in_ok-event.ensures.same in
    let counting = c.requires.counting in
    let stands = same_picks w.tracer t c.args.picks.now same.work same.plan same.rec_is c.requires.of_picks in
    counts_all w (record w { tracer = t }) c.args.picks.now stands c.interleaving_law.ensures.reservations
    (c.replay_law.ensures.one (record_traced t)) counting
    (subst (HasGoneOn t counting.0) c.in_default.is (c.in_ok-event.ensures.next counting.0 counting.1.traced))

pub returns-in_default-clause-same : goal.returns-in_default-clause-same
returns-in_default-clause-same c =
    let same = c.in_ok-event.ensures.same in
    record { work_is = same.work; plan_is = same.plan; rec_is = same.rec_is }

pub overflow_add-self : goal.overflow_add-self
overflow_add-self c =
    let w = c.args.self.now in
    let t = c.next_event.new.tracer in
    let x = traced_of c.in-Some.event in
    let same = c.in_ok-event.ensures.same in
    let counting = c.requires.counting in
    let stands = same_picks w.tracer t c.args.picks.now same.work same.plan same.rec_is c.requires.of_picks in
    let traced : HasTraced t (counting.0 ++ x ∷ []) =
    subst (HasGoneOn t counting.0) c.in-Some.is (c.in_ok-event.ensures.next counting.0 counting.1.traced) in
    let fits = more_fits w t x c.pick_of.result c.args.picks.now stands c.interleaving_law.ensures.reservations
    (c.replay_law.ensures.one (record_traced t)) counting traced c.pick_of.ensures in
    let made : c.from.result ≡ bool_byte (is_some c.pick_of.result) =
    c.from.ensures ∙ ap bool_byte c.is_some-makes.ensures in
    omega (arith, fits, made, c.count_of-most.ensures.value, c.count_of-most.ensures.room)

pub returns-clause-goes : goal.returns-clause-goes
returns-clause-goes c = λ seen h.
    let t = c.next_event.new.tracer in
    let x = traced_of c.in-Some.event in
    let traced : HasTraced t (seen ++ x ∷ []) =
    subst (HasGoneOn t seen) c.in-Some.is (c.in_ok-event.ensures.next seen h.traced) in
    walked_on c.args.self.now _ seen x c.pick_of.result h traced c.pick_of.ensures
    (ap (λ n. c.args.self.now.picks + n) (c.from.ensures ∙ ap bool_byte c.is_some-makes.ensures)) refl c.is_some-makes.ensures

pub returns-clause-makes : goal.returns-clause-makes
returns-clause-makes c =
    makes_one c.args.self.now.picks _ c.is_some-makes.result c.is_some-makes.result
    (ap (λ n. c.args.self.now.picks + n) c.from.ensures) refl

pub returns-clause-counts : goal.returns-clause-counts
returns-clause-counts c =
    let w = c.args.self.now in
    let t = c.next_event.new.tracer in
    let x = traced_of c.in-Some.event in
    let same = c.in_ok-event.ensures.same in
    let counting = c.requires.counting in
    let stands = same_picks w.tracer t c.args.picks.now same.work same.plan same.rec_is c.requires.of_picks in
    let traced : HasTraced t (counting.0 ++ x ∷ []) =
    subst (HasGoneOn t counting.0) c.in-Some.is (c.in_ok-event.ensures.next counting.0 counting.1.traced) in
    let fits = more_fits w t x c.pick_of.result c.args.picks.now stands c.interleaving_law.ensures.reservations
    (c.replay_law.ensures.one (record_traced t)) counting traced c.pick_of.ensures in
    let made : c.from.result ≡ bool_byte (is_some c.pick_of.result) =
    c.from.ensures ∙ ap bool_byte c.is_some-makes.ensures in
    omega (arith, fits, made)

pub returns-clause-same : goal.returns-clause-same
returns-clause-same c =
    let same = c.in_ok-event.ensures.same in
    record { work_is = same.work; plan_is = same.plan; rec_is = same.rec_is }

pub returns-clause-fewer : goal.returns-clause-fewer
returns-clause-fewer c =
    subst (IsFewer c.args.self.now.tracer c.next_event.new.tracer) c.in-Some.is c.in_ok-event.ensures.fewer
