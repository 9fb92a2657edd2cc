-- Silent words, and the event behind them.
use Rattle.std.proofs.Common.{◌≡◌, [], ◌∷◌, ◌++◌, Err, ap, sym, ◌∙◌, subst}
use Rattle.std.proofs.lemmas.Result.{err_from_is_err_and}
use Rattle.std.specs.Prelude.{map}
use Rattle.one_memory.specs.Shown.{pick_of}
use Rattle.run_trace.specs.Given.{traced_of}
use Rattle.run_trace.specs.Tracing.{HasGoneOn, HasTraced}
use Rattle.run_trace.specs.replay.declared.refused.ReplayRefused.TheVariants.{Broken}
use Rattle.run_trace.specs.replay.dsm_core.CoreParts.{work_in}
use Rattle.record_picks.proofs.Ways.{picked_on, picked_more, all_picked, all_allowed, refused_by}
use Rattle.record_picks.proofs.picks_of_record.Goals as goal

pub loop-picks-init : goal.loop-picks-init
loop-picks-init c = record {
  seen = [];
  traced = c.in_ok-tracer.ensures.start;
  picks_are = ap (map pick_of) c.new-picks.ensures.items;
  work_is = c.in_ok-tracer.ensures.work;
  plan_is = c.in_ok-tracer.ensures.plan;
  rec_is = c.in_ok-tracer.ensures.rec;
}

pub push_silent-requires : goal.push_silent-requires
push_silent-requires c = record { traced = (c.loop-picks.invariant.seen, c.loop-picks.invariant.traced) }

pub next-requires : goal.next-requires
next-requires c =
    let way = c.loop-picks.invariant in
    let on = c.in_ok-push_silent.ensures.picked way.seen way.traced in
    record { traced = (way.seen ++ on.more, on.traced) }

pub loop-picks-preserved : goal.loop-picks-preserved
loop-picks-preserved c =
    let before = c.loop-picks.invariant in
    let t = c.push_silent.new.tracer in
    let u = c.next.new.self in
    let way = picked_on (work_in c.args.work.now) c.args.plan.now c.args.rec.now c.loop-picks.tracer t _ _ before
    c.in_ok-push_silent.ensures.same (c.in_ok-push_silent.ensures.picked before.seen before.traced) in
    let x = traced_of c.in-Some.event in
    let traced : HasTraced u (way.seen ++ x ∷ []) =
    subst (HasGoneOn u way.seen) c.in-Some.is (c.in_ok-event.ensures.next way.seen way.traced) in
    picked_more (work_in c.args.work.now) c.args.plan.now c.args.rec.now t u _ _ x way
    c.in_ok-event.ensures.same traced
    (c.in_ok-push_if.ensures ∙ ap (λ l. map pick_of c.push_silent.new.picks.items ++ l) c.pick_of.ensures)

pub returns-in_default-clause-picks : goal.returns-in_default-clause-picks
returns-in_default-clause-picks c =
    let before = c.loop-picks.invariant in
    let t = c.push_silent.new.tracer in
    let u = c.next.new.self in
    let way = picked_on (work_in c.args.work.now) c.args.plan.now c.args.rec.now c.loop-picks.tracer t _ _ before
    c.in_ok-push_silent.ensures.same (c.in_ok-push_silent.ensures.picked before.seen before.traced) in
    all_picked (work_in c.args.work.now) c.args.plan.now c.args.rec.now _ c.requires.rewritten c.requires.plan
    c.interleaving_law.ensures.reservations t u way c.in_ok-event.ensures.same
    (subst (HasGoneOn u way.seen) c.in_default.is (c.in_ok-event.ensures.next way.seen way.traced))

pub returns-in_default-clause-allowed : goal.returns-in_default-clause-allowed
returns-in_default-clause-allowed c =
    let before = c.loop-picks.invariant in
    let t = c.push_silent.new.tracer in
    let u = c.next.new.self in
    let work = work_in c.args.work.now in
    let way = picked_on work c.args.plan.now c.args.rec.now c.loop-picks.tracer t _ _ before
    c.in_ok-push_silent.ensures.same (c.in_ok-push_silent.ensures.picked before.seen before.traced) in
    all_allowed work c.args.plan.now c.args.rec.now _ c.requires.rewritten c.requires.plan c.interleaving_law.ensures.interleaves
    (all_picked work c.args.plan.now c.args.rec.now _ c.requires.rewritten c.requires.plan
    c.interleaving_law.ensures.reservations t u way c.in_ok-event.ensures.same
    (subst (HasGoneOn u way.seen) c.in_default.is (c.in_ok-event.ensures.next way.seen way.traced)))

pub returns-in_err-event-clause-refused : goal.returns-in_err-event-clause-refused
returns-in_err-event-clause-refused c = λ rule node entry is.
    let before = c.loop-picks.invariant in
    let same = c.in_ok-push_silent.ensures.same in
    let p = err_from_is_err_and c.from_residual-in_err-event.result c.from_residual-in_err-event.ensures.1 in
    let whole = sym p.1 ∙ is in
    let error : c.in_err-event.field-0.0 ≡ Broken rule node entry = cc (whole, p.2) in
    refused_by c.push_silent.new.tracer (work_in c.args.work.now) c.args.rec.now rule node entry
    (same.work ∙ before.work_is) (same.rec_is ∙ before.rec_is)
    (c.in_err-event.ensures.refused rule node entry (ap Err error))
