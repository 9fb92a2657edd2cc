-- One event after another, up to a miss.
use Rattle.std.proofs.Common.{subst, sym, ◌∙◌}
use Rattle.event_text.specs.run_trace.Tracing.{IsFewer}
use Rattle.recorded_run.specs.Walks.{CountsPicks, GoesOn}
use Rattle.recorded_run.proofs.Along.{counted_there, is_seeking, seeking_on, seeks_there, seeks_to_end, stays}
use Rattle.recorded_run.proofs.walk.Walk.go_to_miss.Goals as goal

pub loop-event-init : goal.loop-event-init
loop-event-init c = is_seeking c.args.self.now c.args.picks.now c.requires.of_picks

pub next-requires : goal.next-requires
next-requires c = record {
  counting = counted_there c.args.self.now c.loop-event.self c.args.picks.now c.loop-event.invariant c.requires.walking;
  of_picks = c.loop-event.invariant.of_picks;
}

pub returns-then-is_miss-clause-goes : goal.returns-then-is_miss-clause-goes
returns-then-is_miss-clause-goes c = λ seen h.
    let w = c.loop-event.self in
    let u = c.next.new.self in
    seeks_there c.args.self.now w u c.args.picks.now c.in-Some.event c.loop-event.invariant
    (λ l k. subst (GoesOn u l) c.in-Some.is (c.in_ok-event.ensures.goes l k)) (sym c.is_miss.ensures ∙ c.if-is_miss.true) seen h

pub returns-then-is_miss-clause-counts : goal.returns-then-is_miss-clause-counts
returns-then-is_miss-clause-counts c =
    subst (CountsPicks c.next.new.self c.args.picks.now) c.in-Some.is c.in_ok-event.ensures.counts

pub returns-then-is_miss-clause-same : goal.returns-then-is_miss-clause-same
returns-then-is_miss-clause-same c =
    stays c.args.self.now c.loop-event.self c.next.new.self c.loop-event.invariant.same c.in_ok-event.ensures.same

pub loop-event-preserved : goal.loop-event-preserved
loop-event-preserved c =
    let w = c.loop-event.self in
    let u = c.next.new.self in
    seeking_on c.args.self.now w u c.args.picks.now c.in-Some.event c.loop-event.invariant
    (λ l k. subst (GoesOn u l) c.in-Some.is (c.in_ok-event.ensures.goes l k)) c.in_ok-event.ensures.same
    (sym c.is_miss.ensures ∙ c.if-is_miss.false)

pub loop-event-smaller : goal.loop-event-smaller
loop-event-smaller c =
    subst (IsFewer c.loop-event.self.tracer c.next.new.self.tracer) c.in-Some.is c.in_ok-event.ensures.fewer

pub returns-clause-goes : goal.returns-clause-goes
returns-clause-goes c = λ seen h.
    let w = c.loop-event.self in
    let u = c.next.new.self in
    seeks_to_end c.args.self.now w u c.args.picks.now c.loop-event.invariant
    (λ l k. subst (GoesOn u l) c.in_default.is (c.in_ok-event.ensures.goes l k)) seen h

pub returns-clause-counts : goal.returns-clause-counts
returns-clause-counts c =
    subst (CountsPicks c.next.new.self c.args.picks.now) c.in_default.is c.in_ok-event.ensures.counts

pub returns-clause-same : goal.returns-clause-same
returns-clause-same c =
    stays c.args.self.now c.loop-event.self c.next.new.self c.loop-event.invariant.same c.in_ok-event.ensures.same
