use Rattle.std.proofs.Common.{true, false, [], subst}
use Rattle.run_trace.specs.Tracing.{record_traced, work_traced}
use Rattle.views.specs.Page.{HasAddedMore, HasAddedOn}
use Rattle.views.proofs.Lines.{same_self, tells_by}
use Rattle.views.proofs.Pages.{IsGathered, added, all_gathered, full_gathered}
use Rattle.views.proofs.page.shown_events.Goals as goal

pub loop-events-init : goal.loop-events-init
loop-events-init c = record {
  seen = [];
  traced = c.requires.start;
  same = same_self c.args.tracer.now;
  kept_is = c.new-events.ensures;
}

pub add_next-requires-clause-traced : goal.add_next-requires-clause-traced
add_next-requires-clause-traced c = (c.loop-events.invariant.seen, c.loop-events.invariant.traced)

pub add_next-requires-clause-whole : goal.add_next-requires-clause-whole
add_next-requires-clause-whole c =
    let first = c.args.tracer.now in
    tells_by c.loop-events.tracer (work_traced first) (record_traced first) c.loop-events.invariant.same.work
    c.loop-events.invariant.same.rec_is c.requires.whole

pub loop-events-preserved : goal.loop-events-preserved
loop-events-preserved c =
    let o = c.args.options.now in
    let u = c.add_next.new.tracer in
    let now = c.add_next.new.events in
    let way = c.loop-events.invariant in
    let more : HasAddedMore o u way.seen now =
    subst (HasAddedOn o u way.seen now) c.if-branch.true
    (c.in_ok-add_next.ensures.next way.seen way.traced way.kept_is) in
    added o c.args.tracer.now c.loop-events.tracer u c.loop-events.events now way c.in_ok-add_next.ensures.same more

-- the page is full
pub returns-then-is_full : goal.returns-then-is_full
returns-then-is_full c = λ trace whole.
    let first = c.args.tracer.now in
    let o = c.args.options.now in
    let u = c.add_next.new.tracer in
    let now = c.add_next.new.events in
    let way = c.loop-events.invariant in
    let more : HasAddedMore o u way.seen now =
    subst (HasAddedOn o u way.seen now) c.if-branch.true
    (c.in_ok-add_next.ensures.next way.seen way.traced way.kept_is) in
    let all : IsGathered o first u now =
    added o first c.loop-events.tracer u c.loop-events.events now way c.in_ok-add_next.ensures.same more in
    full_gathered o first u now trace (c.replay_law.ensures.one (record_traced u)) all
    (c.is_full.ensures.full c.if-is_full.true) whole

pub returns : goal.returns
returns c = λ trace whole.
    let o = c.args.options.now in
    let u = c.add_next.new.tracer in
    let now = c.add_next.new.events in
    let way = c.loop-events.invariant in
    let none : HasAddedOn o u way.seen now false =
    subst (HasAddedOn o u way.seen now) c.if-branch.false
    (c.in_ok-add_next.ensures.next way.seen way.traced way.kept_is) in
    all_gathered o c.args.tracer.now c.loop-events.tracer u c.loop-events.events now trace way
    c.in_ok-add_next.ensures.same none.0 none.1 whole
