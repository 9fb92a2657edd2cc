-- One pick after another.
use Rattle.std.proofs.Common.{◌<◌, ◌++◌, subst, arith}
use Rattle.recorded_run.specs.Walks.{CountsPicks, GoesOn, MakesOne}
use Rattle.event_text.specs.run_trace.Tracing.{IsFewer}
use Rattle.recorded_run.proofs.Along.{comes_before_end, coming_on, is_coming, same_picks, stands_there}
use Rattle.recorded_run.proofs.walk.Walk.go_to.Goals as goal

pub loop-self-init : goal.loop-self-init
loop-self-init c =
    is_coming c.args.self.now c.args.picks.now c.args.position c.requires.walking c.requires.of_picks c.requires.comes

pub make_silent-requires : goal.make_silent-requires
make_silent-requires c =
    let way = c.loop-self.invariant in
    record { counting = (way.walking.0, way.walking.1.counted); few = omega arith }

pub next-requires : goal.next-requires
next-requires c =
    let way = c.loop-self.invariant in
    let on = c.make_silent.ensures.counted way.walking.0 way.walking.1.counted in
    let same = c.make_silent.ensures.same in
    record {
      counting = (way.walking.0 ++ on.0, on.1);
      of_picks = same_picks c.loop-self.self.tracer c.make_silent.new.self.tracer c.args.picks.now same.work_is same.plan_is
          same.rec_is way.of_picks;
    }

pub unreachable-requires : goal.unreachable-requires
unreachable-requires c =
    let s = c.make_silent.new.self in
    let u = c.next.new.self in
    let few = c.make_silent.ensures.few in
    let below : s.picks < c.args.position = omega (arith, few) in
    comes_before_end s u c.args.picks.now c.args.position below c.requires.within
    (subst (MakesOne s u) c.in_default.is c.in_ok-next.ensures.makes)
    (subst (CountsPicks u c.args.picks.now) c.in_default.is c.in_ok-next.ensures.counts)

pub loop-self-preserved : goal.loop-self-preserved
loop-self-preserved c =
    let w = c.loop-self.self in
    let s = c.make_silent.new.self in
    let u = c.next.new.self in
    let way = c.loop-self.invariant in
    let on = c.make_silent.ensures.counted way.walking.0 way.walking.1.counted in
    let seen = way.walking.0 ++ on.0 in
    let few = c.make_silent.ensures.few in
    let below : s.picks < c.args.position = omega (arith, few) in
    coming_on c.args.self.now w s u c.args.picks.now c.args.position _ seen way c.make_silent.ensures.same below
    (subst (GoesOn u seen) c.in-Some.is (c.in_ok-next.ensures.goes seen on.1))
    (subst (MakesOne s u) c.in-Some.is c.in_ok-next.ensures.makes) c.in_ok-next.ensures.same

pub loop-self-smaller : goal.loop-self-smaller
loop-self-smaller c =
    let s = c.make_silent.new.self in
    let u = c.next.new.self in
    let left = c.make_silent.ensures.left in
    let fewer = subst (IsFewer s.tracer u.tracer) c.in-Some.is c.in_ok-next.ensures.fewer in
    omega (arith, left, fewer)

pub returns : goal.returns
returns c =
    let w = c.loop-self.self in
    let way = c.loop-self.invariant in
    record {
      there = (
        way.walking.0,
        way.walking.1,
        stands_there w way.walking.0 c.args.position way.walking.1 way.comes (λ low. omega arith),
      );
      same = way.same;
    }
