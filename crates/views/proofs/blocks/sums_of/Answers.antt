use Rattle.std.proofs.Common.{[], ◌∷◌, ◌++◌, subst}
use Rattle.run_trace.specs.declared.passed.Until.TheVariants as until
use Rattle.run_trace.specs.Given.{traced_of}
use Rattle.run_trace.specs.Passing.{HasPassedOn}
use Rattle.run_trace.specs.Tracing.{HasGoneOn, HasTraced}
use Rattle.views.proofs.Lines.{same_self}
use Rattle.views.proofs.Summed.{IsSummed, event_summed, passed_summed, whole_summed, word_summed}
use Rattle.views.proofs.blocks.sums_of.Goals as goal

pub loop-word-init : goal.loop-word-init
loop-word-init c = record {
  seen = [];
  traced = c.requires.start;
  same = same_self c.args.tracer.now;
  sums = c.in_ok-sums.ensures.none;
  layout_is = c.in_ok-sums.ensures.layout;
}

-- a word ended the pass
pub loop-word-preserved-in-Continue-branch-2 : goal.loop-word-preserved-in-Continue-branch-2
loop-word-preserved-in-Continue-branch-2 c =
    let way = c.loop-word.invariant in
    let u = c.run_until.new.self in
    word_summed c.args.tracer.now c.loop-word.tracer u c.args.layout.now c.loop-word.sums c.add_passed.new.self
    c.in-Some.word way c.run_until.ensures.same
    (subst (HasPassedOn until.Write u way.seen) c.in-Some.is (c.run_until.ensures.passed way.seen way.traced))
    (λ more passed. c.laws.ensures.passed way.seen more way.sums passed)
    c.in_ok-add_passed.ensures.more c.in_ok-add_passed.ensures.layout

pub next-requires : goal.next-requires
next-requires c =
    let way = c.loop-word.invariant in
    let passed = c.run_until.ensures.passed way.seen way.traced in
    record { traced = (_, passed.traced) }

-- an event that does more came behind the words that were passed
pub loop-word-preserved : goal.loop-word-preserved
loop-word-preserved c =
    let first = c.args.tracer.now in
    let way = c.loop-word.invariant in
    let t = c.run_until.new.self in
    let u = c.next.new.self in
    let x = traced_of c.in-Some-2.event in
    let behind : IsSummed first t c.args.layout.now c.loop-word.sums =
    passed_summed first c.loop-word.tracer t c.args.layout.now c.loop-word.sums way c.run_until.ensures.same
    (subst (HasPassedOn until.Write t way.seen) c.in_default.is (c.run_until.ensures.passed way.seen way.traced))
    (λ more passed. c.laws.ensures.passed way.seen more way.sums passed) in
    let traced : HasTraced u (behind.seen ++ x ∷ []) =
    subst (HasGoneOn u behind.seen) c.in-Some-2.is (c.in_ok-event.ensures.next behind.seen behind.traced) in
    event_summed first t u c.args.layout.now c.loop-word.sums c.add.new.self x behind c.in_ok-event.ensures.same traced
    (c.in_ok-add.ensures.more behind.seen behind.sums) c.in_ok-add.ensures.layout

pub returns-in_default-2-clause-sums : goal.returns-in_default-2-clause-sums
returns-in_default-2-clause-sums c =
    let first = c.args.tracer.now in
    let way = c.loop-word.invariant in
    let t = c.run_until.new.self in
    let u = c.next.new.self in
    let behind : IsSummed first t c.args.layout.now c.loop-word.sums =
    passed_summed first c.loop-word.tracer t c.args.layout.now c.loop-word.sums way c.run_until.ensures.same
    (subst (HasPassedOn until.Write t way.seen) c.in_default.is (c.run_until.ensures.passed way.seen way.traced))
    (λ more passed. c.laws.ensures.passed way.seen more way.sums passed) in (
      behind.seen,
      whole_summed first t u c.args.layout.now c.loop-word.sums behind c.in_ok-event.ensures.same
          (subst (HasGoneOn u behind.seen) c.in_default-2.is (c.in_ok-event.ensures.next behind.seen behind.traced)),
      behind.sums,
    )
