use Rattle.std.proofs.Common.{◌<◌, ◌≤◌, refl, sym, ◌∙◌, subst, arith}
use Rattle.std.specs.Prelude.{length}
use Rattle.time_machine.specs.Stand.{Run}
use Rattle.time_machine.proofs.Moved.{IsOneMore, goes_on, goes_through, stops_there}
use Rattle.time_machine.proofs.machine.TimeMachine.forward_to_stop.Goals as goal

pub loop-made-init : goal.loop-made-init
loop-made-init c = record {
  run_is = refl;
  from_there = omega arith;
  within = c.requires.ahead;
  none = λ k low high. absurd (omega (arith, low, high));
  made_is = c.next_step-made.ensures;
}

pub advance-requires : goal.advance-requires
advance-requires c =
    let way = c.loop-made.invariant in
    let high = subst (λ (r : Run). c.args.to ≤ length r.picks) (sym way.run_is) c.requires.within in
    omega (arith, high, c.loop-made-test.true, c.position.ensures.value)

pub returns-in-Some-clause-ends : goal.returns-in-Some-clause-ends
returns-in-Some-clause-ends c =
    let s = c.loop-made.self in
    let t = c.advance.new.self in
    let first = c.args.self.now in
    let more : IsOneMore s t c.next_step-next.result c.in_ok-came.came = record {
      run_is = c.advance.ensures.run;
      position_is = c.in_ok-came.ensures.ok;
      next_is = c.next_step-next.ensures;
      came_is = c.in_ok-came.ensures.came;
    } in
    let below : s.position < c.args.to = omega (arith, c.loop-made-test.true, c.position.ensures.value) in
    stops_there first.run c.args.stops.now first.position c.args.to c.loop-made.made c.next_step-next.result c.in_ok-came.came s t c.loop-made.invariant more below
    c.in-Some.stop (sym c.in-Some.is ∙ c.first_met.ensures)

pub loop-made-preserved : goal.loop-made-preserved
loop-made-preserved c =
    let s = c.loop-made.self in
    let t = c.advance.new.self in
    let first = c.args.self.now in
    let more : IsOneMore s t c.next_step-next.result c.in_ok-came.came = record {
      run_is = c.advance.ensures.run;
      position_is = c.in_ok-came.ensures.ok;
      next_is = c.next_step-next.ensures;
      came_is = c.in_ok-came.ensures.came;
    } in
    let below : s.position < c.args.to = omega (arith, c.loop-made-test.true, c.position.ensures.value) in
    goes_on first.run c.args.stops.now first.position c.args.to c.loop-made.made c.next_step-next.result c.in_ok-came.came s t c.loop-made.invariant more below
    (sym c.in_default.is ∙ c.first_met.ensures)

pub returns-clause-ends : goal.returns-clause-ends
returns-clause-ends c =
    let s = c.loop-made.self in
    let first = c.args.self.now in
    goes_through first.run c.args.stops.now first.position c.args.to c.loop-made.made s c.loop-made.invariant
    (omega (arith, c.loop-made-test.false, c.position.ensures.value))
