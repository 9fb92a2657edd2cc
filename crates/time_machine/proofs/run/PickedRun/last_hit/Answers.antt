use Rattle.std.proofs.Common.{subst, arith}
use Rattle.time_machine.specs.Hits.{IsLatest}
use Rattle.time_machine.proofs.Kept.{hit_joined, none_joined}
use Rattle.time_machine.proofs.run.PickedRun.last_hit.Goals as goal

pub loop-end-init : goal.loop-end-init
loop-end-init c = record {
  within = omega arith;
  none = λ k low high. absurd (omega (arith, low, high));
}

pub returns-in-Some : goal.returns-in-Some
returns-in-Some c =
    let l = c.loop-end in
    hit_joined c.args.self.now c.args.stops.now c.in_ok-from.from.position l.end c.args.before c.in-Some.hit l.invariant.within
    (subst (IsLatest c.args.self.now c.args.stops.now c.in_ok-from.from.position l.end) c.in-Some.is c.in_ok-hit.ensures) l.invariant.none

pub loop-end-preserved : goal.loop-end-preserved
loop-end-preserved c =
    let l = c.loop-end in
    let before = c.in_ok-from.ensures.before in
    let within = l.invariant.within in
    let some = c.loop-end-test.true in
    record {
      within = omega (arith, before, within, some);
      none = none_joined c.args.self.now c.args.stops.now _ l.end c.args.before
          (subst (IsLatest c.args.self.now c.args.stops.now _ l.end) c.in_default.is c.in_ok-hit.ensures) l.invariant.none;
    }

pub returns : goal.returns
returns c = λ k low high. c.loop-end.invariant.none k (omega (arith, c.loop-end-test.false)) high
