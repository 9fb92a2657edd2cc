use Rattle.std.proofs.Common.{◌≡◌, ◌+◌, ℕ, Option, ap, sym, ◌∙◌, subst, arith}
use Rattle.std.specs.Prelude.{position}
use Rattle.time_machine.specs.declared.run.Hit.{Hit}
use Rattle.time_machine.specs.declared.step.NextStep.{NextStep}
use Rattle.time_machine.specs.Hits.{IsLatest}
use Rattle.time_machine.specs.Stops.{is_hit}
use Rattle.time_machine.proofs.Moved.{latest_more}
use Rattle.time_machine.proofs.run.PickedRun.last_hit_from.Goals as goal

pub loop-k-init : goal.loop-k-init
loop-k-init c = record {
  original = c.requires.at.original;
  state = c.requires.at.state;
  latest = λ k low high. absurd (omega (arith, low, high));
}

pub loop-k-preserved : goal.loop-k-preserved
loop-k-preserved c =
    let r = c.args.self.now in
    let stops = c.args.stops.now in
    let l = c.loop-k in
    let hit = c.first_hit-hit.ensures ∙ ap (λ (n : Option NextStep). position (is_hit n) stops) c.step.ensures in
    record {
      original = c.make.ensures.original;
      state = c.in_ok-make.ensures.ok;
      latest = subst (λ (x : Option Hit). IsLatest r stops c.args.start (l.k + 1) x) (sym c.later-latest.ensures)
          (latest_more r stops c.args.start l.k l.latest c.first_hit-hit.result l.invariant.latest hit);
    }

pub returns : goal.returns
returns c =
    let l = c.loop-k in
    let ahead = c.requires.ahead in
    let all : l.k ≡ c.args.before = omega (arith, ahead, c.loop-k-test.false, l.auto.k-end) in
    subst (λ (n : ℕ). IsLatest c.args.self.now c.args.stops.now c.args.start n l.latest) all l.invariant.latest
