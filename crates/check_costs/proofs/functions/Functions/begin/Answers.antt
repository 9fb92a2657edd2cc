use Rattle.std.proofs.Common.{◌+◌, ◌<◌, ◌≤◌, length, get_or, refl, sym, ap, ◌∙◌, arith}
use Rattle.check_costs.proofs.Sweeping.{opened, next_ahead, no_next}
use Rattle.check_costs.proofs.functions.Functions.begin.Goals as goal

pub returns-then-function-address : goal.returns-then-function-address
returns-then-function-address c =
    let f = c.loop-number.self in
    let next = c.loop-number.invariant.next in
    let count = ap (λ v. length v.items) c.loop-number.invariant.sorted ∙ sym c.args.self.now.sorted.ok.0 in
    let low : f.begun < length f.sorted.items =
    omega (arith, next, count, c.loop-number-test.true, c.len-number-end.ensures) in record {
      begun = λ symbols before h le.
          next_ahead symbols c.args.address f c.index-function.result.now
          (c.loop-number.invariant.come symbols before h le) low
          (c.index-function.ensures
          ∙ ap (λ k. get_or f.sorted.items k c.index-function.result.now) (sym next))
          c.if-function-address.true;
    }

pub loop-number-preserved : goal.loop-number-preserved
loop-number-preserved c =
    let f = c.loop-number.self in
    let next = c.loop-number.invariant.next in
    let count = ap (λ v. length v.items) c.loop-number.invariant.sorted ∙ sym c.args.self.now.sorted.ok.0 in
    let low : f.begun < length f.sorted.items =
    omega (arith, next, count, c.loop-number-test.true, c.len-number-end.ensures) in record {
      sorted = c.loop-number.invariant.sorted;
      next = refl;
      come = λ symbols before h le.
          opened symbols c.args.address f _ c.index-function.result.now
          (c.loop-number.invariant.come symbols before h le) refl low
          (c.index-function.ensures
          ∙ ap (λ k. get_or f.sorted.items k c.index-function.result.now) (sym next))
          c.if-function-address.false (ap (λ k. k + 1) (sym next)) c.in_ok-push.ensures.items;
    }

pub returns : goal.returns
returns c =
    let f = c.loop-number.self in
    let next = c.loop-number.invariant.next in
    let count = ap (λ v. length v.items) c.loop-number.invariant.sorted ∙ sym c.args.self.now.sorted.ok.0 in
    let all : length f.sorted.items ≤ f.begun =
    omega (arith, next, count, c.loop-number-test.false, c.len-number-end.ensures) in record {
      begun = λ symbols before h le.
          no_next symbols c.args.address f (c.loop-number.invariant.come symbols before h le) all;
    }
