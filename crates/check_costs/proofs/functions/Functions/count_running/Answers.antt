use Rattle.std.proofs.Common.{◌≡◌, ◌+◌, ◌-◌, ◌<◌, ◌≤◌, ◌++◌, length, take, ap, ◌∙◌, arith}
use Rattle.check_costs.specs.Sweep.{last_at}
use Rattle.check_costs.proofs.Sweeping.{one_less}
use Rattle.check_costs.proofs.functions.Functions.count_running.Goals as goal

pub loop-count-preserved : goal.loop-count-preserved
loop-count-preserved c =
    let running = c.args.self.now.running.items in
    let n = c.loop-count.count in
    let some = c.loop-count.invariant.some in
    let positive = c.loop-count-test.true in
    let low : n - 1 < length running = omega (arith, some, positive) in
    let same : n - 1 + 1 ≡ n = omega (arith, positive) in record {
      some = omega (arith, low);
      same = λ ahead a le.
          let over : c.index.result.now.end ≤ a = omega (arith, le, c.if-index-from.false, c.from.ensures) in
          one_less running (n - 1) c.index.result.now ahead a low c.index.ensures over
          ∙ ap (λ k. last_at a (take k running ++ ahead)) same
          ∙ c.loop-count.invariant.same ahead a le;
    }
