use Rattle.std.proofs.Common.{◌≡◌, ◌<◌, length, ◌∙◌, ap, arith}
use Rattle.random_order.specs.Orders.{following, choice}
use Rattle.one_memory.proofs.OrderLemmas.{few_picked, falls, leads_on}
use Rattle.one_memory.proofs.by_order.OriginalRun.execute.Goals as goal

pub overflow_cast-len : goal.overflow_cast-len
overflow_cast-len c =
    let few = few_picked c.loop-order.self c.loop-order.invariant.running in
    grind (arith, few, c.len.ensures)

pub next-place-requires-clause-few : goal.next-place-requires-clause-few
next-place-requires-clause-few c =
    let few = few_picked c.loop-order.self c.loop-order.invariant.running in
    grind (arith, few, c.len.ensures)

pub loop-order-smaller : goal.loop-order-smaller
loop-order-smaller c =
    let s = c.in_ok-step.ensures in
    let within : c.next-place.result < length c.loop-order.self.live.items = grind (arith, c.next-place.ensures.among, c.len.ensures) in
    falls c.loop-order.self c.next-place.result c.step.new.self
    (record { running = c.loop-order.invariant.running; within = within; state = s.state; steps = s.steps; original = s.original; budget = s.budget })

pub loop-order-preserved : goal.loop-order-preserved
loop-order-preserved c =
    let s = c.in_ok-step.ensures in
    let old = c.loop-order.invariant in
    let len : c.len-in-loop-order.result ≡ length c.loop-order.self.live.items = grind (arith, c.len-in-loop-order.ensures) in
    let within : c.next-place.result < length c.loop-order.self.live.items = grind (arith, c.next-place.ensures.among, len) in
    record {
      running = s.running;
      nodes = s.nodes ∙ old.nodes;
      budget = s.budget ∙ old.budget;
      original = s.original ∙ old.original;
      so_far = leads_on c.args.self.now c.args.order.now c.loop-order.self c.loop-order.order c.next-place.result c.step.new.self c.next-place.new.self
          (record { running = old.running; within = within; state = s.state; steps = s.steps; original = s.original; budget = s.budget })
          (c.next-place.ensures.chooses ∙ ap (λ n. choice n (following c.loop-order.order)) len) c.next-place.ensures.goes_on old.so_far;
    }

pub returns-in_ok-run_alone-clause-run : goal.returns-in_ok-run_alone-clause-run
returns-in_ok-run_alone-clause-run c =
    c.loop-order.invariant.so_far _ (c.in_ok-run_alone.ensures.run c.loop-order.order)
