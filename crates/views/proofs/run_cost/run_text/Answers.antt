use Rattle.std.proofs.Common.{subst}
use Rattle.prepared_run.specs.Ready.{work_for}
use Rattle.run_costs.specs.Costs.{AreCostsOf}
use Rattle.views.proofs.Summed.{IsRefusedAt}
use Rattle.views.proofs.run_cost.run_text.Goals as goal

pub returns-in-Ok-clause-ok : goal.returns-in-Ok-clause-ok
returns-in-Ok-clause-ok c =
    let symbols = c.args.symbols.now in
    let kept = c.args.kept.now in
    let counts = c.in-Ok.costs.counts.items in
    let nodes = c.in-Ok.costs.nodes.items in
    record {
      counts = counts;
      nodes = nodes;
      costs = subst (λ p. AreCostsOf symbols (work_for c.args.prepared.now) p kept counts nodes) c.plan-plan.ensures.value
          (subst (λ w. AreCostsOf symbols w c.plan-plan.result.now kept counts nodes) c.work.ensures.value
          c.in-Ok.ensures.costs);
      text_is = c.in_ok-text_of-in-Ok.ensures;
    }

pub returns-clause-refused : goal.returns-clause-refused
returns-clause-refused c =
    let kept = c.args.kept.now in
    let is = c.in-Err.is in
    c.refusal_of.ensures (work_for c.args.prepared.now) kept (λ rule node entry e.
    subst (λ w. IsRefusedAt w kept rule node entry) c.work.ensures.value
    (c.costs_of_record.ensures.refused rule node entry (cc)))
