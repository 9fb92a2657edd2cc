-- By its three parts, and by the law of bounds.
use Rattle.std.proofs.Common.{◌∙◌, sym, ap, subst}
use Rattle.run_order.specs.node_model.Node.{Node, end_of}
use Rattle.run_order.specs.node_model.Core.{opening_core, after}
use Rattle.run_order.specs.node_model.Outcome.{AreFrugal}
use Rattle.run_order.specs.OwnRun.{run_of}
use Rattle.dsm_core.specs.CoreParts.{work_of, core_of}
use Rattle.dsm_core.proofs.Printing.{same_below}
use Rattle.dsm_core.proofs.cores.Core.outcome.Goals as goal

pub returns : goal.returns
returns c =
    let p = c.args.self.now in
    let work = work_of p in
    let own = c.promises.ensures.own_run in
    let run = c.promises.ensures.rewritten in
    let events = run_of own.0 in
    let last = after work (opening_core work) events in
    let alike = own.1.ends in
    let counts = c.in_ok-counts.ensures
    ∙ sym (same_below work.layout.nodes (λ (n : Node). n.counts) last (core_of p) alike) in
    record {
      outcome = (
        own.0,
        own.1,
        record {
          output = c.in_ok-output.ensures own.0 own.1;
          ends = same_below work.layout.nodes (λ (n : Node). end_of n.phase) last (core_of p) alike
              ∙ sym c.in_ok-ends.ensures;
          counts = counts;
        },
      );
      messages = subst (AreFrugal work.layout.nodes) (sym counts)
          (c.bounds_law.ensures.messages work run.plan events run.accepted run.valid run.laid_over
          run.rewriting own.1.is_run);
      work = λ events plan i budget stands rewriting low is.
          c.bounds_law.ensures.work work plan (run_of events) i budget run.accepted run.valid
          run.laid_over rewriting stands.is_run low
          (ap (λ (n : Node). n.phase) (sym (stands.ends.nodes i low)) ∙ is);
      polls = λ events plan i stands rewriting low.
          c.bounds_law.ensures.polls work plan (run_of events) i run.accepted run.valid
          run.laid_over rewriting stands.is_run low;
    }
