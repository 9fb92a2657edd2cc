-- By its three parts.
use Rattle.std.proofs.Common.{◌∙◌, ap, subst}
use Rattle.smp_sim.specs.CoreParts.{CoreParts, IsCore}
use Rattle.dsm_core.specs.CoreParts.{outcome_of}
use Rattle.smp_sim.proofs.Ends.{outcome_is}
use Rattle.smp_sim.proofs.cores.SmpCore.outcome.Goals as goal

pub returns : goal.returns
returns c = record {
  outcome = λ run to.
      let p = c.args.self.now in
      let is = subst IsCore c.self.view_is c.self.invariant in
      outcome_is p run (outcome_of (record {
        output = c.in_ok-output.output;
        ends = c.in_ok-ends.ends;
        counts = c.in_ok-counts.counts;
      })) is.work.some
      (c.in_ok-output.ensures.items_if_clones_equal (λ x y e. e) ∙ c.deref.ensures.value
      ∙ ap (λ (q : CoreParts). q.output) c.self.view_is)
      c.in_ok-ends.ensures c.in_ok-counts.ensures to;
}
