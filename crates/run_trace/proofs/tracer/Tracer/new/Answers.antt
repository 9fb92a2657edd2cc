-- Nothing was made yet.
use Rattle.std.proofs.Common.{[], refl, subst, sym}
use Rattle.replay.specs.node_model.Node.{Work}
use Rattle.replay.specs.dsm_core.CoreParts.{work_in}
use Rattle.run_trace.specs.Kinds.{AreKindsOf}
use Rattle.run_trace.proofs.tracer.Tracer.new.Goals as goal

pub returns-clause-start : goal.returns-clause-start
returns-clause-start c = record {
  before = [];
  made = c.in_ok-new.ensures.made;
  kinds = subst (λ (w : Work). AreKindsOf w.program c.args.plan.now w.image c.in_ok-of.field-0) (sym c.in_ok-new.ensures.work)
      (c.in_ok-of.ensures (work_in c.args.work.now).program c.requires.code);
  seen_is = refl;
}
