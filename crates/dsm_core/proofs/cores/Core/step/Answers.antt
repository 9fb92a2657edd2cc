-- An event of the nodes and lists is one of the core.
use Rattle.std.proofs.Common.{sym, subst}
use Rattle.run_order.specs.node_model.Core.{May}
use Rattle.dsm_core.specs.CoreParts.{CoreParts, work_of, core_of, event_of}
use Rattle.dsm_core.proofs.CoreRuns.{is_made}
use Rattle.dsm_core.proofs.cores.Core.step.Goals as goal

pub invariant_of-self : goal.invariant_of-self
invariant_of-self c =
    let may = subst (λ (q : CoreParts). May (work_of q) (core_of q) (event_of c.args.event))
    (sym c.self.view_is) c.requires.enabled in
    is_made c.make.result c.self.inside.parts c.make.new.self (event_of c.args.event)
    c.self.invariant may c.make.ensures.parts c.make.ensures.work c.make.ensures.event
    c.make.ensures.err
