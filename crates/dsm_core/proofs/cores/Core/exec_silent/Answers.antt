-- A word of the nodes and lists is one of the core.
use Rattle.std.proofs.Common.{sym, subst}
use Rattle.run_order.specs.node_model.Core.{Exec, May}
use Rattle.dsm_core.specs.CoreParts.{CoreParts, work_of, core_of}
use Rattle.dsm_core.proofs.CoreRuns.{is_gone}
use Rattle.dsm_core.proofs.Words.{passed_goes}
use Rattle.dsm_core.proofs.cores.Core.exec_silent.Goals as goal

pub invariant_of-self : goal.invariant_of-self
invariant_of-self c =
    let p = c.self.inside.parts in
    let q = c.exec_silent.new.self in
    let may = subst (λ (q : CoreParts). May (work_of q) (core_of q) (Exec c.args.node))
    (sym c.self.view_is) c.requires.enabled in
    is_gone p q c.self.invariant c.exec_silent.ensures.parts c.exec_silent.ensures.work
    (passed_goes c.exec_silent.result (work_of p) c.args.node (core_of p) (core_of q) may
    c.exec_silent.ensures.passed c.exec_silent.ensures.kept)
