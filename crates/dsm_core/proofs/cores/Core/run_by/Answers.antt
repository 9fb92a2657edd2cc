-- Words of the nodes and lists are those of the core.
use Rattle.std.proofs.Common.{subst}
use Rattle.dsm_core.specs.CoreParts.{CoreParts, work_of, core_of}
use Rattle.dsm_core.proofs.CoreRuns.{is_gone}
use Rattle.dsm_core.proofs.Words.{passed_words_go}
use Rattle.dsm_core.proofs.cores.Core.run_by.Goals as goal

pub invariant_of-self : goal.invariant_of-self
invariant_of-self g c =
    let p = c.self.inside.parts in
    let q = c.run_by.new.self in
    is_gone p q c.self.invariant c.run_by.ensures.parts c.run_by.ensures.work
    (passed_words_go (work_of p) c.args.node c.run_by.result (core_of p) (core_of q)
    c.run_by.ensures.passed)

pub returns-clause-learns : goal.returns-clause-learns
returns-clause-learns g c =
    subst (λ (q : CoreParts). g.L.WordLoop.learns (work_of q) c.run_by.result ((core_of q).nodes c.args.node) c.args.by.now
    c.run_by.new.by) c.self.view_is c.run_by.ensures.learns
