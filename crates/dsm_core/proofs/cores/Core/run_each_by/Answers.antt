-- Words of every node are those of the core.
use Rattle.std.proofs.Common.{IfOk, slice_index_or, subst}
use Rattle.dsm_core.specs.CoreParts.{CoreParts, work_of, core_of}
use Rattle.dsm_core.specs.CoreWords.{LearnsBelow}
use Rattle.dsm_core.proofs.CoreRuns.{is_gone}
use Rattle.dsm_core.proofs.UndoLogLemmas.{passed_or_kept}
use Rattle.dsm_core.proofs.cores.Core.run_each_by.Goals as goal

pub invariant_of-self : goal.invariant_of-self
invariant_of-self g c =
    let p = c.self.inside.parts in
    let q = c.run_each_by.new.self in
    is_gone p q c.self.invariant c.run_each_by.ensures.parts c.run_each_by.ensures.work
    (passed_or_kept c.run_each_by.result (work_of p) (λ i. slice_index_or c.args.words.now i 0) (core_of p) (core_of q)
    c.run_each_by.ensures.passed c.run_each_by.ensures.kept)

pub returns-clause-learns : goal.returns-clause-learns
returns-clause-learns g c =
    subst (λ (q : CoreParts). IfOk c.run_each_by.result (λ u. LearnsBelow g.L.WordLoop.learns (work_of q)
    (λ i. slice_index_or c.args.words.now i 0) q.layout.nodes (core_of q) c.args.by.now c.run_each_by.new.by)) c.self.view_is
    c.run_each_by.ensures.learns
