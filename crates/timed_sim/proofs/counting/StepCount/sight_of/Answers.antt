-- The node is the core's.
use Rattle.std.proofs.Common.{◌≡◌, Some, sym, ap, subst}
use Rattle.dsm_core.specs.node_model.Node.{Node, Work}
use Rattle.dsm_core.specs.node_model.Core.{Event, Exec}
use Rattle.dsm_core.specs.node_machine.NodeState.{node_of}
use Rattle.dsm_core.specs.CoreParts.{work_of, core_of, event_of}
use Rattle.run_trace.specs.Committing.{IsCommitSight}
use Rattle.run_trace.specs.Kinds.{AreKindsOf}
use Rattle.timed_sim.specs.Counted.{IsSightAt}
use Rattle.timed_sim.proofs.counting.StepCount.sight_of.Goals as goal

pub returns-in-Exec : goal.returns-in-Exec
returns-in-Exec c = λ plan counts.
    let work = work_of c.args.core.now in
    let core = core_of c.args.core.now in
    let is : event_of c.args.event ≡ Exec c.in-Exec.node = ap event_of c.in-Exec.is in
    let s = c.commit_sight.result in
    let kinds = c.args.self.now.kinds in
    let same = c.node.ensures.work in
    subst (λ (e : Event). IsSightAt work plan core e (Some s)) (sym is)
    (subst (λ (n : Node). IsCommitSight work plan n s) c.node.ensures.value
    (subst (λ (w : Work). IsCommitSight w plan (node_of c.node.result.now) s) same
    (c.commit_sight.ensures plan
    (subst (λ (w : Work). AreKindsOf w.program plan w.image kinds) (sym same) counts.kinds))))
