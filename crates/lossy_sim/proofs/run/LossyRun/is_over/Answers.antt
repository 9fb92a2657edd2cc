-- The nodes are those of the run.
use Rattle.std.proofs.Common.{◌≡◌, ◌↔◌, true, List, sym, ap, ◌∙◌, subst}
use Rattle.dsm_core.specs.node_machine.declared.node_state.NodeState.{NodeState}
use Rattle.dsm_core.specs.CoreParts.{work_of, HaveWork}
use Rattle.lossy_sim.specs.Stored.{state_of}
use Rattle.lossy_sim.specs.WithLoss.{AreAllOver}
use Rattle.lossy_sim.specs.declared.run.LossyRun.{LossyRun}
use Rattle.lossy_sim.proofs.run.LossyRun.is_over.Goals as goal

pub returns : goal.returns
returns c =
    let r = c.args.self.now in
    let work = work_of r.parts in
    let ns : c.deref.result.now ≡ r.parts.nodes =
    c.deref.ensures.value ∙ ap (λ (x : LossyRun). x.parts.nodes) c.self.view_is in
    let count : work.layout.nodes ≡ c.nodes.result =
    sym (c.nodes.ensures.nodes ∙ ap (λ (x : LossyRun). x.parts.layout.nodes) c.self.view_is) in
    record {
      value = subst (λ (fs : List NodeState). (c.are_over.result ≡ true)
          ↔ AreAllOver work (state_of work fs r.links.items r.order r.losses)) ns
          (c.are_over.ensures.value work r.links.items r.order r.losses count
          (subst (λ (fs : List NodeState). HaveWork work fs) (sym ns) c.requires.ready.parts.works));
    }
