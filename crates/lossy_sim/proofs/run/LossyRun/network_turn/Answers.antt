-- The links have their turns, and the nodes stay.
use Rattle.std.proofs.Common.{sym, subst, arith}
use Rattle.dsm_core.specs.CoreParts.{work_of}
use Rattle.dsm_core.proofs.CoreSteps.{on_ok}
use Rattle.lossy_sim.specs.WithLoss.{HaveNetworkTurns}
use Rattle.lossy_sim.specs.Runs.{state_in}
use Rattle.lossy_sim.specs.declared.run.LossyRun.{LossyRun}
use Rattle.lossy_sim.proofs.Running.{few_there, network_made}
use Rattle.lossy_sim.proofs.run.LossyRun.network_turn.Goals as goal

pub returns-clause-turns : goal.returns-clause-turns
returns-clause-turns c =
    let r = c.args.self.now in
    let work = work_of r.parts in
    let new = c.network_turn.new in
    on_ok c.network_turn.result
    (λ t. subst (λ (x : LossyRun). HaveNetworkTurns r.parts.layout.nodes (state_in work r)
    (state_in work (record x { links = new.links; losses = new.losses }))) (sym c.self.view_is)
    (network_made new.links.items new.losses c.self.view_is c.nodes-count.ensures.nodes t))
    c.network_turn.ensures.turn

pub returns-clause-few : goal.returns-clause-few
returns-clause-few c = on_ok c.network_turn.result
    (λ f. few_there c.network_turn.new.links.items 0 c.self.view_is c.nodes-count.ensures.nodes (omega arith) f)
    c.network_turn.ensures.few
