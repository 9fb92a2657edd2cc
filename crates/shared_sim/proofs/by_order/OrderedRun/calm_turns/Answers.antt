-- The turns made at once, and then one.
use Rattle.dsm_core.specs.CoreParts.{work_of, core_of}
use Rattle.shared_sim.proofs.Turns.{leads_then}
use Rattle.shared_sim.proofs.by_order.OrderedRun.calm_turns.Goals as goal

pub returns-clause-leads : goal.returns-clause-leads
returns-clause-leads c =
    let r = c.args.self.now in
    let m = c.run_window.new.self in
    let n = c.turn.new.self in
    leads_then c.turn.result (work_of r.core) (work_of m.core) r.order m.order n.order (core_of r.core) (core_of m.core) (core_of n.core)
    c.run_window.ensures.work c.run_window.ensures.leads c.turn.ensures.leads
