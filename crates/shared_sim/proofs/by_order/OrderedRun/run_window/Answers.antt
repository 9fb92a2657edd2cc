-- What was made of the window, and then the turns before the stop.
use Rattle.dsm_core.specs.CoreParts.{work_of, core_of}
use Rattle.shared_sim.proofs.Turns.{leads_both}
use Rattle.shared_sim.proofs.by_order.OrderedRun.run_window.Goals as goal

pub returns-in-Err-clause-leads : goal.returns-in-Err-clause-leads
returns-in-Err-clause-leads c =
    let r = c.args.self.now in
    let m = c.run_turns.new.self in
    let n = c.run_before-self.new.self in
    leads_both (work_of r.core) (work_of m.core) r.order m.order n.order (core_of r.core) (core_of m.core) (core_of n.core)
    c.in-Err.ensures.work c.in-Err.ensures.on c.run_before-self.ensures.leads
