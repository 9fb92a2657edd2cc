-- Words of the nodes and lists are those of the core.
use Rattle.dsm_core.specs.CoreParts.{work_of, core_of}
use Rattle.dsm_core.proofs.CoreRuns.{is_gone}
use Rattle.dsm_core.proofs.Words.{ran_goes}
use Rattle.dsm_core.proofs.cores.Core.run_until_send.Goals as goal

pub invariant_of-self : goal.invariant_of-self
invariant_of-self c =
    let p = c.self.inside.parts in
    let q = c.run_until_send.new.self in
    is_gone p q c.self.invariant c.run_until_send.ensures.parts c.run_until_send.ensures.work
    (ran_goes c.run_until_send.result (work_of p) c.args.node (core_of p) (core_of q)
    c.run_until_send.ensures.ran c.run_until_send.ensures.err)
