-- Where nothing is listed, every node is over.
use Rattle.std.proofs.Common.{◌≡◌, length, arith}
use Rattle.dsm_core.specs.CoreParts.{work_of, core_of}
use Rattle.shared_sim.specs.ByOrder.{choices}
use Rattle.shared_sim.proofs.Turns.{over_without, none_listed}
use Rattle.shared_sim.proofs.by_order.OrderedRun.is_over.Goals as goal

pub returns-clause-over : goal.returns-clause-over
returns-clause-over c = λ sure.
    let r = c.args.self.now in
    let none : length (choices (work_of r.core) (core_of r.core)) ≡ 0 = omega (arith, c.requires.ready.lists.count, c.if-self-gt0.false) in
    over_without (work_of r.core) (core_of r.core) (none_listed (choices (work_of r.core) (core_of r.core)) none) c.promises.ensures.goes_on
