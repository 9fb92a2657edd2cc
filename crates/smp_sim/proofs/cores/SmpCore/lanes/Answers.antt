-- By what is true of every core.
use Rattle.std.proofs.Common.{subst}
use Rattle.smp_sim.specs.CoreParts.{IsCore}
use Rattle.smp_sim.proofs.cores.SmpCore.lanes.Goals as goal

pub returns-clause-some : goal.returns-clause-some
returns-clause-some c = (subst IsCore c.self.view_is c.self.invariant).work.some

pub returns-clause-few : goal.returns-clause-few
returns-clause-few c = (subst IsCore c.self.view_is c.self.invariant).work.few
