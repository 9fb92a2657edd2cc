-- By what holds of every core.
use Rattle.std.proofs.Common.{List, sym, subst}
use Rattle.run_order.specs.OwnRun.{Stamped, StandsForOwnRun}
use Rattle.dsm_core.specs.CoreParts.{CoreParts, work_of, core_of}
use Rattle.dsm_core.proofs.cores.Core.take_apart.Goals as goal

pub returns-clause-own_run : goal.returns-clause-own_run
returns-clause-own_run c =
    subst (λ (q : CoreParts). (events : List Stamped)
    × StandsForOwnRun (work_of q) (core_of q) events) (sym c.self.view_is)
    c.promises.ensures.own_run
