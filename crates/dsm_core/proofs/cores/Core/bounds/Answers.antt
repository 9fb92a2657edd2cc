-- By the law of short runs, and that of stamps.
use Rattle.std.proofs.Common.{subst}
use Rattle.dsm_core.specs.CoreParts.{core_of, IsCore}
use Rattle.dsm_core.proofs.Bounds.{in_range, runs_end, only_adds}
use Rattle.dsm_core.proofs.cores.Core.bounds.Goals as goal

pub returns-clause-range : goal.returns-clause-range
returns-clause-range c =
    let p = c.args.self.now in
    let is = subst IsCore c.self.view_is c.self.invariant in
    in_range p (core_of p) c.progress_law.ensures.short c.stamp_law.ensures.few
    c.stamp_law.ensures.wires is is.led_to

pub returns-clause-runs : goal.returns-clause-runs
returns-clause-runs c =
    let is = subst IsCore c.self.view_is c.self.invariant in
    λ k d goes. runs_end c.args.self.now k d c.progress_law.ensures.short is goes

pub returns-clause-adds : goal.returns-clause-adds
returns-clause-adds c =
    let is = subst IsCore c.self.view_is c.self.invariant in
    λ d goes. only_adds c.args.self.now d c.stamp_law.ensures.adds is goes
