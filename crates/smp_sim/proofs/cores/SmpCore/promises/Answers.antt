-- By the law of progress.
use Rattle.std.proofs.Common.{subst}
use Rattle.smp_sim.specs.CoreParts.{IsCore}
use Rattle.smp_sim.proofs.Promised.{few_events, goes_on, lists_empty}
use Rattle.smp_sim.proofs.cores.SmpCore.promises.Goals as goal

pub returns-clause-run : goal.returns-clause-run
returns-clause-run c =
    let is = subst IsCore c.self.view_is c.self.invariant in
    (is.run, is.leads)

pub returns-clause-short : goal.returns-clause-short
returns-clause-short c =
    let is = subst IsCore c.self.view_is c.self.invariant in
    λ run to. few_events c.args.self.now run c.lane_progress_law.ensures.short is to

pub returns-clause-goes_on : goal.returns-clause-goes_on
returns-clause-goes_on c =
    let is = subst IsCore c.self.view_is c.self.invariant in
    goes_on c.args.self.now c.lane_progress_law.ensures.goes_on is

pub returns-clause-empty : goal.returns-clause-empty
returns-clause-empty c =
    let is = subst IsCore c.self.view_is c.self.invariant in
    lists_empty c.args.self.now c.lane_progress_law.ensures.over is

pub returns-clause-rewritten : goal.returns-clause-rewritten
returns-clause-rewritten c =
    let is = subst IsCore c.self.view_is c.self.invariant in
    is.work.rewritten

pub returns-clause-some : goal.returns-clause-some
returns-clause-some c =
    let is = subst IsCore c.self.view_is c.self.invariant in
    is.work.some

pub returns-clause-four : goal.returns-clause-four
returns-clause-four c =
    let is = subst IsCore c.self.view_is c.self.invariant in
    is.work.four

pub returns-clause-few : goal.returns-clause-few
returns-clause-few c =
    let is = subst IsCore c.self.view_is c.self.invariant in
    is.work.few
