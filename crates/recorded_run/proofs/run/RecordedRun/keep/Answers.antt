use Rattle.std.proofs.Common.{Some, sym, ap, subst}
use Rattle.recorded_run.specs.Shown.{Recorded}
use Rattle.recorded_run.specs.Walks.{IsAlongShown}
use Rattle.recorded_run.proofs.Showing.{along_asked, holds_with}
use Rattle.recorded_run.proofs.run.RecordedRun.keep.Goals as goal

pub invariant_of-self : goal.invariant_of-self
invariant_of-self c =
    let i = c.self.inside in
    let w = c.args.walk in
    let along = subst (λ (s : Recorded). IsAlongShown s w) (sym c.self.view_is) c.requires.along in
    holds_with i.debugged i.work i.plan.now i.code.now i.kept.now i.walk i.behind c.self.invariant (Some w) c.args.behind
    (along_asked i.debugged i.work i.plan.now i.code.now i.kept.now i.walk i.behind c.self.invariant w along, c.requires.walking)
    c.requires.there

pub returns : goal.returns
returns c = ap (λ (s : Recorded). record s { behind = c.args.behind }) c.self.view_is
