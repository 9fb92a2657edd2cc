-- By the lists.
use Rattle.std.proofs.Common.{◌≡◌, [], subst}
use Rattle.std.specs.Prelude.{MatchOption}
use Rattle.dsm_core.specs.CoreParts.{CoreParts, core_of}
use Rattle.dsm_core.specs.Seen.{IsFirstIn}
use Rattle.dsm_core.proofs.cores.Core.first.Goals as goal

pub returns : goal.returns
returns c = record {
  value = subst (λ (q : CoreParts). MatchOption c.first.result
      ((core_of q).list c.args.from c.args.to ≡ [])
      (IsFirstIn ((core_of q).list c.args.from c.args.to))) c.self.view_is c.first.ensures.value;
}
