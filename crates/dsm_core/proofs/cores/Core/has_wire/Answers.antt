-- By the lists.
use Rattle.std.proofs.Common.{◌≡◌, ◌≢◌, true, [], subst}
use Rattle.std.specs.Prelude.{◌↔◌}
use Rattle.dsm_core.specs.CoreParts.{CoreParts, core_of}
use Rattle.dsm_core.proofs.cores.Core.has_wire.Goals as goal

pub returns : goal.returns
returns c = record {
  value = subst (λ (q : CoreParts). (c.has_wire.result ≡ true)
      ↔ ((core_of q).list c.args.from c.args.to ≢ [])) c.self.view_is c.has_wire.ensures.value;
}
