-- By the lists.
use Rattle.std.proofs.Common.{◌≡◌, ℕ, ◌<◌, false, [], subst}
use Rattle.std.specs.Prelude.{◌↔◌}
use Rattle.dsm_core.specs.CoreParts.{CoreParts, core_of}
use Rattle.dsm_core.proofs.cores.Core.has_mail.Goals as goal

pub returns : goal.returns
returns c = record {
  value = subst (λ (q : CoreParts). (c.has_mail.result ≡ false)
      ↔ ((j : ℕ) → j < q.layout.nodes → (core_of q).list j c.args.node ≡ [])) c.self.view_is
      c.has_mail.ensures.value;
}
