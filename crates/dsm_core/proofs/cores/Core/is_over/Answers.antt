-- By the nodes and lists.
use Rattle.std.proofs.Common.{◌≡◌, true, subst}
use Rattle.std.specs.Prelude.{◌↔◌}
use Rattle.run_order.specs.node_model.Core.{IsOver}
use Rattle.dsm_core.specs.CoreParts.{CoreParts, work_of, core_of}
use Rattle.dsm_core.proofs.cores.Core.is_over.Goals as goal

pub returns : goal.returns
returns c = record {
  value = subst (λ (q : CoreParts). (c.is_over.result ≡ true) ↔ IsOver (work_of q) (core_of q))
      c.self.view_is c.is_over.ensures.value;
}
