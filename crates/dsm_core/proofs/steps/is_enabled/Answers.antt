-- Whatever the lists hold, a node may execute a word by its standing.
use Rattle.std.proofs.Common.{◌≡◌, true, sym, subst}
use Rattle.std.specs.Prelude.{◌↔◌}
use Rattle.run_order.specs.node_model.Core.{May}
use Rattle.dsm_core.specs.declared.cores.Event as chosen
use Rattle.dsm_core.specs.CoreParts.{core_with, event_of}
use Rattle.dsm_core.proofs.steps.is_enabled.Goals as goal

pub returns-in-Exec : goal.returns-in-Exec
returns-in-Exec c = record {
  value = λ work e have. subst (λ (event : chosen.Event). (c.can_execute.result ≡ true)
      ↔ May work (core_with work c.args.nodes.now c.args.lists.now) (event_of event))
      (sym c.in-Exec.is) (c.can_execute.ensures.value work c.args.lists.now e have);
}
