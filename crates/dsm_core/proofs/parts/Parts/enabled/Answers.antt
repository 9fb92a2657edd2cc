-- The nodes and lists that are stored are those of the core.
use Rattle.std.proofs.Common.{◌≡◌, true, List, sym, subst}
use Rattle.std.specs.Prelude.{◌↔◌}
use Rattle.node_machine.specs.declared.node_state.NodeState.{NodeState}
use Rattle.run_order.specs.node_model.Core.{May}
use Rattle.rewriting_law.specs.dsm_protocol.Queue.{Queue}
use Rattle.dsm_core.specs.CoreParts.{CoreParts, work_of, core_with, core_of, event_of, HaveWork, AreParts}
use Rattle.dsm_core.proofs.parts.Parts.enabled.Goals as goal

pub returns : goal.returns
returns c =
    let p : CoreParts = record {
      program = c.self.inside.program.now;
      image = c.self.inside.image.now;
      layout = c.self.inside.layout;
      budget = c.self.inside.budget;
      nodes = c.self.inside.nodes.items;
      lists = c.self.inside.lists.items;
    } in
    let w = work_of p in
    let e = event_of c.args.event in
    let are = subst AreParts (sym c.self.view_is) c.requires.parts in
    let stored = subst (λ (ns : List NodeState). HaveWork w ns → (c.is_enabled.result ≡ true)
    ↔ May w (core_with w ns c.deref-2.result.now) e) c.deref.ensures.value
    (c.is_enabled.ensures.value w (sym c.nodes-count.ensures.nodes)) in
    let may = subst (λ (qs : List Queue). (c.is_enabled.result ≡ true)
    ↔ May w (core_with w p.nodes qs) e) c.deref-2.ensures.value (stored are.works) in
    record {
      value = subst (λ (q : CoreParts). (c.is_enabled.result ≡ true)
          ↔ May (work_of q) (core_of q) e) c.self.view_is may;
    }
