-- The nodes that are stored are those of the core.
use Rattle.std.proofs.Common.{◌≡◌, true, List, sym, subst}
use Rattle.std.specs.Prelude.{◌↔◌}
use Rattle.node_machine.specs.declared.node_state.NodeState.{NodeState}
use Rattle.run_order.specs.node_model.Core.{IsOver}
use Rattle.dsm_core.specs.CoreParts.{CoreParts, work_of, core_with, core_of, HaveWork, AreParts}
use Rattle.dsm_core.proofs.parts.Parts.is_over.Goals as goal

pub returns : goal.returns
returns c =
    let p : CoreParts = record {
      program = c.self.inside.program.now;
      image = c.self.inside.image.now;
      layout = c.self.inside.layout;
      budget = c.self.inside.budget;
      nodes = c.self.inside.nodes.items;
      lists = c.self.inside.lists.items;
    } in
    let w = work_of p in
    let are = subst AreParts (sym c.self.view_is) c.requires.parts in
    let over = subst (λ (ns : List NodeState). HaveWork w ns
    → (c.are_over.result ≡ true) ↔ IsOver w (core_with w ns p.lists)) c.deref.ensures.value
    (c.are_over.ensures.value w p.lists (sym c.nodes-count.ensures.nodes)) in
    record {
      value = subst (λ (q : CoreParts). (c.are_over.result ≡ true) ↔ IsOver (work_of q) (core_of q))
          c.self.view_is (over are.works);
    }
