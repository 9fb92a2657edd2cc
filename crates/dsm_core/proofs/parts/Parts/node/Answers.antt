-- The node that was read is that of the core.
use Rattle.std.proofs.Common.{◌≡◌, ◌<◌, ◌∙◌, sym, subst}
use Rattle.run_order.specs.node_model.Node.{opening_node}
use Rattle.node_machine.specs.NodeState.{node_of, work_of as work_at}
use Rattle.dsm_core.specs.CoreParts.{CoreParts, work_of, core_of, AreParts}
use Rattle.dsm_core.proofs.CoreSteps.{read_at}
use Rattle.dsm_core.proofs.parts.Parts.node.Goals as goal

pub returns-clause-value : goal.returns-clause-value
returns-clause-value c =
    let p : CoreParts = record {
      program = c.self.inside.program.now;
      image = c.self.inside.image.now;
      layout = c.self.inside.layout;
      budget = c.self.inside.budget;
      nodes = c.self.inside.nodes.items;
      lists = c.self.inside.lists.items;
    } in
    let i = c.args.node in
    let x = c.index.result.now in
    let are = subst AreParts (sym c.self.view_is) c.requires.parts in
    let few = subst (λ (q : CoreParts). i < q.layout.nodes) (sym c.self.view_is) c.requires.node in
    let below = subst (λ z. i < z) (sym are.count) few in
    subst (λ (q : CoreParts). node_of x ≡ (core_of q).nodes i) c.self.view_is
    (sym (read_at node_of p.nodes i x (opening_node (work_of p) i) below c.index.ensures))

pub returns-clause-work : goal.returns-clause-work
returns-clause-work c =
    let p : CoreParts = record {
      program = c.self.inside.program.now;
      image = c.self.inside.image.now;
      layout = c.self.inside.layout;
      budget = c.self.inside.budget;
      nodes = c.self.inside.nodes.items;
      lists = c.self.inside.lists.items;
    } in
    let i = c.args.node in
    let x = c.index.result.now in
    let are = subst AreParts (sym c.self.view_is) c.requires.parts in
    let few = subst (λ (q : CoreParts). i < q.layout.nodes) (sym c.self.view_is) c.requires.node in
    let below = subst (λ z. i < z) (sym are.count) few in
    subst (λ (q : CoreParts). work_at x ≡ work_of q) c.self.view_is
    (sym (read_at work_at p.nodes i x (work_of p) below c.index.ensures) ∙ are.works i)
