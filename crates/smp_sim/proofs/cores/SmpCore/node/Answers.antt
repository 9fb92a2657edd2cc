-- The node that was read is that of the core.
use Rattle.std.proofs.Common.{◌≡◌, ◌<◌, sym, subst}
use Rattle.lane_model.specs.Nodes.{opening_node}
use Rattle.lane_machine.specs.SmpNodes.{IsNode, node_in}
use Rattle.smp_sim.specs.CoreParts.{CoreParts, core_of, work_of}
use Rattle.smp_sim.proofs.CoreSteps.{node_at, read_at}
use Rattle.smp_sim.proofs.cores.SmpCore.node.Goals as goal

pub returns-clause-value : goal.returns-clause-value
returns-clause-value c =
    let p : CoreParts = record {
      program = c.self.inside.work.program.now;
      image = c.self.inside.work.image.now;
      layout = c.self.inside.work.layout.now;
      budget = c.self.inside.work.budget;
      lanes = c.self.inside.work.lanes;
      nodes = c.self.inside.nodes.items;
      lists = c.self.inside.lists.items;
      output = c.self.inside.output.items;
    } in
    let i = c.args.node in
    let x = c.index.result.now in
    let few = subst (λ (q : CoreParts). i < q.layout.nodes) (sym c.self.view_is) c.requires.node in
    let below = subst (λ z. i < z) (sym c.self.invariant.stored.count) few in
    subst (λ (q : CoreParts). node_in (work_of q) i x ≡ (core_of q).nodes i) c.self.view_is
    (sym (read_at (node_in (work_of p) i) p.nodes i x (opening_node (work_of p) i) below c.index.ensures))

pub returns-clause-is_node : goal.returns-clause-is_node
returns-clause-is_node c =
    let p : CoreParts = record {
      program = c.self.inside.work.program.now;
      image = c.self.inside.work.image.now;
      layout = c.self.inside.work.layout.now;
      budget = c.self.inside.work.budget;
      lanes = c.self.inside.work.lanes;
      nodes = c.self.inside.nodes.items;
      lists = c.self.inside.lists.items;
      output = c.self.inside.output.items;
    } in
    let i = c.args.node in
    let x = c.index.result.now in
    let few = subst (λ (q : CoreParts). i < q.layout.nodes) (sym c.self.view_is) c.requires.node in
    let below = subst (λ z. i < z) (sym c.self.invariant.stored.count) few in
    subst (λ (q : CoreParts). IsNode (work_of q) x) c.self.view_is
    (node_at (work_of p) p.nodes i x c.self.invariant.stored.each below c.index.ensures)
