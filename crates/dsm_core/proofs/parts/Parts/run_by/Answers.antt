-- Words of the nodes and lists are those of the core.
use Rattle.std.proofs.Common.{◌∙◌, sym, subst}
use Rattle.run_order.specs.node_model.Node.{opening_node}
use Rattle.run_order.specs.node_model.Core.{Exec, May}
use Rattle.dsm_core.specs.CoreParts.{CoreParts, work_of, core_with, core_of, AreParts, HasStampsInRange}
use Rattle.dsm_core.specs.CoreWords.{HasPassedWords}
use Rattle.dsm_core.specs.CoreSteps.{CanExecute}
use Rattle.dsm_core.proofs.CoreRuns.{parts_kept, can_make}
use Rattle.dsm_core.proofs.parts.Parts.run_by.Goals as goal

pub run_by-requires-clause-allowed : goal.run_by-requires-clause-allowed
run_by-requires-clause-allowed g c =
    let p : CoreParts = record {
      program = c.self.inside.program.now;
      image = c.self.inside.image.now;
      layout = c.self.inside.layout;
      budget = c.self.inside.budget;
      nodes = c.self.inside.nodes.items;
      lists = c.self.inside.lists.items;
    } in
    let are = subst AreParts (sym c.self.view_is) c.requires.parts in
    let range = subst (λ (q : CoreParts). HasStampsInRange q.layout.nodes (core_of q))
    (sym c.self.view_is) c.requires.range in
    let may = subst (λ (q : CoreParts). May (work_of q) (core_of q) (Exec c.args.node))
    (sym c.self.view_is) c.requires.enabled in
    subst (λ z. CanExecute z p.nodes c.args.node) (sym c.nodes-count.ensures.nodes)
    (can_make p (Exec c.args.node) are range may)

pub run_by-requires-clause-goes_over : goal.run_by-requires-clause-goes_over
run_by-requires-clause-goes_over g c =
    let p : CoreParts = record {
      program = c.self.inside.program.now;
      image = c.self.inside.image.now;
      layout = c.self.inside.layout;
      budget = c.self.inside.budget;
      nodes = c.self.inside.nodes.items;
      lists = c.self.inside.lists.items;
    } in
    let are = subst AreParts (sym c.self.view_is) c.requires.parts in
    record {
      work = work_of p;
      runs = are.works;
      image = subst (λ (q : CoreParts). g.L.WordLoop.goes_over (work_of q).image c.args.by.now) (sym c.self.view_is)
          c.requires.goes_over;
    }

pub returns-clause-parts : goal.returns-clause-parts
returns-clause-parts g c =
    let p : CoreParts = record {
      program = c.self.inside.program.now;
      image = c.self.inside.image.now;
      layout = c.self.inside.layout;
      budget = c.self.inside.budget;
      nodes = c.self.inside.nodes.items;
      lists = c.self.inside.lists.items;
    } in
    let are = subst AreParts (sym c.self.view_is) c.requires.parts in
    parts_kept p c.run_by.new.nodes.items p.lists are
    (c.run_by.ensures.count ∙ c.nodes-count.ensures.nodes) are.lists c.run_by.ensures.works

pub returns-clause-passed : goal.returns-clause-passed
returns-clause-passed g c =
    let p : CoreParts = record {
      program = c.self.inside.program.now;
      image = c.self.inside.image.now;
      layout = c.self.inside.layout;
      budget = c.self.inside.budget;
      nodes = c.self.inside.nodes.items;
      lists = c.self.inside.lists.items;
    } in
    let are = subst AreParts (sym c.self.view_is) c.requires.parts in
    let after = core_with (work_of p) c.run_by.new.nodes.items p.lists in
    subst (λ (q : CoreParts). HasPassedWords (work_of q) c.args.node c.run_by.result (core_of q)
    after) c.self.view_is
    (c.run_by.ensures.passed (work_of p) p.lists (sym c.nodes-count.ensures.nodes) are.works)

pub returns-clause-learns : goal.returns-clause-learns
returns-clause-learns g c =
    let p : CoreParts = record {
      program = c.self.inside.program.now;
      image = c.self.inside.image.now;
      layout = c.self.inside.layout;
      budget = c.self.inside.budget;
      nodes = c.self.inside.nodes.items;
      lists = c.self.inside.lists.items;
    } in
    let are = subst AreParts (sym c.self.view_is) c.requires.parts in
    subst (λ (q : CoreParts). g.L.WordLoop.learns (work_of q) c.run_by.result ((core_of q).nodes c.args.node)
    c.args.by.now c.run_by.new.by) c.self.view_is
    (c.run_by.ensures.learns (work_of p) (opening_node (work_of p) c.args.node) (sym c.nodes-count.ensures.nodes)
    are.works)
