-- A word of the nodes and lists is one of the core.
use Rattle.std.proofs.Common.{◌≡◌, ◌∙◌, sym, subst}
use Rattle.run_order.specs.node_model.Core.{Exec, May}
use Rattle.dsm_core.specs.CoreParts.{CoreParts, work_of, core_with, core_of, AreParts, HasStampsInRange}
use Rattle.dsm_core.specs.CoreWords.{HasPassed}
use Rattle.dsm_core.specs.CoreSteps.{CanExecute}
use Rattle.dsm_core.proofs.CoreSteps.{core_same}
use Rattle.dsm_core.proofs.CoreRuns.{parts_kept, can_make}
use Rattle.dsm_core.proofs.parts.Parts.exec_silent.Goals as goal

pub exec_silent-requires-clause-allowed : goal.exec_silent-requires-clause-allowed
exec_silent-requires-clause-allowed c =
    let p : CoreParts = record {
      program = c.self.inside.program.now;
      image = c.self.inside.image.now;
      layout = c.self.inside.layout;
      budget = c.self.inside.budget;
      nodes = c.self.inside.nodes.items;
      lists = c.self.inside.lists.items;
    } in
    let are = subst AreParts (sym c.self.view_is) c.requires.parts in
    let range = subst (λ (q : CoreParts). HasStampsInRange q.layout.nodes (core_of q))
    (sym c.self.view_is) c.requires.range in
    let may = subst (λ (q : CoreParts). May (work_of q) (core_of q) (Exec c.args.node))
    (sym c.self.view_is) c.requires.enabled in
    subst (λ z. CanExecute z p.nodes c.args.node) (sym c.nodes-count.ensures.nodes)
    (can_make p (Exec c.args.node) are range may)

pub returns-clause-parts : goal.returns-clause-parts
returns-clause-parts c =
    let p : CoreParts = record {
      program = c.self.inside.program.now;
      image = c.self.inside.image.now;
      layout = c.self.inside.layout;
      budget = c.self.inside.budget;
      nodes = c.self.inside.nodes.items;
      lists = c.self.inside.lists.items;
    } in
    let are = subst AreParts (sym c.self.view_is) c.requires.parts in
    parts_kept p c.exec_silent.new.nodes.items p.lists are
    (c.exec_silent.ensures.count ∙ c.nodes-count.ensures.nodes) are.lists c.exec_silent.ensures.works

pub returns-clause-passed : goal.returns-clause-passed
returns-clause-passed c = λ t.
    let p : CoreParts = record {
      program = c.self.inside.program.now;
      image = c.self.inside.image.now;
      layout = c.self.inside.layout;
      budget = c.self.inside.budget;
      nodes = c.self.inside.nodes.items;
      lists = c.self.inside.lists.items;
    } in
    let are = subst AreParts (sym c.self.view_is) c.requires.parts in
    let after = core_with (work_of p) c.exec_silent.new.nodes.items p.lists in
    subst (λ (q : CoreParts). HasPassed (work_of q) c.args.node (core_of q) after) c.self.view_is
    (c.exec_silent.ensures.passed t (work_of p) p.lists (sym c.nodes-count.ensures.nodes) are.works)

pub returns-clause-kept : goal.returns-clause-kept
returns-clause-kept c = λ f.
    let p : CoreParts = record {
      program = c.self.inside.program.now;
      image = c.self.inside.image.now;
      layout = c.self.inside.layout;
      budget = c.self.inside.budget;
      nodes = c.self.inside.nodes.items;
      lists = c.self.inside.lists.items;
    } in
    let ns = c.exec_silent.new.nodes.items in
    subst (λ (q : CoreParts). core_with (work_of p) ns p.lists ≡ core_of q) c.self.view_is
    (core_same (work_of p) p.nodes ns p.lists (c.exec_silent.ensures.same f))
