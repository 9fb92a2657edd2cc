-- An event of the nodes and lists is one of the core.
use Rattle.std.proofs.Common.{◌≡◌, ◌∙◌, refl, sym, subst}
use Rattle.run_order.specs.node_model.Core.{May, event_step, AreAlike}
use Rattle.rewriting_law.specs.dsm_protocol.Queue.{AreQueues}
use Rattle.dsm_core.specs.CoreParts.{CoreParts, work_of, core_with, core_of, event_of, AreParts, HasStampsInRange}
use Rattle.dsm_core.specs.CoreSteps.{CanMake, HaveMade, HaveKept}
use Rattle.dsm_core.proofs.CoreSteps.{on_ok, on_err}
use Rattle.dsm_core.proofs.CoreRuns.{parts_kept, can_make}
use Rattle.dsm_core.proofs.parts.Parts.make.Goals as goal

pub make-requires-clause-allowed : goal.make-requires-clause-allowed
make-requires-clause-allowed c =
    let p : CoreParts = record {
      program = c.self.inside.program.now;
      image = c.self.inside.image.now;
      layout = c.self.inside.layout;
      budget = c.self.inside.budget;
      nodes = c.self.inside.nodes.items;
      lists = c.self.inside.lists.items;
    } in
    let e = event_of c.args.event in
    let are = subst AreParts (sym c.self.view_is) c.requires.parts in
    let range = subst (λ (q : CoreParts). HasStampsInRange q.layout.nodes (core_of q))
    (sym c.self.view_is) c.requires.range in
    let may = subst (λ (q : CoreParts). May (work_of q) (core_of q) e) (sym c.self.view_is)
    c.requires.enabled in
    subst (λ z. CanMake z p.nodes p.lists e) (sym c.nodes-count.ensures.nodes)
    (can_make p e are range may)

pub returns-clause-parts : goal.returns-clause-parts
returns-clause-parts c =
    let p : CoreParts = record {
      program = c.self.inside.program.now;
      image = c.self.inside.image.now;
      layout = c.self.inside.layout;
      budget = c.self.inside.budget;
      nodes = c.self.inside.nodes.items;
      lists = c.self.inside.lists.items;
    } in
    let ns = c.make.new.nodes.items in
    let qs = c.make.new.lists.items in
    let e = c.nodes-count.ensures.nodes in
    let are = subst AreParts (sym c.self.view_is) c.requires.parts in
    parts_kept p ns qs are (c.make.ensures.count ∙ e)
    (subst (λ z. AreQueues qs z) e c.make.ensures.lists) c.make.ensures.works

pub returns-clause-event : goal.returns-clause-event
returns-clause-event c =
    let p : CoreParts = record {
      program = c.self.inside.program.now;
      image = c.self.inside.image.now;
      layout = c.self.inside.layout;
      budget = c.self.inside.budget;
      nodes = c.self.inside.nodes.items;
      lists = c.self.inside.lists.items;
    } in
    let ns = c.make.new.nodes.items in
    let qs = c.make.new.lists.items in
    let event = event_of c.args.event in
    let are = subst AreParts (sym c.self.view_is) c.requires.parts in
    on_ok c.make.result
    (λ (made : HaveMade c.nodes-count.result p.nodes ns p.lists qs event).
    subst (λ (q : CoreParts). AreAlike q.layout.nodes (core_with (work_of p) ns qs)
    (event_step (work_of q) (core_of q) event)) c.self.view_is
    (subst (λ z. HaveMade z p.nodes ns p.lists qs event) c.nodes-count.ensures.nodes made
    (work_of p) refl are.works)) c.make.ensures.event

pub returns-clause-err : goal.returns-clause-err
returns-clause-err c =
    let p : CoreParts = record {
      program = c.self.inside.program.now;
      image = c.self.inside.image.now;
      layout = c.self.inside.layout;
      budget = c.self.inside.budget;
      nodes = c.self.inside.nodes.items;
      lists = c.self.inside.lists.items;
    } in
    let ns = c.make.new.nodes.items in
    let qs = c.make.new.lists.items in
    on_err c.make.result
    (λ (kept : HaveKept c.nodes-count.result p.nodes ns p.lists qs).
    subst (λ (q : CoreParts). core_with (work_of p) ns qs ≡ core_of q) c.self.view_is
    (subst (λ z. HaveKept z p.nodes ns p.lists qs) c.nodes-count.ensures.nodes kept
    (work_of p) refl)) c.make.ensures.err
