-- An event of the nodes and lists is one of the core.
use Rattle.std.proofs.Common.{◌≡◌, ◌∙◌, refl, sym, subst}
use Rattle.run_order.specs.node_model.Core.{May, event_step, AreAlike}
use Rattle.rewriting_law.specs.dsm_protocol.Queue.{AreQueues}
use Rattle.dsm_core.specs.CoreParts.{CoreParts, work_of, core_with, core_of, event_of, AreParts, HasStampsInRange}
use Rattle.dsm_core.specs.CoreSteps.{CanMake, HaveMade, HaveKept}
use Rattle.dsm_core.specs.declared.seen.Seen.{Seen}
use Rattle.dsm_core.specs.Seen.{HaveSeen, IsSeen}
use Rattle.dsm_core.proofs.CoreSteps.{on_ok, on_err, if_ok}
use Rattle.dsm_core.proofs.CoreRuns.{parts_kept, can_make}
use Rattle.dsm_core.proofs.parts.Parts.make_seen.Goals as goal

pub make_seen-requires-clause-allowed : goal.make_seen-requires-clause-allowed
make_seen-requires-clause-allowed c =
    let p : CoreParts = record {
      program = c.self.inside.program.now;
      image = c.self.inside.image.now;
      layout = c.self.inside.layout;
      budget = c.self.inside.budget;
      nodes = c.self.inside.nodes.items;
      lists = c.self.inside.lists.items;
    } in
    let e = event_of c.args.event in
    let are = subst AreParts (sym c.self.view_is) c.requires.parts in
    let range = subst (λ (q : CoreParts). HasStampsInRange q.layout.nodes (core_of q))
    (sym c.self.view_is) c.requires.range in
    let may = subst (λ (q : CoreParts). May (work_of q) (core_of q) e) (sym c.self.view_is)
    c.requires.enabled in
    subst (λ z. CanMake z p.nodes p.lists e) (sym c.nodes-count.ensures.nodes)
    (can_make p e are range may)

pub returns-clause-parts : goal.returns-clause-parts
returns-clause-parts c =
    let p : CoreParts = record {
      program = c.self.inside.program.now;
      image = c.self.inside.image.now;
      layout = c.self.inside.layout;
      budget = c.self.inside.budget;
      nodes = c.self.inside.nodes.items;
      lists = c.self.inside.lists.items;
    } in
    let ns = c.make_seen.new.nodes.items in
    let qs = c.make_seen.new.lists.items in
    let e = c.nodes-count.ensures.nodes in
    let are = subst AreParts (sym c.self.view_is) c.requires.parts in
    parts_kept p ns qs are (c.make_seen.ensures.count ∙ e)
    (subst (λ z. AreQueues qs z) e c.make_seen.ensures.lists) c.make_seen.ensures.works

pub returns-clause-event : goal.returns-clause-event
returns-clause-event c =
    let p : CoreParts = record {
      program = c.self.inside.program.now;
      image = c.self.inside.image.now;
      layout = c.self.inside.layout;
      budget = c.self.inside.budget;
      nodes = c.self.inside.nodes.items;
      lists = c.self.inside.lists.items;
    } in
    let ns = c.make_seen.new.nodes.items in
    let qs = c.make_seen.new.lists.items in
    let event = event_of c.args.event in
    let are = subst AreParts (sym c.self.view_is) c.requires.parts in
    on_ok c.make_seen.result
    (λ (made : HaveMade c.nodes-count.result p.nodes ns p.lists qs event).
    subst (λ (q : CoreParts). AreAlike q.layout.nodes (core_with (work_of p) ns qs)
    (event_step (work_of q) (core_of q) event)) c.self.view_is
    (subst (λ z. HaveMade z p.nodes ns p.lists qs event) c.nodes-count.ensures.nodes made
    (work_of p) refl are.works)) c.make_seen.ensures.event

pub returns-clause-err : goal.returns-clause-err
returns-clause-err c =
    let p : CoreParts = record {
      program = c.self.inside.program.now;
      image = c.self.inside.image.now;
      layout = c.self.inside.layout;
      budget = c.self.inside.budget;
      nodes = c.self.inside.nodes.items;
      lists = c.self.inside.lists.items;
    } in
    let ns = c.make_seen.new.nodes.items in
    let qs = c.make_seen.new.lists.items in
    on_err c.make_seen.result
    (λ (kept : HaveKept c.nodes-count.result p.nodes ns p.lists qs).
    subst (λ (q : CoreParts). core_with (work_of p) ns qs ≡ core_of q) c.self.view_is
    (subst (λ z. HaveKept z p.nodes ns p.lists qs) c.nodes-count.ensures.nodes kept
    (work_of p) refl)) c.make_seen.ensures.err

pub returns-clause-seen : goal.returns-clause-seen
returns-clause-seen c =
    let p : CoreParts = record {
      program = c.self.inside.program.now;
      image = c.self.inside.image.now;
      layout = c.self.inside.layout;
      budget = c.self.inside.budget;
      nodes = c.self.inside.nodes.items;
      lists = c.self.inside.lists.items;
    } in
    let e = event_of c.args.event in
    let are = subst AreParts (sym c.self.view_is) c.requires.parts in
    if_ok c.make_seen.result
    (λ (s : Seen) (seen : HaveSeen c.nodes-count.result p.nodes p.lists e s).
    subst (λ (q : CoreParts). IsSeen (work_of q) (core_of q) e s) c.self.view_is
    (seen (work_of p) (sym c.nodes-count.ensures.nodes) are.works)) c.make_seen.ensures.seen
