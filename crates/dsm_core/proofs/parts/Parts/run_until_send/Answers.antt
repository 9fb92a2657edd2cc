-- Words of the nodes and lists are those of the core.
use Rattle.std.proofs.Common.{◌≡◌, ◌∙◌, sym, subst}
use Rattle.run_order.specs.node_model.Core.{Exec, May}
use Rattle.rewriting_law.specs.dsm_protocol.Queue.{AreQueues}
use Rattle.dsm_core.specs.CoreParts.{CoreParts, work_of, core_with, core_of, AreParts, HasStampsInRange}
use Rattle.dsm_core.specs.CoreWords.{HasExecutedOn}
use Rattle.dsm_core.specs.CoreSteps.{CanExecute, HaveExecutedOn, HaveKept}
use Rattle.dsm_core.proofs.CoreSteps.{if_ok, on_err}
use Rattle.dsm_core.proofs.CoreRuns.{parts_kept, can_make}
use Rattle.dsm_core.proofs.parts.Parts.run_until_send.Goals as goal

pub run_until_send-requires-clause-allowed : goal.run_until_send-requires-clause-allowed
run_until_send-requires-clause-allowed c =
    let p : CoreParts = record {
      program = c.self.inside.program.now;
      image = c.self.inside.image.now;
      layout = c.self.inside.layout;
      budget = c.self.inside.budget;
      nodes = c.self.inside.nodes.items;
      lists = c.self.inside.lists.items;
    } in
    let are = subst AreParts (sym c.self.view_is) c.requires.parts in
    let range = subst (λ (q : CoreParts). HasStampsInRange q.layout.nodes (core_of q))
    (sym c.self.view_is) c.requires.range in
    let may = subst (λ (q : CoreParts). May (work_of q) (core_of q) (Exec c.args.node))
    (sym c.self.view_is) c.requires.enabled in
    subst (λ z. CanExecute z p.nodes c.args.node) (sym c.nodes-count.ensures.nodes)
    (can_make p (Exec c.args.node) are range may)

pub returns-clause-parts : goal.returns-clause-parts
returns-clause-parts c =
    let p : CoreParts = record {
      program = c.self.inside.program.now;
      image = c.self.inside.image.now;
      layout = c.self.inside.layout;
      budget = c.self.inside.budget;
      nodes = c.self.inside.nodes.items;
      lists = c.self.inside.lists.items;
    } in
    let are = subst AreParts (sym c.self.view_is) c.requires.parts in
    let qs = c.run_until_send.new.lists.items in
    let e = c.nodes-count.ensures.nodes in
    parts_kept p c.run_until_send.new.nodes.items qs are (c.run_until_send.ensures.count ∙ e)
    (subst (λ z. AreQueues qs z) e c.run_until_send.ensures.lists) c.run_until_send.ensures.works

pub returns-clause-ran : goal.returns-clause-ran
returns-clause-ran c =
    let p : CoreParts = record {
      program = c.self.inside.program.now;
      image = c.self.inside.image.now;
      layout = c.self.inside.layout;
      budget = c.self.inside.budget;
      nodes = c.self.inside.nodes.items;
      lists = c.self.inside.lists.items;
    } in
    let are = subst AreParts (sym c.self.view_is) c.requires.parts in
    let i = c.args.node in
    let ns = c.run_until_send.new.nodes.items in
    let qs = c.run_until_send.new.lists.items in
    let n = c.nodes-count.result in
    if_ok c.run_until_send.result
    (λ words (ran : HaveExecutedOn n i words p.nodes ns p.lists qs).
    subst (λ (q : CoreParts). HasExecutedOn (work_of q) i words (core_of q)
    (core_with (work_of p) ns qs)) c.self.view_is
    (ran (work_of p) (sym c.nodes-count.ensures.nodes) are.works)) c.run_until_send.ensures.ran

pub returns-clause-err : goal.returns-clause-err
returns-clause-err c =
    let p : CoreParts = record {
      program = c.self.inside.program.now;
      image = c.self.inside.image.now;
      layout = c.self.inside.layout;
      budget = c.self.inside.budget;
      nodes = c.self.inside.nodes.items;
      lists = c.self.inside.lists.items;
    } in
    let ns = c.run_until_send.new.nodes.items in
    let qs = c.run_until_send.new.lists.items in
    on_err c.run_until_send.result
    (λ (kept : HaveKept c.nodes-count.result p.nodes ns p.lists qs).
    subst (λ (q : CoreParts). core_with (work_of p) ns qs ≡ core_of q) c.self.view_is
    (kept (work_of p) (sym c.nodes-count.ensures.nodes))) c.run_until_send.ensures.err
