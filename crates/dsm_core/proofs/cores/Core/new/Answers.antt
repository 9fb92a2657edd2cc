-- The nodes and lists of the start stand for the opening core.
use Rattle.std.proofs.Common.{◌≡◌, ◌∙◌, sym, ap, subst}
use Rattle.block_layout.specs.Layout.{Shape}
use Rattle.run_order.specs.node_model.Core.{opening_core}
use Rattle.rewriting_law.specs.dsm_protocol.Queue.{AreQueues, wires_of}
use Rattle.dsm_core.specs.CoreParts.{work_with, core_with, IsCore}
use Rattle.dsm_core.proofs.CoreRuns.{opened, opened_core}
use Rattle.dsm_core.proofs.cores.Core.new.Goals as goal

pub invariant_of-result : goal.invariant_of-result
invariant_of-result c =
    let e = c.nodes-count.ensures.nodes in
    let lists = c.in_ok-lists.lists.items in
    subst (λ (l : Shape). IsCore (record {
      program = c.args.work.now.program.now;
      image = c.args.work.now.image.now;
      layout = l;
      budget = c.args.work.now.budget;
      nodes = c.in_ok-nodes.nodes.items;
      lists = lists;
    })) (sym c.in_ok-copy.ensures) (opened (record {
      program = c.args.work.now.program.now;
      image = c.args.work.now.image.now;
      layout = c.args.work.now.layout.now;
      budget = c.args.work.now.budget;
      nodes = c.in_ok-nodes.nodes.items;
      lists = lists;
    }) c.in_ok-nodes.ensures.count (subst (AreQueues lists) e c.in_ok-lists.ensures.queues)
    c.in_ok-nodes.ensures.works c.requires.rewritten c.in_ok-nodes.ensures.first
    (λ j i. ap (λ n. wires_of lists n j i) (sym e) ∙ c.in_ok-lists.ensures.empty j i))

pub returns-clause-opening : goal.returns-clause-opening
returns-clause-opening c =
    let e = c.nodes-count.ensures.nodes in
    let nodes = c.in_ok-nodes.nodes.items in
    let lists = c.in_ok-lists.lists.items in
    let program = c.args.work.now.program.now in
    let image = c.args.work.now.image.now in
    subst (λ (l : Shape). core_with (work_with program image l c.args.work.now.budget) nodes lists
    ≡ opening_core (work_with program image l c.args.work.now.budget)) (sym c.in_ok-copy.ensures)
    (opened_core (work_with program image c.args.work.now.layout.now c.args.work.now.budget) nodes lists
    c.in_ok-nodes.ensures.first
    (λ j i. ap (λ n. wires_of lists n j i) (sym e) ∙ c.in_ok-lists.ensures.empty j i))
