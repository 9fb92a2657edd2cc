-- The nodes and lists of the start stand for the opening core.
use Rattle.std.proofs.Common.{◌≤◌, ◌∙◌, sym, ap, subst}
use Rattle.lane_law.specs.dsm_protocol.Queue.{AreQueues, wires_of}
use Rattle.dsm_core.specs.CoreParts.{work_in}
use Rattle.smp_sim.specs.CoreParts.{CoreParts, work_of, work_with}
use Rattle.smp_sim.proofs.CoreRuns.{few_nodes}
use Rattle.smp_sim.proofs.Promised.{opened, opened_core, opened_run}
use Rattle.smp_sim.proofs.cores.SmpCore.new.Goals as goal

pub first_nodes-requires-clause-layout : goal.first_nodes-requires-clause-layout
first_nodes-requires-clause-layout c = c.requires.rewritten.laid_over

pub empty_lists-requires : goal.empty_lists-requires
empty_lists-requires c = subst (λ z. z ≤ 16) (sym c.nodes-count.ensures.nodes)
    (few_nodes c.args.work.now.layout.now.nodes c.args.lanes c.requires.some c.requires.few)

pub invariant_of-result : goal.invariant_of-result
invariant_of-result c =
    let e = c.nodes-count.ensures.nodes in
    let lists = c.in_ok-lists.lists.items in
    let first = c.in_ok-nodes.ensures.first in
    let p : CoreParts = record {
      program = c.args.work.now.program.now;
      image = c.args.work.now.image.now;
      layout = c.args.work.now.layout.now;
      budget = c.args.work.now.budget;
      lanes = c.args.lanes;
      nodes = c.in_ok-nodes.nodes.items;
      lists = lists;
      output = c.new.result.items;
    } in
    opened p (record {
      rewritten = c.requires.rewritten;
      some = c.requires.some;
      four = c.requires.four;
      few = c.requires.few;
    }) (record {
      count = first.count;
      queues = subst (AreQueues lists) e c.in_ok-lists.ensures.queues;
      each = first.each;
    }) (opened_core (work_of p) p.nodes lists first
    (λ j i. ap (λ n. wires_of lists n j i) (sym e) ∙ c.in_ok-lists.ensures.empty j i)) c.new.ensures.items

pub returns-clause-opening : goal.returns-clause-opening
returns-clause-opening c =
    let lists = c.in_ok-lists.lists.items in
    let w = work_with (work_in c.args.work.now) c.args.lanes in
    opened_core w c.in_ok-nodes.nodes.items lists c.in_ok-nodes.ensures.first
    (λ j i. ap (λ n. wires_of lists n j i) (sym c.nodes-count.ensures.nodes)
    ∙ c.in_ok-lists.ensures.empty j i)

pub returns-clause-run : goal.returns-clause-run
returns-clause-run c =
    let lists = c.in_ok-lists.lists.items in
    let p : CoreParts = record {
      program = c.args.work.now.program.now;
      image = c.args.work.now.image.now;
      layout = c.args.work.now.layout.now;
      budget = c.args.work.now.budget;
      lanes = c.args.lanes;
      nodes = c.in_ok-nodes.nodes.items;
      lists = lists;
      output = c.new.result.items;
    } in
    opened_run p (opened_core (work_of p) p.nodes lists c.in_ok-nodes.ensures.first
    (λ j i. ap (λ n. wires_of lists n j i) (sym c.nodes-count.ensures.nodes)
    ∙ c.in_ok-lists.ensures.empty j i)) c.new.ensures.items
