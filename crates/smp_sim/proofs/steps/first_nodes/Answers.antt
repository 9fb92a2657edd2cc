-- One node more.
use Rattle.std.proofs.Common.{◌≤◌, ◌+◌, sym, subst}
use Rattle.lane_machine.specs.SmpNodes.{lane_work}
use Rattle.smp_sim.specs.CoreSteps.{AreFirst}
use Rattle.smp_sim.proofs.Firsts.{first_more}
use Rattle.smp_sim.proofs.steps.first_nodes.Goals as goal

pub loop-me-preserved : goal.loop-me-preserved
loop-me-preserved c =
    let w = lane_work c.args.work.now in
    let x = c.in_ok-node.node in
    let me = c.loop-me.me in
    let is = c.push_reserved.ensures.items in
    let more = first_more w c.loop-me.nodes.items x me c.loop-me.invariant.first
    c.in_ok-node.ensures.is_node c.in_ok-node.ensures.opening in
    record {
      len = (subst (AreFirst w (me + 1)) (sym is) more).count;
      room = subst (λ z. c.nodes-count.result ≤ z) (sym c.push_reserved.ensures.capacity)
          c.loop-me.invariant.room;
      first = subst (AreFirst w (me + 1)) (sym is) more;
    }
