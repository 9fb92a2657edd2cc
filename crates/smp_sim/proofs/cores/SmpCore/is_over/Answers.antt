-- The nodes and lists that are stored are those of the core.
use Rattle.std.proofs.Common.{◌≡◌, true, List, sym, subst}
use Rattle.std.specs.Prelude.{◌↔◌}
use Rattle.lane_law.specs.Law.{AreAllOver}
use Rattle.lane_law.specs.dsm_protocol.Queue.{Queue}
use Rattle.lane_machine.specs.declared.node.SmpNode.{SmpNode}
use Rattle.smp_sim.specs.CoreParts.{AreStored, CoreParts, core_of, core_with, work_of}
use Rattle.smp_sim.proofs.cores.SmpCore.is_over.Goals as goal

pub are_over-requires : goal.are_over-requires
are_over-requires c =
    let p : CoreParts = record {
      program = c.self.inside.work.program.now;
      image = c.self.inside.work.image.now;
      layout = c.self.inside.work.layout.now;
      budget = c.self.inside.work.budget;
      lanes = c.self.inside.work.lanes;
      nodes = c.self.inside.nodes.items;
      lists = c.self.inside.lists.items;
      output = c.self.inside.output.items;
    } in
    record {
      stored = subst (λ (ns : List SmpNode). AreStored (work_of p) ns c.deref-2.result.now)
          (sym c.deref.ensures.value)
          (subst (AreStored (work_of p) p.nodes) (sym c.deref-2.ensures.value) c.self.invariant.stored);
    }

pub returns : goal.returns
returns c =
    let p : CoreParts = record {
      program = c.self.inside.work.program.now;
      image = c.self.inside.work.image.now;
      layout = c.self.inside.work.layout.now;
      budget = c.self.inside.work.budget;
      lanes = c.self.inside.work.lanes;
      nodes = c.self.inside.nodes.items;
      lists = c.self.inside.lists.items;
      output = c.self.inside.output.items;
    } in
    let w = work_of p in
    let nodes = subst (λ (ns : List SmpNode). (c.are_over.result ≡ true)
    ↔ AreAllOver w (core_with w ns c.deref-2.result.now)) c.deref.ensures.value
    c.are_over.ensures.value in
    let over = subst (λ (qs : List Queue). (c.are_over.result ≡ true)
    ↔ AreAllOver w (core_with w p.nodes qs)) c.deref-2.ensures.value nodes in
    record {
      value = subst (λ (q : CoreParts). (c.are_over.result ≡ true) ↔ AreAllOver (work_of q) (core_of q))
          c.self.view_is over;
    }
