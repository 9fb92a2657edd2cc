-- The nodes and lists that are stored are those of the core.
use Rattle.std.proofs.Common.{◌≡◌, true, List, sym, subst}
use Rattle.std.specs.Prelude.{◌↔◌}
use Rattle.lane_model.specs.Core.{May}
use Rattle.lane_law.specs.dsm_protocol.Queue.{Queue}
use Rattle.lane_machine.specs.declared.node.SmpNode.{SmpNode}
use Rattle.smp_sim.specs.CoreParts.{AreStored, CoreParts, core_of, core_with, event_of, work_of}
use Rattle.smp_sim.proofs.cores.SmpCore.enabled.Goals as goal

pub is_enabled-requires-clause-stored : goal.is_enabled-requires-clause-stored
is_enabled-requires-clause-stored c =
    let p : CoreParts = record {
      program = c.self.inside.work.program.now;
      image = c.self.inside.work.image.now;
      layout = c.self.inside.work.layout.now;
      budget = c.self.inside.work.budget;
      lanes = c.self.inside.work.lanes;
      nodes = c.self.inside.nodes.items;
      lists = c.self.inside.lists.items;
      output = c.self.inside.output.items;
    } in
    subst (λ (ns : List SmpNode). AreStored (work_of p) ns c.deref-2.result.now)
    (sym c.deref.ensures.value)
    (subst (AreStored (work_of p) p.nodes) (sym c.deref-2.ensures.value) c.self.invariant.stored)

pub is_enabled-requires-clause-some : goal.is_enabled-requires-clause-some
is_enabled-requires-clause-some c = c.self.invariant.work.some

pub is_enabled-requires-clause-few : goal.is_enabled-requires-clause-few
is_enabled-requires-clause-few c = c.self.invariant.work.few

pub returns : goal.returns
returns c =
    let p : CoreParts = record {
      program = c.self.inside.work.program.now;
      image = c.self.inside.work.image.now;
      layout = c.self.inside.work.layout.now;
      budget = c.self.inside.work.budget;
      lanes = c.self.inside.work.lanes;
      nodes = c.self.inside.nodes.items;
      lists = c.self.inside.lists.items;
      output = c.self.inside.output.items;
    } in
    let w = work_of p in
    let e = event_of c.args.event in
    let nodes = subst (λ (ns : List SmpNode). (c.is_enabled.result ≡ true)
    ↔ May w (core_with w ns c.deref-2.result.now) e) c.deref.ensures.value
    c.is_enabled.ensures.value in
    let may = subst (λ (qs : List Queue). (c.is_enabled.result ≡ true)
    ↔ May w (core_with w p.nodes qs) e) c.deref-2.ensures.value nodes in
    record {
      value = subst (λ (q : CoreParts). (c.is_enabled.result ≡ true)
          ↔ May (work_of q) (core_of q) (event_of c.args.event)) c.self.view_is may;
    }
