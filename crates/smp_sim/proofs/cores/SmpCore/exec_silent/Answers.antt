-- The node's turn is the core's event.
use Rattle.std.proofs.Common.{◌≡◌, ◌<◌, ◌≤◌, ◌++◌, true, false, List, [], ◌∷◌, sym, subst, arith}
use Rattle.lane_model.specs.node_model.Core.{may_execute}
use Rattle.lane_model.specs.Nodes.{LaneNode, lane_of, node_of, opening_node}
use Rattle.lane_model.specs.Core.{Exec, LaneEvent, May, event_step, standing_of}
use Rattle.lane_machine.specs.SmpNodes.{node_in}
use Rattle.smp_sim.specs.CoreParts.{AreAlike, CoreParts, IsRunTo, core_of, work_of}
use Rattle.smp_sim.specs.CoreSteps.{IsSilent}
use Rattle.smp_sim.proofs.CoreRuns.{lane_low, placed}
use Rattle.smp_sim.proofs.CoreSteps.{can_execute_by, node_at, read_at}
use Rattle.smp_sim.proofs.Promised.{in_range}
use Rattle.smp_sim.proofs.SilentCore.{core_kept, core_then, event_then, parts_then, run_on, silent_then}
use Rattle.smp_sim.proofs.cores.SmpCore.exec_silent.Goals as goal

pub nonzero_div-node : goal.nonzero_div-node
nonzero_div-node c = c.self.invariant.work.some

pub nonzero_rem-lane : goal.nonzero_rem-lane
nonzero_rem-lane c = c.self.invariant.work.some

pub exec_silent-requires-clause-node : goal.exec_silent-requires-clause-node
exec_silent-requires-clause-node c =
    let p : CoreParts = record {
      program = c.self.inside.work.program.now;
      image = c.self.inside.work.image.now;
      layout = c.self.inside.work.layout.now;
      budget = c.self.inside.work.budget;
      lanes = c.self.inside.work.lanes;
      nodes = c.self.inside.nodes.items;
      lists = c.self.inside.lists.items;
      output = c.self.inside.output.items;
    } in
    let may = subst (λ (q : CoreParts). May (work_of q) (core_of q) (Exec c.args.processor))
    (sym c.self.view_is) c.requires.enabled in
    let w = work_of p in
    let i = node_of w c.args.processor in
    let k = lane_of w c.args.processor in
    let x = c.index_mut.result.now in
    let at = c.index_mut.ensures.value in
    let are = c.self.invariant.stored in
    let some = c.self.invariant.work.some in
    let below = subst (λ z. i < z) (sym are.count) (placed w c.args.processor some may.0) in
    let is = node_at w p.nodes i x are.each below at in
    (w, is)

pub exec_silent-requires-clause-lane : goal.exec_silent-requires-clause-lane
exec_silent-requires-clause-lane c =
    let p : CoreParts = record {
      program = c.self.inside.work.program.now;
      image = c.self.inside.work.image.now;
      layout = c.self.inside.work.layout.now;
      budget = c.self.inside.work.budget;
      lanes = c.self.inside.work.lanes;
      nodes = c.self.inside.nodes.items;
      lists = c.self.inside.lists.items;
      output = c.self.inside.output.items;
    } in
    let may = subst (λ (q : CoreParts). May (work_of q) (core_of q) (Exec c.args.processor))
    (sym c.self.view_is) c.requires.enabled in
    let w = work_of p in
    let i = node_of w c.args.processor in
    let k = lane_of w c.args.processor in
    let x = c.index_mut.result.now in
    let at = c.index_mut.ensures.value in
    let are = c.self.invariant.stored in
    let some = c.self.invariant.work.some in
    let below = subst (λ z. i < z) (sym are.count) (placed w c.args.processor some may.0) in
    let is = node_at w p.nodes i x are.each below at in
    subst (λ z. k < z) (sym is.lanes.count) (lane_low w c.args.processor some)

pub exec_silent-requires-clause-may : goal.exec_silent-requires-clause-may
exec_silent-requires-clause-may c =
    let p : CoreParts = record {
      program = c.self.inside.work.program.now;
      image = c.self.inside.work.image.now;
      layout = c.self.inside.work.layout.now;
      budget = c.self.inside.work.budget;
      lanes = c.self.inside.work.lanes;
      nodes = c.self.inside.nodes.items;
      lists = c.self.inside.lists.items;
      output = c.self.inside.output.items;
    } in
    let may = subst (λ (q : CoreParts). May (work_of q) (core_of q) (Exec c.args.processor))
    (sym c.self.view_is) c.requires.enabled in
    let w = work_of p in
    let i = node_of w c.args.processor in
    let k = lane_of w c.args.processor in
    let x = c.index_mut.result.now in
    let at = c.index_mut.ensures.value in
    let are = c.self.invariant.stored in
    let some = c.self.invariant.work.some in
    let below = subst (λ z. i < z) (sym are.count) (placed w c.args.processor some may.0) in
    let is = node_at w p.nodes i x are.each below at in
    can_execute_by w i k x
    (subst (λ z. k < z) (sym is.lanes.count) (lane_low w c.args.processor some))
    (subst (λ (z : LaneNode). may_execute (standing_of w z k) ≡ true)
    (read_at (node_in w i) p.nodes i x (opening_node w i) below at) may.1)

pub exec_silent-requires-clause-stamp : goal.exec_silent-requires-clause-stamp
exec_silent-requires-clause-stamp c =
    let p : CoreParts = record {
      program = c.self.inside.work.program.now;
      image = c.self.inside.work.image.now;
      layout = c.self.inside.work.layout.now;
      budget = c.self.inside.work.budget;
      lanes = c.self.inside.work.lanes;
      nodes = c.self.inside.nodes.items;
      lists = c.self.inside.lists.items;
      output = c.self.inside.output.items;
    } in
    let may = subst (λ (q : CoreParts). May (work_of q) (core_of q) (Exec c.args.processor))
    (sym c.self.view_is) c.requires.enabled in
    let w = work_of p in
    let i = node_of w c.args.processor in
    let x = c.index_mut.result.now in
    let at = c.index_mut.ensures.value in
    let bi = placed w c.args.processor c.self.invariant.work.some may.0 in
    let below = subst (λ z. i < z) (sym c.self.invariant.stored.count) bi in
    let range = in_range p c.lane_progress_law.ensures.short c.self.invariant in
    let low = subst (λ (z : LaneNode). z.shared.stamp ≤ range.0)
    (read_at (node_in w i) p.nodes i x (opening_node w i) below at) (range.2.nodes i bi) in
    let most = range.1 in
    omega (arith, low, most)

pub invariant_of-self : goal.invariant_of-self
invariant_of-self c =
    let p : CoreParts = record {
      program = c.self.inside.work.program.now;
      image = c.self.inside.work.image.now;
      layout = c.self.inside.work.layout.now;
      budget = c.self.inside.work.budget;
      lanes = c.self.inside.work.lanes;
      nodes = c.self.inside.nodes.items;
      lists = c.self.inside.lists.items;
      output = c.self.inside.output.items;
    } in
    let may = subst (λ (q : CoreParts). May (work_of q) (core_of q) (Exec c.args.processor))
    (sym c.self.view_is) c.requires.enabled in
    let e = c.exec_silent.ensures in
    core_then p c.args.processor c.index_mut.result.now c.exec_silent.new.self c.exec_silent.result
    c.self.invariant may c.index_mut.ensures.value e.is_node e.turn e.may e.stamps e.kept

pub returns-clause-silent : goal.returns-clause-silent
returns-clause-silent c =
    let p : CoreParts = record {
      program = c.self.inside.work.program.now;
      image = c.self.inside.work.image.now;
      layout = c.self.inside.work.layout.now;
      budget = c.self.inside.work.budget;
      lanes = c.self.inside.work.lanes;
      nodes = c.self.inside.nodes.items;
      lists = c.self.inside.lists.items;
      output = c.self.inside.output.items;
    } in
    let may = subst (λ (q : CoreParts). May (work_of q) (core_of q) (Exec c.args.processor))
    (sym c.self.view_is) c.requires.enabled in
    let e = c.exec_silent.ensures in
    subst (λ (q : CoreParts). c.exec_silent.result ≡ true
    → IsSilent (work_of q) (core_of q) c.args.processor) c.self.view_is
    (silent_then p c.args.processor c.index_mut.result.now c.exec_silent.new.self c.exec_silent.result
    c.self.invariant may c.index_mut.ensures.value e.is_node e.turn e.may e.stamps e.kept)

pub returns-clause-event : goal.returns-clause-event
returns-clause-event c =
    let p : CoreParts = record {
      program = c.self.inside.work.program.now;
      image = c.self.inside.work.image.now;
      layout = c.self.inside.work.layout.now;
      budget = c.self.inside.work.budget;
      lanes = c.self.inside.work.lanes;
      nodes = c.self.inside.nodes.items;
      lists = c.self.inside.lists.items;
      output = c.self.inside.output.items;
    } in
    let may = subst (λ (q : CoreParts). May (work_of q) (core_of q) (Exec c.args.processor))
    (sym c.self.view_is) c.requires.enabled in
    let e = c.exec_silent.ensures in
    let r = parts_then p c.args.processor c.index_mut.result.now c.exec_silent.new.self c.exec_silent.result
    c.self.invariant may c.index_mut.ensures.value e.is_node e.turn e.may e.stamps e.kept in
    subst (λ (q : CoreParts). c.exec_silent.result ≡ true → AreAlike q.layout.nodes (core_of r)
    (event_step (work_of q) (core_of q) (Exec c.args.processor))) c.self.view_is
    (event_then p c.args.processor c.index_mut.result.now c.exec_silent.new.self c.exec_silent.result
    c.self.invariant may c.index_mut.ensures.value e.is_node e.turn e.may e.stamps e.kept)

pub returns-clause-run : goal.returns-clause-run
returns-clause-run c =
    let p : CoreParts = record {
      program = c.self.inside.work.program.now;
      image = c.self.inside.work.image.now;
      layout = c.self.inside.work.layout.now;
      budget = c.self.inside.work.budget;
      lanes = c.self.inside.work.lanes;
      nodes = c.self.inside.nodes.items;
      lists = c.self.inside.lists.items;
      output = c.self.inside.output.items;
    } in
    let may = subst (λ (q : CoreParts). May (work_of q) (core_of q) (Exec c.args.processor))
    (sym c.self.view_is) c.requires.enabled in
    let e = c.exec_silent.ensures in
    let r = parts_then p c.args.processor c.index_mut.result.now c.exec_silent.new.self c.exec_silent.result
    c.self.invariant may c.index_mut.ensures.value e.is_node e.turn e.may e.stamps e.kept in
    subst (λ (q : CoreParts). c.exec_silent.result ≡ true → (run : List LaneEvent)
    → IsRunTo run q → IsRunTo (run ++ Exec c.args.processor ∷ []) r) c.self.view_is
    (run_on p c.args.processor c.index_mut.result.now c.exec_silent.new.self c.exec_silent.result
    c.self.invariant may c.index_mut.ensures.value e.is_node e.turn e.may e.stamps e.kept)

pub returns-clause-kept : goal.returns-clause-kept
returns-clause-kept c =
    let p : CoreParts = record {
      program = c.self.inside.work.program.now;
      image = c.self.inside.work.image.now;
      layout = c.self.inside.work.layout.now;
      budget = c.self.inside.work.budget;
      lanes = c.self.inside.work.lanes;
      nodes = c.self.inside.nodes.items;
      lists = c.self.inside.lists.items;
      output = c.self.inside.output.items;
    } in
    let may = subst (λ (q : CoreParts). May (work_of q) (core_of q) (Exec c.args.processor))
    (sym c.self.view_is) c.requires.enabled in
    let e = c.exec_silent.ensures in
    let r = parts_then p c.args.processor c.index_mut.result.now c.exec_silent.new.self c.exec_silent.result
    c.self.invariant may c.index_mut.ensures.value e.is_node e.turn e.may e.stamps e.kept in
    subst (λ (q : CoreParts). c.exec_silent.result ≡ false → core_of r ≡ core_of q) c.self.view_is
    (core_kept p c.args.processor c.index_mut.result.now c.exec_silent.new.self c.exec_silent.result
    c.self.invariant may c.index_mut.ensures.value e.is_node e.turn e.may e.stamps e.kept)
