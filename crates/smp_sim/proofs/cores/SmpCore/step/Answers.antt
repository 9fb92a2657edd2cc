-- An event of the nodes and lists is one of the core.
use Rattle.std.proofs.Common.{◌≡◌, ◌∷◌, ◌++◌, [], List, refl, sym, subst}
use Rattle.lane_model.specs.Core.{LaneEvent, May, event_step}
use Rattle.smp_sim.specs.CoreParts.{AreAlike, CoreParts, IsRunTo, core_of, core_with, event_of, work_of}
use Rattle.smp_sim.specs.CoreSteps.{HaveKept, HaveMade}
use Rattle.smp_sim.proofs.CoreRuns.{run_then}
use Rattle.smp_sim.proofs.CoreSteps.{on_ok, on_err}
use Rattle.smp_sim.proofs.Promised.{in_range, is_stepped}
use Rattle.smp_sim.proofs.cores.SmpCore.step.Goals as goal

pub make-requires-clause-stored : goal.make-requires-clause-stored
make-requires-clause-stored c = c.self.invariant.stored

pub make-requires-clause-some : goal.make-requires-clause-some
make-requires-clause-some c = c.self.invariant.work.some

pub make-requires-clause-few : goal.make-requires-clause-few
make-requires-clause-few c = c.self.invariant.work.few

pub make-requires-clause-range : goal.make-requires-clause-range
make-requires-clause-range c =
    let p : CoreParts = record {
      program = c.self.inside.work.program.now;
      image = c.self.inside.work.image.now;
      layout = c.self.inside.work.layout.now;
      budget = c.self.inside.work.budget;
      lanes = c.self.inside.work.lanes;
      nodes = c.self.inside.nodes.items;
      lists = c.self.inside.lists.items;
      output = c.self.inside.output.items;
    } in
    in_range p c.lane_progress_law.ensures.short c.self.invariant

pub make-requires-clause-allowed : goal.make-requires-clause-allowed
make-requires-clause-allowed c =
    subst (λ (q : CoreParts). May (work_of q) (core_of q) (event_of c.args.event))
    (sym c.self.view_is) c.requires.enabled

pub invariant_of-self : goal.invariant_of-self
invariant_of-self c =
    let p : CoreParts = record {
      program = c.self.inside.work.program.now;
      image = c.self.inside.work.image.now;
      layout = c.self.inside.work.layout.now;
      budget = c.self.inside.work.budget;
      lanes = c.self.inside.work.lanes;
      nodes = c.self.inside.nodes.items;
      lists = c.self.inside.lists.items;
      output = c.self.inside.output.items;
    } in
    let may = subst (λ (q : CoreParts). May (work_of q) (core_of q) (event_of c.args.event))
    (sym c.self.view_is) c.requires.enabled in
    is_stepped c.make.result p c.make.new.nodes.items c.make.new.lists.items
    c.make.new.output.items (event_of c.args.event) c.self.invariant may c.make.ensures.stored
    c.make.ensures.event c.make.ensures.err

pub returns-clause-event : goal.returns-clause-event
returns-clause-event c =
    let p : CoreParts = record {
      program = c.self.inside.work.program.now;
      image = c.self.inside.work.image.now;
      layout = c.self.inside.work.layout.now;
      budget = c.self.inside.work.budget;
      lanes = c.self.inside.work.lanes;
      nodes = c.self.inside.nodes.items;
      lists = c.self.inside.lists.items;
      output = c.self.inside.output.items;
    } in
    let ns = c.make.new.nodes.items in
    let qs = c.make.new.lists.items in
    let e = event_of c.args.event in
    on_ok c.make.result
    (λ (made : HaveMade (work_of p) p.nodes ns p.lists qs p.output c.make.new.output.items e).
    subst (λ (q : CoreParts). AreAlike q.layout.nodes (core_with (work_of p) ns qs)
    (event_step (work_of q) (core_of q) e)) c.self.view_is made.event) c.make.ensures.event

pub returns-clause-run : goal.returns-clause-run
returns-clause-run c =
    let p : CoreParts = record {
      program = c.self.inside.work.program.now;
      image = c.self.inside.work.image.now;
      layout = c.self.inside.work.layout.now;
      budget = c.self.inside.work.budget;
      lanes = c.self.inside.work.lanes;
      nodes = c.self.inside.nodes.items;
      lists = c.self.inside.lists.items;
      output = c.self.inside.output.items;
    } in
    let ns = c.make.new.nodes.items in
    let qs = c.make.new.lists.items in
    let out = c.make.new.output.items in
    let e = event_of c.args.event in
    let may = subst (λ (q : CoreParts). May (work_of q) (core_of q) e) (sym c.self.view_is)
    c.requires.enabled in
    let r : CoreParts = record p { nodes = ns; lists = qs; output = out } in
    on_ok c.make.result
    (λ (made : HaveMade (work_of p) p.nodes ns p.lists qs p.output out e).
    subst (λ (q : CoreParts). (run : List LaneEvent) → IsRunTo run q → IsRunTo (run ++ e ∷ []) r)
    c.self.view_is (λ run to. run_then p r run e c.self.invariant.work.some refl may made.event
    made.output to)) c.make.ensures.event

pub returns-clause-err : goal.returns-clause-err
returns-clause-err c =
    let p : CoreParts = record {
      program = c.self.inside.work.program.now;
      image = c.self.inside.work.image.now;
      layout = c.self.inside.work.layout.now;
      budget = c.self.inside.work.budget;
      lanes = c.self.inside.work.lanes;
      nodes = c.self.inside.nodes.items;
      lists = c.self.inside.lists.items;
      output = c.self.inside.output.items;
    } in
    let ns = c.make.new.nodes.items in
    let qs = c.make.new.lists.items in
    let out = c.make.new.output.items in
    on_err c.make.result
    (λ (kept : HaveKept (work_of p) p.nodes ns p.lists qs p.output out).
    subst (λ (q : CoreParts). core_with (work_of p) ns qs ≡ core_of q) c.self.view_is kept.core)
    c.make.ensures.err

pub returns-clause-output : goal.returns-clause-output
returns-clause-output c =
    let p : CoreParts = record {
      program = c.self.inside.work.program.now;
      image = c.self.inside.work.image.now;
      layout = c.self.inside.work.layout.now;
      budget = c.self.inside.work.budget;
      lanes = c.self.inside.work.lanes;
      nodes = c.self.inside.nodes.items;
      lists = c.self.inside.lists.items;
      output = c.self.inside.output.items;
    } in
    let ns = c.make.new.nodes.items in
    let qs = c.make.new.lists.items in
    let out = c.make.new.output.items in
    on_err c.make.result
    (λ (kept : HaveKept (work_of p) p.nodes ns p.lists qs p.output out).
    subst (λ (q : CoreParts). out ≡ q.output) c.self.view_is kept.output)
    c.make.ensures.err
