-- The turns of nodes and lists are those of the core.
use Rattle.std.proofs.Common.{◌≡◌, ap, map, sym, subst, ◌∙◌, List}
use Rattle.std.specs.Prelude.{MatchOption}
use Rattle.lane_law.specs.dsm_protocol.Queue.{Queue}
use Rattle.lane_machine.specs.SmpNodes.{lane_work}
use Rattle.smp_sim.specs.CoreParts.{CoreParts, IsCore, core_of, core_with, event_of, parts_of, work_of}
use Rattle.smp_sim.specs.ByOrder.{choices}
use Rattle.smp_sim.specs.Turns.{LeadsOn, StopsAt}
use Rattle.smp_sim.proofs.cores.SmpCore.run_silent.Goals as goal

pub run_silent-requires-clause-core : goal.run_silent-requires-clause-core
run_silent-requires-clause-core c =
    let x = c.self.inside in (
      x.output.items,
      subst (λ (qs : List Queue). IsCore (parts_of x.work x.nodes.items qs x.output.items))
          (sym c.deref.ensures.value) c.self.invariant,
    )

pub run_silent-requires-clause-listed : goal.run_silent-requires-clause-listed
run_silent-requires-clause-listed c =
    let x = c.self.inside in
    let w = lane_work x.work in
    subst (λ (qs : List Queue). map event_of c.args.events.now ≡ choices w (core_with w x.nodes.items qs))
    (sym c.deref.ensures.value) (c.requires.listed
    ∙ ap (λ (q : CoreParts). choices (work_of q) (core_of q)) (sym c.self.view_is))

pub invariant_of-self : goal.invariant_of-self
invariant_of-self c =
    let x = c.self.inside in
    subst (λ (qs : List Queue). IsCore (parts_of x.work c.run_silent.new.nodes.items qs x.output.items))
    c.deref.ensures.value (c.run_silent.ensures.core x.output.items
    (subst (λ (qs : List Queue). IsCore (parts_of x.work x.nodes.items qs x.output.items))
    (sym c.deref.ensures.value) c.self.invariant))

pub returns-clause-listed : goal.returns-clause-listed
returns-clause-listed c =
    let x = c.self.inside in
    let w = lane_work x.work in
    subst (λ (qs : List Queue). map event_of c.args.events.now
    ≡ choices w (core_with w c.run_silent.new.nodes.items qs)) c.deref.ensures.value
    c.run_silent.ensures.listed

pub returns-clause-leads : goal.returns-clause-leads
returns-clause-leads c =
    let x = c.self.inside in
    let out = x.output.items in
    let ns = c.run_silent.new.nodes.items in
    let number = c.args.order.now in
    let next = c.run_silent.new.order in
    let given = c.run_silent.ensures.leads out
    (subst (λ (qs : List Queue). IsCore (parts_of x.work x.nodes.items qs out))
    (sym c.deref.ensures.value) c.self.invariant) in
    subst (λ (p : CoreParts). MatchOption c.run_silent.result
    (LeadsOn 1 number p next (parts_of x.work ns x.lists.items out))
    (λ e. StopsAt number p next (parts_of x.work ns x.lists.items out) (event_of e))) c.self.view_is
    (subst (λ (qs : List Queue). MatchOption c.run_silent.result
    (LeadsOn 1 number (parts_of x.work x.nodes.items qs out) next (parts_of x.work ns qs out))
    (λ e. StopsAt number (parts_of x.work x.nodes.items qs out) next (parts_of x.work ns qs out)
    (event_of e))) c.deref.ensures.value given)
