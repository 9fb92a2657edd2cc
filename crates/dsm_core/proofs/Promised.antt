-- What the laws of progress and of stamps say of a core.
use Rattle.std.proofs.Common.{◌≡◌, ◌≢◌, ℕ, ◌<◌, List, [], sym, ap, ◌∙◌, subst}
use Rattle.block_layout.specs.Layout.{IsValid}
use Rattle.rv32_program.specs.Program.{IsAccepted}
use Rattle.rewriting_law.specs.templates.declared.plans.PlanEntry.{PlanEntry}
use Rattle.node_machine.specs.jump_map.Image.{IsRewriting}
use Rattle.rewriting_law.specs.dsm_messages.declared.messages.Wire.{Wire}
use Rattle.run_order.specs.node_model.declared.Standing.TheVariants.{Over}
use Rattle.run_order.specs.node_model.Node.{Work, Node, Resume, Waiting, IsLaidOver, standing_of}
use Rattle.run_order.specs.node_model.Core.{Core, Event, May, IsOver, IsCoreRun, opening_core, after, AreAlike}
use Rattle.run_order.specs.OwnRun.{Stamped, StandsForOwnRun, events_of, run_of}
use Rattle.dsm_core.specs.CoreParts.{CoreParts, work_of, core_of, IsCore}
use Rattle.dsm_core.proofs.CoreRuns.{alike_also, alike_back, may_alike}

-- 1. The own run

abbrev pub HaveOwnRun : Type 0
HaveOwnRun = (work : Work) (run : List Event) → IsCoreRun work (opening_core work) run
    → (events : List Stamped) × StandsForOwnRun work (after work (opening_core work) run) events

pub stands_alike : (work : Work) (c d : Core) (events : List Stamped)
    → AreAlike work.layout.nodes c d → StandsForOwnRun work d events → StandsForOwnRun work c events
stands_alike work c d events a stands = record {
  are_events = record {
    sorted = stands.are_events.sorted;
    below = stands.are_events.below;
    each = λ i bi. stands.are_events.each i bi ∙ ap (events_of i) (sym (a.nodes i bi));
  };
  is_run = stands.is_run;
  ends = alike_also work.layout.nodes c d
      (after work (opening_core work) (run_of events)) a stands.ends;
}

pub own_run : (p : CoreParts) → HaveOwnRun → IsCore p
    → (events : List Stamped) × StandsForOwnRun (work_of p) (core_of p) events
own_run p law is =
    let work = work_of p in
    let l = is.led_to in
    let last = after work (opening_core work) l.run in
    let own = law work l.run l.is_run in
    (own.0, stands_alike work (core_of p) last own.0 l.leads own.1)

-- 2. Progress

abbrev pub RunsGoOn : Type 0
RunsGoOn = (work : Work) (plan : List PlanEntry) (events : List Event) (i : ℕ)
    → IsAccepted work.program → IsValid work.layout → IsLaidOver work.program work.layout
    → IsRewriting work.program plan work.image → IsCoreRun work (opening_core work) events
    → i < work.layout.nodes
    → standing_of work ((after work (opening_core work) events).nodes i) ≢ Over
    → (event : Event) × May work (after work (opening_core work) events) event

pub goes_on : (p : CoreParts) → RunsGoOn → IsCore p → (i : ℕ) → i < p.layout.nodes
    → standing_of (work_of p) ((core_of p).nodes i) ≢ Over
    → (event : Event) × May (work_of p) (core_of p) event
goes_on p law is i bi other =
    let work = work_of p in
    let r = is.are_parts.rewritten in
    let l = is.led_to in
    let last = after work (opening_core work) l.run in
    let next = law work r.plan l.run i r.accepted r.valid r.laid_over r.rewriting l.is_run bi
    (subst (λ (n : Node). standing_of work n ≢ Over) (l.leads.nodes i bi) other) in (
      next.0,
      may_alike work last (core_of p) next.0
          (alike_back p.layout.nodes (core_of p) last l.leads) next.1,
    )

abbrev pub RunsMove : Type 0
RunsMove = (work : Work) (plan : List PlanEntry) (events : List Event) (i : ℕ) (resume : Resume)
    → IsAccepted work.program → IsValid work.layout → IsLaidOver work.program work.layout
    → IsRewriting work.program plan work.image → IsCoreRun work (opening_core work) events
    → i < work.layout.nodes
    → ((after work (opening_core work) events).nodes i).phase ≡ Waiting resume
    → (j : ℕ) × (k : ℕ) × (j < work.layout.nodes) × (k < work.layout.nodes)
    × ((after work (opening_core work) events).list j k ≢ [])

pub moves : (p : CoreParts) → RunsMove → IsCore p → (i : ℕ) (resume : Resume)
    → i < p.layout.nodes → ((core_of p).nodes i).phase ≡ Waiting resume → (j : ℕ) × (k : ℕ)
    × (j < p.layout.nodes) × (k < p.layout.nodes) × ((core_of p).list j k ≢ [])
moves p law is i resume bi waits =
    let work = work_of p in
    let r = is.are_parts.rewritten in
    let l = is.led_to in
    let some = law work r.plan l.run i resume r.accepted r.valid r.laid_over r.rewriting l.is_run bi
    (ap (λ (n : Node). n.phase) (sym (l.leads.nodes i bi)) ∙ waits) in (
      some.0,
      some.1,
      some.2,
      some.3,
      subst (λ (ws : List Wire). ws ≢ []) (sym (l.leads.lists some.0 some.1 some.2 some.3)) some.4,
    )

abbrev pub RunsEndEmpty : Type 0
RunsEndEmpty = (work : Work) (plan : List PlanEntry) (events : List Event) (j k : ℕ)
    → IsAccepted work.program → IsValid work.layout → IsLaidOver work.program work.layout
    → IsRewriting work.program plan work.image → IsCoreRun work (opening_core work) events
    → ((i : ℕ) → i < work.layout.nodes
    → standing_of work ((after work (opening_core work) events).nodes i) ≡ Over)
    → j < work.layout.nodes → k < work.layout.nodes
    → (after work (opening_core work) events).list j k ≡ []

pub lists_empty : (p : CoreParts) → RunsEndEmpty → IsCore p → IsOver (work_of p) (core_of p)
    → (j i : ℕ) → j < p.layout.nodes → i < p.layout.nodes → (core_of p).list j i ≡ []
lists_empty p law is over j i bj bi =
    let work = work_of p in
    let r = is.are_parts.rewritten in
    let l = is.led_to in
    l.leads.lists j i bj bi
    ∙ law work r.plan l.run j i r.accepted r.valid r.laid_over r.rewriting l.is_run
    (λ k bk. subst (λ (n : Node). standing_of work n ≡ Over) (l.leads.nodes k bk) (over k bk)) bj bi
