-- What holds of every core: by the law of progress, and from event to event.
use Rattle.std.proofs.Common.{◌≡◌, ℕ, ◌+◌, ◌*◌, ◌^◌, ◌<◌, ◌≤◌, true, false, List, [], ◌∷◌, ◌++◌, length, Result, Ok, Err, OnOk, OnErr, refl, sym, ap, ◌∙◌, subst, arith, length-append}
use Rattle.std.proofs.Math.Path.{fun_ext}
use Rattle.std.proofs.lemmas.Nat.{mul-le}
use Rattle.std.proofs.lemmas.List.Elements.{All-nil}
use Rattle.templates.specs.declared.plans.PlanEntry.{PlanEntry}
use Rattle.home_directory.specs.dsm_messages.declared.messages.Wire.{Wire}
use Rattle.lane_law.specs.dsm_protocol.Queue.{Queue, wires_of}
use Rattle.lane_model.specs.Nodes.{LaneWork, LaneNode, processors}
use Rattle.lane_model.specs.Core.{LaneCore, LaneEvent, May, is_over, opening_core, IsLaneRun, after, printed_by}
use Rattle.lane_law.specs.Law.{AreAllOver, AreEmpty, GoesOn, RunsOnLanes, most_lane_events}
use Rattle.lane_machine.specs.declared.node.SmpNode.{SmpNode}
use Rattle.smp_sim.specs.CoreParts.{AreAlike, AreStored, CoreParts, HasStamps, HasStampsInRange, IsCore, IsRunTo, IsWork, core_of, core_with, work_of}
use Rattle.smp_sim.specs.CoreSteps.{AreFirst, HaveKept, HaveMade}
use Rattle.smp_sim.proofs.CoreRuns.{alike_back, may_alike, run_then}

-- 1. By the law of progress

pub runs_on : (w : LaneWork) (is : IsWork w) → RunsOnLanes w is.rewritten.plan
runs_on w is = record {
  accepted = is.rewritten.accepted;
  valid = is.rewritten.valid;
  laid_over = is.rewritten.laid_over;
  rewriting = is.rewritten.rewriting;
  some = is.some;
  four = is.four;
  few = is.few;
}

abbrev pub AreShort : Type 0
AreShort = (w : LaneWork) (plan : List PlanEntry) (events : List LaneEvent) → RunsOnLanes w plan
    → 0 < w.work.budget → IsLaneRun w (opening_core w) events → length events ≤ most_lane_events w

pub few_events : (p : CoreParts) (run : List LaneEvent) → AreShort → IsCore p → IsRunTo run p
    → length run ≤ most_lane_events (work_of p)
few_events p run law is to =
    law (work_of p) is.work.rewritten.plan run (runs_on (work_of p) is.work) is.work.rewritten.some
    to.is_run

most : (n r budget : ℕ) → n ≤ 16 → r ≤ 16 → budget ≤ 2 ^ 32
    → (4 * n + 5) * (r * budget) + n * n < 2 ^ 56
most n r budget few rows range =
    let words = mul-le r budget 16 (2 ^ 32) rows range in
    let runs = mul-le (4 * n + 5) (r * budget) 69 (16 * 2 ^ 32) (omega arith) words in
    let byes = mul-le n n 16 16 few few in
    omega (arith, runs, byes)

pub in_range : (p : CoreParts) → AreShort → IsCore p → HasStampsInRange p.layout.nodes (core_of p)
in_range p law is =
    let m : ℕ = most_lane_events (work_of p) in
    let a : length is.run ≤ m = few_events p is.run law is is.leads in
    let b : m < 2 ^ 56 = most p.layout.nodes (processors (work_of p)) p.budget is.stored.queues.few
    is.work.few is.work.rewritten.few in
    (length is.run, below (length is.run) m a b, is.stamps)
  where
    below : (k m : ℕ) → k ≤ m → m < 2 ^ 56 → k < 2 ^ 56
    below k m p q = omega arith

abbrev pub RunsGoOn : Type 0
RunsGoOn = (w : LaneWork) (plan : List PlanEntry) (events : List LaneEvent) → RunsOnLanes w plan
    → IsLaneRun w (opening_core w) events → GoesOn w (after w (opening_core w) events)

pub goes_on : (p : CoreParts) → RunsGoOn → IsCore p → GoesOn (work_of p) (core_of p)
goes_on p law is i bi other =
    let w = work_of p in
    let l = is.leads in
    let last = after w (opening_core w) is.run in
    let next = law w is.work.rewritten.plan is.run (runs_on w is.work) l.is_run i bi
    (subst (λ (x : LaneNode). is_over w x ≡ false) (l.leads.nodes i bi) other) in (
      next.0,
      may_alike w last (core_of p) next.0 is.work.some
          (alike_back p.layout.nodes (core_of p) last l.leads) next.1,
    )

abbrev pub RunsEndEmpty : Type 0
RunsEndEmpty = (w : LaneWork) (plan : List PlanEntry) (events : List LaneEvent) → RunsOnLanes w plan
    → IsLaneRun w (opening_core w) events → AreAllOver w (after w (opening_core w) events)
    → AreEmpty w (after w (opening_core w) events)

pub lists_empty : (p : CoreParts) → RunsEndEmpty → IsCore p → AreAllOver (work_of p) (core_of p)
    → AreEmpty (work_of p) (core_of p)
lists_empty p law is over j i bj bi =
    let w = work_of p in
    let l = is.leads in
    l.leads.lists j i bj bi ∙ law w is.work.rewritten.plan is.run (runs_on w is.work) l.is_run
    (λ k bk. subst (λ (x : LaneNode). is_over w x ≡ true) (l.leads.nodes k bk) (over k bk)) j i bj bi

-- 2. From event to event

abbrev pub parts_after : CoreParts → List SmpNode → List Queue → List ℕ → CoreParts
parts_after p ns qs out = record p { nodes = ns; lists = qs; output = out }

pub is_made : (p : CoreParts) (ns : List SmpNode) (qs : List Queue) (out : List ℕ) (e : LaneEvent)
    → IsCore p → May (work_of p) (core_of p) e → AreStored (work_of p) ns qs
    → HaveMade (work_of p) p.nodes ns p.lists qs p.output out e → IsCore (parts_after p ns qs out)
is_made p ns qs out e is may are made =
    record {
      work = is.work;
      stored = are;
      run = is.run ++ e ∷ [];
      leads = run_then p (parts_after p ns qs out) is.run e is.work.some refl may made.event
          made.output is.leads;
      stamps = subst (λ k. HasStamps p.layout.nodes k (core_with (work_of p) ns qs))
          (sym (length-append is.run (e ∷ []))) (made.stamps (length is.run) is.stamps);
    }

pub run_kept : (p : CoreParts) (ns : List SmpNode) (qs : List Queue) (out : List ℕ)
    (run : List LaneEvent) → HaveKept (work_of p) p.nodes ns p.lists qs p.output out
    → IsRunTo run p → IsRunTo run (parts_after p ns qs out)
run_kept p ns qs out run kept to = record {
  is_run = to.is_run;
  leads = subst (λ (c : LaneCore). AreAlike p.layout.nodes c
      (after (work_of p) (opening_core (work_of p)) run)) (sym kept.core) to.leads;
  output = kept.output ∙ to.output;
}

pub is_kept : (p : CoreParts) (ns : List SmpNode) (qs : List Queue) (out : List ℕ)
    → IsCore p → AreStored (work_of p) ns qs
    → HaveKept (work_of p) p.nodes ns p.lists qs p.output out → IsCore (parts_after p ns qs out)
is_kept p ns qs out is are kept = record {
  work = is.work;
  stored = are;
  run = is.run;
  leads = run_kept p ns qs out is.run kept is.leads;
  stamps = subst (HasStamps p.layout.nodes (length is.run)) (sym kept.core) is.stamps;
}

-- a core that stands for the same, and has printed the same
pub run_same : (p q : CoreParts) → work_of q ≡ work_of p → core_of q ≡ core_of p
    → q.output ≡ p.output → (run : List LaneEvent) → IsRunTo run p → IsRunTo run q
run_same p q work core output run to = record {
  is_run = subst (λ (v : LaneWork). IsLaneRun v (opening_core v) run) (sym work) to.is_run;
  leads = subst (λ (v : LaneWork). AreAlike v.work.layout.nodes (core_of q)
      (after v (opening_core v) run)) (sym work)
      (subst (λ (c : LaneCore). AreAlike p.layout.nodes c
      (after (work_of p) (opening_core (work_of p)) run)) (sym core) to.leads);
  output = output ∙ to.output ∙ ap (λ (v : LaneWork). printed_by v (opening_core v) run) (sym work);
}

pub is_stepped : {A E : Type 0} (r : Result A E) (p : CoreParts) (ns : List SmpNode)
    (qs : List Queue) (out : List ℕ) (e : LaneEvent)
    → IsCore p → May (work_of p) (core_of p) e → AreStored (work_of p) ns qs
    → OnOk r (HaveMade (work_of p) p.nodes ns p.lists qs p.output out e)
    → OnErr r (HaveKept (work_of p) p.nodes ns p.lists qs p.output out)
    → IsCore (parts_after p ns qs out)
is_stepped (Ok x) p ns qs out e is may are made kept = is_made p ns qs out e is may are made
is_stepped (Err x) p ns qs out e is may are made kept = is_kept p ns qs out is are kept

-- 3. The start

pub opened_core : (w : LaneWork) (ns : List SmpNode) (qs : List Queue) → AreFirst w w.work.layout.nodes ns
    → ((j i : ℕ) → wires_of qs w.work.layout.nodes j i ≡ [])
    → core_with w ns qs ≡ opening_core w
opened_core w ns qs first empty = λ t. record {
  nodes = fun_ext first.opening t;
  list = fun_ext (λ j. fun_ext (λ i. empty j i)) t;
}

pub opened_run : (p : CoreParts) → core_of p ≡ opening_core (work_of p) → p.output ≡ []
    → IsRunTo [] p
opened_run p core none = record {
  is_run = tt;
  leads = record {
    nodes = λ i bi. ap (λ (c : LaneCore). c.nodes i) core;
    lists = λ j i bj bi. ap (λ (c : LaneCore). c.list j i) core;
  };
  output = none;
}

pub opened : (p : CoreParts) → IsWork (work_of p) → AreStored (work_of p) p.nodes p.lists
    → core_of p ≡ opening_core (work_of p) → p.output ≡ [] → IsCore p
opened p work are core none = record {
  work = work;
  stored = are;
  run = [];
  leads = opened_run p core none;
  stamps = subst (HasStamps p.layout.nodes 0) (sym core) (record {
    nodes = λ i bi. omega arith;
    wires = λ j i bj bi. All-nil (λ (wire : Wire). wire.stamp ≤ 0);
  });
}
