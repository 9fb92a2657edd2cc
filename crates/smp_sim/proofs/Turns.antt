-- Turns of an order, one after another.
use Rattle.std.proofs.Common.{◌≡◌, ℕ, ◌+◌, ◌*◌, ◌^◌, ◌<◌, ◌≤◌, List, [], ◌∷◌, ◌++◌, length, map, Some, refl, sym, ap, ◌∙◌, subst, arith, length-append}
use Rattle.std.proofs.lemmas.Nat.{mul-le}
use Rattle.random_order.specs.Orders.{following, after_turns, choice}
use Rattle.lane_model.specs.node_model.Outcome.{Outcome}
use Rattle.lane_model.specs.Nodes.{LaneWork, processors}
use Rattle.lane_model.specs.Core.{LaneCore, LaneEvent, May, after, event_step, is_over, opening_core}
use Rattle.lane_model.specs.Outcome.{IsLaneOutcomeOf}
use Rattle.lane_law.specs.Law.{AreAllOver, most_lane_events}
use Rattle.smp_sim.specs.declared.cores.SmpEvent.{SmpEvent as Stored}
use Rattle.smp_sim.specs.CoreParts.{CoreParts, IsRunTo, core_of, event_of, work_of}
use Rattle.smp_sim.proofs.CoreRuns.{few_nodes}
use Rattle.smp_sim.specs.ByOrder.{choices, pick_among, FollowsOrder, IsLaneOutcomeByOrder}
use Rattle.smp_sim.specs.Turns.{ArePicked, LeadsTo, StopsAt}
use Rattle.smp_sim.proofs.Choices.{choices_alike, choice_may}

-- 1. Events that an order picks

picked_append : (w : LaneWork) (number : ℕ) (c : LaneCore) (es fs : List LaneEvent)
    → ArePicked w number c es → ArePicked w (after_turns (length es) number) (after w c es) fs
    → ArePicked w number c (es ++ fs)
picked_append w number c [] fs p q = q
picked_append w number c (e ∷ es) fs p q =
    (p.0, picked_append w (following number) (event_step w c e) es fs p.1 q)

picked_follows : (w : LaneWork) (number : ℕ) (c : LaneCore) (es : List LaneEvent)
    → ArePicked w number c es → choices w (after w c es) ≡ [] → FollowsOrder w number c es
picked_follows w number c [] p none = none
picked_follows w number c (e ∷ es) p none =
    (p.0, picked_follows w (following number) (event_step w c e) es p.1 none)

turns_more : (number : ℕ) (es : List LaneEvent) (e : LaneEvent)
    → after_turns (length (es ++ e ∷ [])) number ≡ following (after_turns (length es) number)
turns_more number [] e = refl
turns_more number (x ∷ es) e = turns_more (following number) es e

-- 2. From the start to a core

-- by one event more
pub leads_more : (first turns last next : ℕ) (p q : CoreParts) (e : LaneEvent) → 0 < p.lanes
    → work_of q ≡ work_of p → pick_among (choices (work_of p) (core_of p)) (following last) ≡ Some e
    → next ≡ following last
    → ((run : List LaneEvent) → IsRunTo run p → IsRunTo (run ++ e ∷ []) q)
    → LeadsTo first turns last p → LeadsTo first (turns + 1) next q
leads_more first turns last next p q e some same here goes more to =
    let w = work_of p in
    let o = opening_core w in
    let there = choices_alike w (core_of p) (after w o to.events) some to.run.leads in
    let many = to.many in
    let one = ap (λ xs. pick_among xs (following (after_turns (length to.events) first))) (sym there)
    ∙ ap (λ z. pick_among (choices w (core_of p)) (following z)) (sym to.numbers) ∙ here in
    record {
      events = to.events ++ e ∷ [];
      many = omega (arith, length-append to.events (e ∷ []), many);
      picked = subst (λ (v : LaneWork). ArePicked v first (opening_core v) (to.events ++ e ∷ [])) (sym same)
          (picked_append w first o to.events (e ∷ []) to.picked (one, tt));
      numbers = goes ∙ ap following to.numbers ∙ sym (turns_more first to.events e);
      run = more to.events to.run;
    }

-- by as many at least as by more
pub fewer_turns : (first turns less number : ℕ) (p : CoreParts) → less ≤ turns
    → LeadsTo first turns number p → LeadsTo first less number p
fewer_turns first turns less number p le to =
    let many = to.many in
    record {
      events = to.events;
      many = omega (arith, le, many);
      picked = to.picked;
      numbers = to.numbers;
      run = to.run;
    }

-- by the turns before an event that is picked, and by that event
pub leads_then : (first turns number next : ℕ) (p q r : CoreParts) (e : LaneEvent) → 0 < q.lanes
    → work_of r ≡ work_of q → StopsAt number p next q e
    → ((run : List LaneEvent) → IsRunTo run q → IsRunTo (run ++ e ∷ []) r)
    → LeadsTo first turns number p → LeadsTo first (turns + 1) next r
leads_then first turns number next p q r e some same stops more to =
    fewer_turns first (turns + 0 + 1) (turns + 1) next r (omega arith)
    (leads_more first (turns + 0) stops.last next q r e some same
    (ap (pick_among (choices (work_of q) (core_of q))) (sym stops.follows) ∙ stops.picked)
    stops.follows more (stops.leads first turns to))

pub picked_may : (w : LaneWork) (c : LaneCore) (number : ℕ) (e : LaneEvent)
    → pick_among (choices w c) number ≡ Some e → May w c e
picked_may w c number e here = choice_may w c (choice (length (choices w c)) number) e here

-- 3. The end

pub none_listed : (items : List Stored) (es : List LaneEvent) → map event_of items ≡ es
    → length items ≡ 0 → es ≡ []
none_listed [] es listed none = sym listed
none_listed (e ∷ items) es listed none = absurd (omega (arith, none))

pub outcome_by_order : (first turns last : ℕ) (p : CoreParts) (o : Outcome) → 0 < p.lanes
    → LeadsTo first turns last p → choices (work_of p) (core_of p) ≡ []
    → AreAllOver (work_of p) (core_of p)
    → ((run : List LaneEvent) → IsRunTo run p → IsLaneOutcomeOf (work_of p) run o)
    → IsLaneOutcomeByOrder (work_of p) first o
outcome_by_order first turns last p o some to none over given =
    let w = work_of p in
    let final = after w (opening_core w) to.events in
    record {
      events = to.events;
      run = record {
        ordered = picked_follows w first (opening_core w) to.events to.picked
            (sym (choices_alike w (core_of p) final some to.run.leads) ∙ none);
        is_run = to.run.is_run;
        over = λ i low. ap (is_over w) (sym (to.run.leads.nodes i low)) ∙ over i low;
      };
      outcome = given to.events to.run;
    }

-- no run is as long as that
most_few : (n r budget : ℕ) → n ≤ 16 → r ≤ 16 → budget ≤ 2 ^ 32
    → (4 * n + 5) * (r * budget) + n * n < 2 ^ 56
most_few n r budget few rows range =
    let words = mul-le r budget 16 (2 ^ 32) rows range in
    let runs = mul-le (4 * n + 5) (r * budget) 69 (16 * 2 ^ 32) (omega arith) words in
    let byes = mul-le n n 16 16 few few in
    omega (arith, runs, byes)

pub not_so_long : (first turns last : ℕ) (p : CoreParts) → 18446744073709551615 ≤ turns
    → 1 ≤ p.lanes → processors (work_of p) ≤ 16 → p.budget ≤ 2 ^ 32
    → ((run : List LaneEvent) → IsRunTo run p → length run ≤ most_lane_events (work_of p))
    → LeadsTo first turns last p → ⊥
not_so_long first turns last p long some few budget short to =
    let n = p.layout.nodes in
    let nodes = few_nodes n p.lanes some few in
    let all = short to.events to.run in
    let bound = most_few n (processors (work_of p)) p.budget nodes few budget in
    let many = to.many in
    absurd (omega (arith, all, bound, many, long))
