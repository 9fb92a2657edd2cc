-- A run by a clock on its way, and its end.
use Rattle.std.proofs.Common.{◌≡◌, ℕ, zero, suc, ◌+◌, ◌*◌, ◌^◌, ◌<◌, ◌≤◌, List, [], ◌∷◌, ◌++◌, map, length, get_or, Result, Ok, Err, refl, sym, ap, ◌∙◌, subst, inl, inr, arith, length-append}
use Rattle.std.specs.Prelude.{All, max, IfOk, OnOk}
use Rattle.std.specs.List.{range_with_len}
use Rattle.std.proofs.Math.Nat.{mul-le-mul, le-max_right}
use Rattle.std.proofs.lemmas.List.{get_or_default}
use Rattle.templates.specs.declared.plans.PlanEntry.{PlanEntry}
use Rattle.dsm_core.specs.node_model.Node.{Work, standing_of}
use Rattle.dsm_core.specs.node_model.Core.{Core, Event, Exec, Take, May, AreAlike, IsOver, IsCoreRun, opening_core, event_step, after}
use Rattle.dsm_core.specs.node_model.Outcome.{Outcome, IsOutcomeOf}
use Rattle.dsm_core.specs.run_order.OwnRun.{Stamped, StandsForOwnRun, node_of, run_of}
use Rattle.dsm_core.specs.rewriting_law.Bounds.{RunsRewritten, most_events}
use Rattle.dsm_core.specs.CoreParts.{work_of}
use Rattle.dsm_core.proofs.CoreRuns.{alike_also, alike_back, alike_same, run_alike, run_append, after_append, after_alike}
use Rattle.dsm_core.proofs.Promised.{stands_alike}
use Rattle.run_trace.specs.Steps.{steps_made}
use Rattle.timed_sim.specs.declared.clocks.Clocks.{Clocks}
use Rattle.timed_sim.specs.declared.costs.Costs.{Costs}
use Rattle.timed_sim.specs.declared.costs.Spent.{Spent}
use Rattle.timed_sim.specs.Clock.{Due, Times, AreNext, IsOutcomeByClock, clock_of, events_in, idle_until, last_clock, next, nothing_spent, opening_times, times_after, times_after_all}
use Rattle.timed_sim.specs.declared.run.TimedRun.{TimedRun}
use Rattle.timed_sim.specs.Stored.{AreClocks, AreSameTimes, AreWithin, HasEnded, IsKept, Moment, moment_of, plan_in, times_of}
use Rattle.timed_sim.specs.Stretches.{HaveMade}
use Rattle.timed_sim.proofs.Counts.{steps_behind}
use Rattle.timed_sim.proofs.Made.{plan_kept, times_kept}
use Rattle.timed_sim.proofs.Next.{next_same}
use Rattle.timed_sim.proofs.Numbered.{below_or_last}
use Rattle.timed_sim.proofs.Steps.{times_same}

-- 1. One event after another

events_append : (xs ys : List Due) → events_in (xs ++ ys) ≡ events_in xs ++ events_in ys
events_append [] ys = refl
events_append (x ∷ xs) ys = ap (λ es. x.event ∷ es) (events_append xs ys)

next_append : (costs : Costs) (work : Work) (times : Times) (c : Core) (xs ys : List Due)
    → AreNext costs work times c xs
    → AreNext costs work (times_after_all costs work times c xs) (after work c (events_in xs)) ys
    → AreNext costs work times c (xs ++ ys)
next_append costs work times c [] ys first more = more
next_append costs work times c (x ∷ xs) ys first more = (
  first.0,
  next_append costs work (times_after costs work times c x) (event_step work c x.event) xs ys
      first.1 more,
)

times_append : (costs : Costs) (work : Work) (times : Times) (c : Core) (xs ys : List Due)
    → times_after_all costs work times c (xs ++ ys)
    ≡ times_after_all costs work (times_after_all costs work times c xs) (after work c (events_in xs)) ys
times_append costs work times c [] ys = refl
times_append costs work times c (x ∷ xs) ys =
    times_append costs work (times_after costs work times c x) (event_step work c x.event) xs ys

pub same_also : (n : ℕ) (s t u : Times) → AreSameTimes n s t → AreSameTimes n t u
    → AreSameTimes n s u
same_also n s t u a b = record {
  spent = λ i low. a.spent i low ∙ b.spent i low;
  needs = λ i low. a.needs i low ∙ b.needs i low;
  arrivals = λ j i below low. a.arrivals j i below low ∙ b.arrivals j i below low;
}

-- 2. A run on its way: so many events were made at least, each the next by the rule

pub record IsOnItsWay (costs : Costs) (work : Work) (plan : List PlanEntry) (turn : ℕ) (m : Moment)
    : Type 0 where
  pub run : List Due
  pub many : turn ≤ length run
  pub by_rule : AreNext costs work opening_times (opening_core work) run
  pub is_run : IsCoreRun work (opening_core work) (events_in run)
  pub core_is : AreAlike work.layout.nodes m.core
      (after work (opening_core work) (events_in run))
  pub times_are : AreSameTimes work.layout.nodes m.times
      (times_after_all costs work opening_times (opening_core work) run)
  pub steps_are : m.steps ≡ steps_made work plan (opening_core work) (events_in run)

pub way_first : (costs : Costs) (work : Work) (plan : List PlanEntry) (m : Moment)
    → m.core ≡ opening_core work → AreSameTimes work.layout.nodes m.times opening_times
    → m.steps ≡ 0 → IsOnItsWay costs work plan 0 m
way_first costs work plan m opening same none = record {
  run = [];
  many = omega arith;
  by_rule = tt;
  is_run = tt;
  core_is = subst (λ (z : Core). AreAlike work.layout.nodes z (opening_core work)) (sym opening)
      (alike_same work.layout.nodes (opening_core work));
  times_are = same;
  steps_are = none;
}

-- cores and times that are the same make the same events
may_low : (work : Work) (c : Core) (e : Event) → May work c e → node_of e < work.layout.nodes
may_low work c (Exec i) may = may.0
may_low work c (Take i j) may = may.0

next_all_same : (costs : Costs) (work : Work) (s t : Times) (c d : Core) (ds : List Due)
    → AreSameTimes work.layout.nodes s t → AreAlike work.layout.nodes c d
    → IsCoreRun work c (events_in ds) → AreNext costs work s c ds → AreNext costs work t d ds
next_all_same costs work s t c d [] same alike run next = tt
next_all_same costs work s t c d (x ∷ xs) same alike run next = (
  sym (next_same work s t c d same alike) ∙ next.0,
  next_all_same costs work (times_after costs work s c x) (times_after costs work t d x)
      (event_step work c x.event) (event_step work d x.event) xs
      (times_same costs work s t c d x (may_low work c x.event run.0) run.0 same alike)
      (after_alike work c d (x.event ∷ []) alike (run.0, tt)) run.1 next.1,
)

times_all_same : (costs : Costs) (work : Work) (s t : Times) (c d : Core) (ds : List Due)
    → AreSameTimes work.layout.nodes s t → AreAlike work.layout.nodes c d
    → IsCoreRun work c (events_in ds)
    → AreSameTimes work.layout.nodes (times_after_all costs work s c ds)
    (times_after_all costs work t d ds)
times_all_same costs work s t c d [] same alike run = same
times_all_same costs work s t c d (x ∷ xs) same alike run =
    times_all_same costs work (times_after costs work s c x) (times_after costs work t d x)
    (event_step work c x.event) (event_step work d x.event) xs
    (times_same costs work s t c d x (may_low work c x.event run.0) run.0 same alike)
    (after_alike work c d (x.event ∷ []) alike (run.0, tt)) run.1

pub way_all : (costs : Costs) (work : Work) (plan : List PlanEntry) (turn : ℕ) (old new : Moment)
    → IsOnItsWay costs work plan turn old → HaveMade costs work plan old new
    → IsOnItsWay costs work plan (turn + 1) new
way_all costs work plan turn old new way m =
    let o = opening_core work in
    let n = work.layout.nodes in
    let c = old.core in
    let middle = after work o (events_in way.run) in
    let reached = times_after_all costs work opening_times o way.run in
    let es = events_in m.dues in
    let many = way.many in
    let some = m.some in
    record {
      run = way.run ++ m.dues;
      many = omega (arith, length-append way.run m.dues, many, some);
      by_rule = next_append costs work opening_times o way.run m.dues way.by_rule
          (next_all_same costs work old.times reached c middle m.dues way.times_are way.core_is m.is_run
          m.by_rule);
      is_run = subst (IsCoreRun work o) (sym (events_append way.run m.dues))
          (run_append work o (events_in way.run) es way.is_run
          (run_alike work c middle es way.core_is m.is_run));
      core_is = subst (λ fs. AreAlike n new.core (after work o fs)) (sym (events_append way.run m.dues))
          (subst (λ (z : Core). AreAlike n new.core z) (sym (after_append work o (events_in way.run) es))
          (alike_also n new.core (after work c es) (after work middle es) m.core_is
          (after_alike work c middle es way.core_is m.is_run)));
      times_are = subst (λ (z : Times). AreSameTimes n new.times z)
          (sym (times_append costs work opening_times o way.run m.dues))
          (same_also n new.times (times_after_all costs work old.times c m.dues)
          (times_after_all costs work reached middle m.dues) m.times_are
          (times_all_same costs work old.times reached c middle m.dues way.times_are way.core_is m.is_run));
      steps_are = m.steps_are ∙ ap (λ z. z + steps_made work plan c es) way.steps_are
          ∙ sym (steps_behind work plan o c (events_in way.run) es way.core_is m.is_run)
          ∙ ap (steps_made work plan o) (sym (events_append way.run m.dues));
    }

-- the same run, by costs, of work and by a plan that are the same
pub way_of : (costs new_costs : Costs) (work new_work : Work) (plan new_plan : List PlanEntry)
    (turn : ℕ) (m : Moment) → new_costs ≡ costs → new_work ≡ work → new_plan ≡ plan
    → IsOnItsWay costs work plan turn m → IsOnItsWay new_costs new_work new_plan turn m
way_of costs new_costs work new_work plan new_plan turn m same_costs same_work same_plan way =
    subst (λ (k : Costs). IsOnItsWay k new_work new_plan turn m) (sym same_costs)
    (subst (λ (w : Work). IsOnItsWay costs w new_plan turn m) (sym same_work)
    (subst (λ (ps : List PlanEntry). IsOnItsWay costs work ps turn m) (sym same_plan) way))

-- and where nothing has changed
pub way_kept : (old new : TimedRun) (turn : ℕ) → IsKept old new
    → IsOnItsWay old.costs (work_of old.core) (plan_in old) turn (moment_of old)
    → IsOnItsWay new.costs (work_of new.core) (plan_in new) turn (moment_of new)
way_kept old new turn kept way =
    let times = times_kept old new kept in
    let core = kept.core in
    let count = kept.count in
    let here : moment_of new ≡ moment_of old =
    λ t. record { times = times t; core = core t; steps = (count t).steps } in
    subst (IsOnItsWay new.costs (work_of new.core) (plan_in new) turn) (sym here)
    (way_of old.costs new.costs (work_of old.core) (work_of new.core) (plan_in old) (plan_in new) turn
    (moment_of old) kept.costs kept.work (plan_kept old new kept) way)

-- no core run is as long as that
most_few : (n budget : ℕ) → n ≤ 16 → budget ≤ 4294967296
    → (4 * n + 5) * (n * budget) + n * n ≤ 69 * (16 * 4294967296) + 16 * 16
most_few n budget few low =
    let words : n * budget ≤ 16 * 4294967296 = mul-le-mul few low in
    let rows : 4 * n + 5 ≤ 69 = omega arith in
    let all : (4 * n + 5) * (n * budget) ≤ 69 * (16 * 4294967296) = mul-le-mul rows words in
    let byes : n * n ≤ 16 * 16 = mul-le-mul few few in
    omega (arith, all, byes)

length_events : (ds : List Due) → length (events_in ds) ≡ length ds
length_events [] = refl
length_events (d ∷ ds) = ap suc (length_events ds)

pub not_so_long : (costs : Costs) (work : Work) (plan : List PlanEntry) (turn : ℕ) (m : Moment)
    → RunsRewritten work → 18446744073709551615 ≤ turn
    → ((events : List Event) → IsCoreRun work (opening_core work) events
    → length events ≤ most_events work) → IsOnItsWay costs work plan turn m → ⊥
not_so_long costs work plan turn m runs long short way =
    let most = short (events_in way.run) way.is_run in
    let few = most_few work.layout.nodes work.budget runs.valid.few_nodes runs.few in
    let many = way.many in
    let events = length_events way.run in
    absurd (omega (arith, most, few, many, events, long))

-- 3. The end

last_same : (n : ℕ) (f g : ℕ → Spent) → ((i : ℕ) → i < n → f i ≡ g i)
    → last_clock n f ≡ last_clock n g
last_same zero f g same = refl
last_same (suc k) f g same =
    let before = last_same k f g (λ i low. same i (omega (arith, low))) in
    let last = same k (omega arith) in
    λ t. max (before t) (clock_of (last t))

idle_same : (last : ℕ) (f g : ℕ → Spent) (a k : ℕ) → ((i : ℕ) → a ≤ i → i < a + k → f i ≡ g i)
    → map (λ i. idle_until last (f i)) (range_with_len a k)
    ≡ map (λ i. idle_until last (g i)) (range_with_len a k)
idle_same last f g a zero same = refl
idle_same last f g a (suc k) same =
    let first = same a (omega arith) (omega arith) in
    let rest = idle_same last f g (a + 1) k (λ i low high. same i (omega (arith, low)) (omega (arith, high))) in
    λ t. idle_until last (first t) ∷ rest t

pub outcome_by_clock : (costs : Costs) (work : Work) (plan : List PlanEntry) (turn : ℕ)
    (m : Moment) (o : Outcome) (spent : List Spent) (last steps : ℕ)
    → IsOnItsWay costs work plan turn m → IsOver work m.core
    → ((own : List Stamped) × StandsForOwnRun work m.core own × IsOutcomeOf work (run_of own) o)
    → HasEnded work.layout.nodes m.times spent last → steps ≡ m.steps
    → IsOutcomeByClock work plan costs o spent last steps
outcome_by_clock costs work plan turn m o spent last steps way over (own, stands, outcome) ended made =
    let n = work.layout.nodes in
    let times = m.times in
    let final = after work (opening_core work) (events_in way.run) in
    let reached = times_after_all costs work opening_times (opening_core work) way.run in
    record {
      run = way.run;
      by_rule = way.by_rule;
      is_run = way.is_run;
      over = λ i low. ap (standing_of work) (sym (way.core_is.nodes i low)) ∙ over i low;
      last_is = ended.last_is ∙ last_same n times.spent reached.spent way.times_are.spent;
      spent_is = ended.spent_is
          ∙ idle_same last times.spent reached.spent 0 n (λ i low high. way.times_are.spent i (omega (arith, high)));
      own = own;
      stands = stands_alike work final m.core own (alike_back n m.core final way.core_is) stands;
      outcome = outcome;
      steps_are = made ∙ way.steps_are;
    }

pub all_ok : {X E : Type 0} (r : Result X E) (P Q R S : X → Type 0)
    → ((x : X) → P x → Q x → R x → S x) → IfOk r P → IfOk r Q → IfOk r R → IfOk r S
all_ok (Ok x) P Q R S f p q s = f x p q s
all_ok (Err e) P Q R S f p q s = tt

pub both_on_ok : {X E P Q R : Type 0} (r : Result X E) → (P → Q → R) → OnOk r P → OnOk r Q
    → OnOk r R
both_on_ok (Ok x) f p q = f p q
both_on_ok (Err e) f p q = tt

-- 4. The sums

-- what was read of a node
pub spent_read : (n : ℕ) (c : Clocks) (i : ℕ) (s : Spent) → AreClocks n c → i < n
    → s ≡ get_or c.spent.items i s → s ≡ (times_of n c).spent i
spent_read n c i s are low is =
    is ∙ get_or_default c.spent.items i s nothing_spent (subst (λ z. i < z) (sym are.spent) low)

pub last_high : (n i : ℕ) (f : ℕ → Spent) → i < n → clock_of (f i) ≤ last_clock n f
last_high zero i f low = absurd (omega (arith, low))
last_high (suc k) i f low = elim (below_or_last i k low) [
  | inl h ↦ (let before = last_high k i f h in
      omega (arith, before))
  | inr h ↦ subst (λ z. clock_of (f z) ≤ max (last_clock k f) (clock_of (f k))) (sym h)
      (le-max_right (last_clock k f) (clock_of (f k)))
]

idle_sum : (last : ℕ) (s : Spent) → clock_of s ≤ last → clock_of (idle_until last s) ≡ last
idle_sum last s low = omega (arith, low)

sums_in : (last : ℕ) (f : ℕ → Spent) (a k : ℕ)
    → ((i : ℕ) → a ≤ i → i < a + k → clock_of (f i) ≤ last)
    → All (λ s. clock_of s ≡ last) (map (λ i. idle_until last (f i)) (range_with_len a k))
sums_in last f a zero low m d none = absurd (omega (arith, none))
sums_in last f a (suc k) low zero d some = idle_sum last (f a) (low a (omega arith) (omega arith))
sums_in last f a (suc k) low (suc m) d some =
    sums_in last f (a + 1) k (λ i least most. low i (omega (arith, least)) (omega (arith, most))) m d
    (omega (arith, some))

pub sums : (n : ℕ) (times : Times) (spent : List Spent) (last : ℕ) → HasEnded n times spent last
    → All (λ s. clock_of s ≡ last) spent
sums n times spent last ended =
    subst (λ (xs : List Spent). All (λ s. clock_of s ≡ last) xs) (sym ended.spent_is)
    (sums_in last times.spent 0 n (λ i least most. subst (λ z. clock_of (times.spent i) ≤ z)
    (sym ended.last_is) (last_high n i times.spent (omega (arith, most)))))

-- 5. How late the last node is over

last_within : (n most : ℕ) (f : ℕ → Spent) → ((i : ℕ) → i < n → clock_of (f i) ≤ most)
    → last_clock n f ≤ most
last_within zero most f low = omega arith
last_within (suc k) most f low =
    let before = last_within k most f (λ i below. low i (omega (arith, below))) in
    let here = low k (omega arith) in
    omega (arith, before, here)

-- so many turns take each clock no further than so many of the greatest steps
pub ends_within : (n turns : ℕ) (times : Times) (spent : List Spent) (last : ℕ)
    → AreWithin n (2 ^ 26 * turns) times → turns ≤ 2 ^ 64 → HasEnded n times spent last
    → last ≤ 2 ^ 100
ends_within n turns times spent last within few ended =
    let low = last_within n (2 ^ 26 * turns) times.spent within.clocks in
    let is = ended.last_is in
    omega (arith, low, few, is)
