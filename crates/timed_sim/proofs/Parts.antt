-- A run makes no more steps of the original than its nodes execute words.
use Rattle.std.proofs.Common.{◌≡◌, ◌≢◌, ◌⊎◌, ℕ, zero, suc, ◌+◌, ◌-◌, ◌<◌, ◌≤◌, Bool, true, false, cond, List, [], ◌∷◌, map, refl, sym, ap, ◌∙◌, subst, inl, inr, arith, add-zero}
use Rattle.std.specs.List.{range_with_len}
use Rattle.templates.specs.declared.plans.PlanEntry.{PlanEntry}
use Rattle.block_layout.specs.Update.{changed}
use Rattle.dsm_core.specs.dsm_messages.declared.messages.Need.{Need}
use Rattle.dsm_core.specs.dsm_messages.declared.messages.Need.TheVariants.{Read, Write}
use Rattle.dsm_core.specs.node_model.declared.Standing.{Standing}
use Rattle.dsm_core.specs.node_model.declared.Standing.TheVariants.{Running, Waiting}
use Rattle.dsm_core.specs.node_model.Node.{Work, standing_of}
use Rattle.dsm_core.specs.node_model.Core.{Core, Event, Exec, Take, May, IsCoreRun, opening_core, event_step}
use Rattle.dsm_core.specs.node_model.Outcome.{Outcome}
use Rattle.dsm_core.specs.rewriting_law.CoreRun.{commits}
use Rattle.dsm_core.specs.run_order.OwnRun.{node_of}
use Rattle.run_trace.specs.Steps.{steps_made}
use Rattle.run_trace.proofs.StepCounts.{steps_by, steps_more}
use Rattle.timed_sim.specs.declared.costs.Costs.{Costs}
use Rattle.timed_sim.specs.declared.costs.Spent.{Spent}
use Rattle.timed_sim.specs.Clock.{Due, IsOutcomeByClock, Times, both_spent, clock_of, events_in, idle_until, nothing_spent, opening_times, spent_after, spent_beside, times_after, times_after_all, total_spent, with_event, with_gap}
use Rattle.timed_sim.proofs.Numbered.{hit, other}

-- 1. The words of several nodes

-- the words that k nodes have executed, from node a on
abbrev words_from : (ℕ → Spent) → (a k : ℕ) → ℕ
words_from f a zero = 0
words_from f a (suc k) = (f a).words + words_from f (a + 1) k

from_above : (f : ℕ → Spent) (i : ℕ) (s : Spent) (a k : ℕ) → i < a
    → words_from (changed f i s) a k ≡ words_from f a k
from_above f i s a zero low = refl
from_above f i s a (suc k) low =
    let apart : a ≢ i = λ e. absurd (omega (arith, low, e)) in
    let first = other f i a s apart in
    let rest = from_above f i s (a + 1) k (omega (arith, low)) in
    λ t. (first t).words + rest t

first_or_later : (a i : ℕ) → a ≤ i → (a ≡ i) ⊎ (a < i)
first_or_later zero zero le = inl refl
first_or_later zero (suc i) le = inr (omega arith)
first_or_later (suc a) zero le = absurd (omega (arith, le))
first_or_later (suc a) (suc i) le = elim (first_or_later a i (omega (arith, le))) [
  | inl e ↦ inl (ap suc e)
  | inr later ↦ inr (omega (arith, later))
]

-- the words of one of them are others
from_changed : (f : ℕ → Spent) (i : ℕ) (s : Spent) (a k : ℕ) → a ≤ i → i < a + k
    → words_from (changed f i s) a k + (f i).words ≡ words_from f a k + s.words
from_changed f i s a zero least most = absurd (omega (arith, least, most))
from_changed f i s a (suc k) least most = elim (first_or_later a i least) [
  | inl e ↦ (let here : changed f i s a ≡ s = ap (changed f i s) e ∙ hit f i s in
      let first = ap (λ (x : Spent). x.words) here in
      let own = ap (λ z. (f z).words) e in
      let rest = from_above f i s (a + 1) k (omega (arith, e)) in
      omega (arith, first, own, rest))
  | inr later ↦ (let apart : a ≢ i = λ e. absurd (omega (arith, later, e)) in
      let first = ap (λ (x : Spent). x.words) (other f i a s apart) in
      let rest = from_changed f i s (a + 1) k (omega (arith, later)) (omega (arith, most)) in
      omega (arith, first, rest))
]

-- 2. One event

-- the words that an event executes
abbrev words_in : Event → ℕ
words_in (Exec i) = 1
words_in (Take i j) = 0

gap_words : (s : Standing) (need : Need) (gap : ℕ) (spent : Spent)
    → (with_gap s need gap spent).words ≡ spent.words
gap_words Waiting Read gap spent = refl
gap_words Waiting Write gap spent = refl
gap_words Running need gap spent = refl
gap_words other need gap spent = refl

event_words : (costs : Costs) (e : Event) (spent : Spent)
    → (with_event costs e spent).words ≡ spent.words + words_in e
event_words costs (Exec i) spent = refl
event_words costs (Take i j) spent = omega arith

after_words : (costs : Costs) (s : Standing) (need : Need) (d : Due) (spent : Spent)
    → (spent_after costs s need d spent).words ≡ spent.words + words_in d.event
after_words costs s need d spent =
    let gap = with_gap s need (d.time - clock_of spent) spent in
    event_words costs d.event gap
    ∙ ap (λ z. z + words_in d.event) (gap_words s need (d.time - clock_of spent) spent)

one_at_most : (b : Bool) → cond b 1 0 ≤ 1
one_at_most true = omega arith
one_at_most false = omega arith

steps_few : (work : Work) (plan : List PlanEntry) (c : Core) (e : Event)
    → steps_by work plan c e ≤ words_in e
steps_few work plan c (Exec i) = one_at_most (commits work plan (c.nodes i))
steps_few work plan c (Take i j) = omega arith

node_low : (work : Work) (c : Core) (e : Event) → May work c e → node_of e < work.layout.nodes
node_low work c (Exec i) may = may.0
node_low work c (Take i j) may = may.0

-- 3. A run

run_words : (costs : Costs) (work : Work) (plan : List PlanEntry) (times : Times) (c : Core)
    (ds : List Due) → IsCoreRun work c (events_in ds)
    → words_from times.spent 0 work.layout.nodes + steps_made work plan c (events_in ds)
    ≤ words_from (times_after_all costs work times c ds).spent 0 work.layout.nodes
run_words costs work plan times c [] run = omega arith
run_words costs work plan times c (d ∷ ds) run =
    let n = work.layout.nodes in
    let i = node_of d.event in
    let need = times.needs i in
    let standing = standing_of work (c.nodes i) in
    let spent = spent_after costs standing need d (times.spent i) in
    let next = event_step work c d.event in
    let low = node_low work c d.event run.0 in
    let here = from_changed times.spent i spent 0 n (omega arith) (omega (arith, low)) in
    let more : spent.words ≡ (times.spent i).words + words_in d.event =
    after_words costs standing need d (times.spent i) in
    let few = steps_few work plan c d.event in
    let first : steps_made work plan c (events_in (d ∷ ds))
    ≡ steps_by work plan c d.event + steps_made work plan next (events_in ds) =
    steps_more work plan c d.event (events_in ds) in
    let rest : words_from (changed times.spent i spent) 0 n + steps_made work plan next (events_in ds)
    ≤ words_from (times_after_all costs work times c (d ∷ ds)).spent 0 n =
    run_words costs work plan (times_after costs work times c d) next ds run.1 in
    omega (arith, here, more, few, first, rest)

-- 4. The end

ends_words : (last : ℕ) (f : ℕ → Spent) (a k : ℕ) (s : Spent)
    → (spent_beside s (map (λ i. idle_until last (f i)) (range_with_len a k))).words
    ≡ s.words + words_from f a k
ends_words last f a zero s = sym (add-zero s.words)
ends_words last f a (suc k) s =
    ends_words last f (a + 1) k (both_spent s (idle_until last (f a))) ∙ omega arith

none_from : (a k : ℕ) → words_from (λ i. nothing_spent) a k ≡ 0
none_from a zero = refl
none_from a (suc k) = let rest = none_from (a + 1) k in omega (arith, rest)

pub part : (work : Work) (plan : List PlanEntry) (costs : Costs) (o : Outcome) (spent : List Spent)
    (last steps : ℕ) → IsOutcomeByClock work plan costs o spent last steps
    → steps ≤ (total_spent spent).words
part work plan costs o spent last steps is =
    let n = work.layout.nodes in
    let opening = opening_core work in
    let reached = times_after_all costs work opening_times opening is.run in
    let made : steps ≡ steps_made work plan opening (events_in is.run) = is.steps_are in
    let all = run_words costs work plan opening_times opening is.run is.is_run in
    let none : words_from opening_times.spent 0 n ≡ 0 = none_from 0 n in
    let ends : (total_spent (map (λ i. idle_until last (reached.spent i)) (range_with_len 0 n))).words
    ≡ 0 + words_from reached.spent 0 n = ends_words last reached.spent 0 n nothing_spent in
    let words = ap (λ (ss : List Spent). (total_spent ss).words) is.spent_is in
    omega (arith, all, none, ends, words, made)
