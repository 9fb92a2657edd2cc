-- Words that nodes execute at once are those that come next by the rule, one after another.
use Rattle.std.proofs.Common.{◌≡◌, ◌⊎◌, ℕ, zero, suc, ◌+◌, ◌-◌, ◌<◌, ◌≤◌, ◌^◌, Bool, true, false, cond, List, [], ◌∷◌, ◌++◌, length, Option, Some, None, refl, sym, ap, ◌∙◌, subst, inl, inr, arith, append-nil}
use Rattle.std.specs.Prelude.{nat_lt, slice_index_or, slice_set}
use Rattle.std.proofs.lemmas.List.{get_or-set_other, get_or-set_same}
use Rattle.std.proofs.lemmas.Bool.Decides.{eqb_tells, nat_tests}
use Rattle.templates.specs.declared.plans.PlanEntry.{PlanEntry}
use Rattle.block_layout.specs.Update.{changed}
use Rattle.dsm_core.specs.node_machine.Runs.{GoesOnBy}
use Rattle.dsm_core.specs.node_model.declared.Standing.{Standing}
use Rattle.dsm_core.specs.node_model.declared.Standing.TheVariants.{Running, AtPoll, Waiting, Ended, Over}
use Rattle.dsm_core.specs.node_model.Node.{Work, Node, standing_of}
use Rattle.dsm_core.specs.node_model.Turns.{Turn, silent, word_turn}
use Rattle.dsm_core.specs.node_model.Core.{Core, Exec, AreAlike, IsCoreRun, after, may_execute, event_step, wires_to}
use Rattle.dsm_core.specs.CoreParts.{work_of, core_of}
use Rattle.dsm_core.specs.CoreWords.{HasPassed, HaveEachPassed}
use Rattle.dsm_core.proofs.CoreRuns.{alike_same}
use Rattle.run_trace.specs.Steps.{steps_made}
use Rattle.run_trace.proofs.StepCounts.{steps_more}
use Rattle.timed_sim.specs.declared.costs.Costs.{Costs}
use Rattle.timed_sim.specs.declared.costs.Spent.{Spent}
use Rattle.timed_sim.specs.declared.run.TimedRun.{TimedRun}
use Rattle.timed_sim.specs.Clock.{AreInRange, AreNext, Due, Times, at_poll, clock_of, earlier, earliest, events_in, first_to, from_clock, next, next_by, next_of, times_after, times_after_all}
use Rattle.timed_sim.specs.Counted.{CountsFor}
use Rattle.timed_sim.specs.Stored.{AreClocks, AreInStep, AreSameTimes, HasMade, IsReady, Moment, moment_of, one_word_more, plan_in, times_in, times_of, with_word}
use Rattle.timed_sim.specs.Stretches.{AreFree, HaveMade, IsFree, IsFrom, more_words, with_words, words_until}
use Rattle.timed_sim.proofs.Arrivals.{AreBy, by_more}
use Rattle.timed_sim.proofs.Counts.{each_few, each_fewer, event_few, goes_may, none_each, steps_of_each, steps_of_word}
use Rattle.timed_sim.proofs.Made.{counts_here, within_same}
use Rattle.timed_sim.proofs.Numbered.{below_or_last, hit, other}
use Rattle.timed_sim.proofs.Next.{IsNextAt, first_to_same, next_of_same}
use Rattle.timed_sim.proofs.Steps.{step_within}
use Rattle.timed_sim.proofs.Words.{word_due, word_made_at}

-- 1. Which word is next

-- words of nodes that begin before a time, where all else begins later
record AreEarly (due : ℕ → Option Due) (words : ℕ → ℕ) (times : Times) (end n : ℕ) : Type 0 where
  early : (i : ℕ) → i < n → 1 ≤ words i
      → (due i ≡ Some (word_due times i)) × (clock_of (times.spent i) < end)
  late : (i : ℕ) → i < n → words i ≡ 0 → IsFrom end (due i)

data IsEarliest (due : ℕ → Option Due) (words : ℕ → ℕ) (times : Times) (end n : ℕ) : Type 0 where
  NoWord : ((i : ℕ) → i < n → words i ≡ 0) → IsFrom end (earliest due n)
      → IsEarliest due words times end n
  Word : (k : ℕ) → k < n → 1 ≤ words k → clock_of (times.spent k) < end
      → earliest due n ≡ Some (word_due times k) → IsEarliest due words times end n

both_from : (end : ℕ) (x y : Option Due) → IsFrom end x → IsFrom end y → IsFrom end (earlier x y)
both_from end None y a b = b
both_from end (Some x) None a b = a
both_from end (Some x) (Some y) a b = by (nat_lt y.time x.time)
  where
    by : (t : Bool) → IsFrom end (cond t (Some y) (Some x))
    by true = b
    by false = a

word_first : (end : ℕ) (x : Option Due) (w : Due) → IsFrom end x → w.time < end
    → earlier x (Some w) ≡ Some w
word_first end None w from low = refl
word_first end (Some x) w from low =
    let less : nat_lt w.time x.time ≡ true = grind (arith, nat_tests, from, low) in
    ap (λ t. cond t (Some w) (Some x)) less

word_stays : (end : ℕ) (w : Due) (y : Option Due) → w.time < end → IsFrom end y
    → earlier (Some w) y ≡ Some w
word_stays end w None low from = refl
word_stays end w (Some y) low from =
    let less : nat_lt y.time w.time ≡ false = grind (arith, nat_tests, from, low) in
    ap (λ t. cond t (Some y) (Some w)) less

none_or_some : (k : ℕ) → (k ≡ 0) ⊎ (1 ≤ k)
none_or_some zero = inl refl
none_or_some (suc k) = inr (omega arith)

earliest_word : (due : ℕ → Option Due) (words : ℕ → ℕ) (times : Times) (end n : ℕ)
    → AreEarly due words times end n → IsEarliest due words times end n
earliest_word due words times end zero h = NoWord (λ i low. absurd (omega (arith, low))) tt
earliest_word due words times end (suc m) h =
    by (earliest_word due words times end m (record {
      early = λ i low. h.early i (omega (arith, low));
      late = λ i low. h.late i (omega (arith, low));
    })) (none_or_some (words m))
  where
    last : m < suc m
    last = omega arith

    either : (k : ℕ) (t : Bool) → k < suc m → 1 ≤ words k → clock_of (times.spent k) < end
        → 1 ≤ words m → clock_of (times.spent m) < end
        → earliest due (suc m) ≡ cond t (Some (word_due times m)) (Some (word_due times k))
        → IsEarliest due words times end (suc m)
    either k true low some near here close is = Word m last here close is
    either k false low some near here close is = Word k low some near is

    by : IsEarliest due words times end m → (words m ≡ 0) ⊎ (1 ≤ words m)
        → IsEarliest due words times end (suc m)
    by (NoWord none from) (inl never) = NoWord
        (λ i low. elim (below_or_last i m low) [ inl b ↦ none i b | inr e ↦ ap words e ∙ never ])
        (both_from end (earliest due m) (due m) from (h.late m last never))
    by (NoWord none from) (inr some) =
        let w = h.early m last some in
        Word m last some w.1 (ap (λ z. earlier (earliest due m) z) w.0
        ∙ word_first end (earliest due m) (word_due times m) from w.1)
    by (Word k low some near is) (inl never) = Word k (omega (arith, low)) some near
        (ap (λ z. earlier z (due m)) is
        ∙ word_stays end (word_due times k) (due m) near (h.late m last never))
    by (Word k low some near is) (inr here) =
        let w = h.early m last here in
        either k (nat_lt (clock_of (times.spent m)) (clock_of (times.spent k)))
        (omega (arith, low)) some near here w.1 (λ t. earlier (is t) (w.0 t))

-- 2. A node that may execute a word, and for which no message arrives before

from_word : (s : Standing) (word : Due) (take : Option Due) (end : ℕ) → may_execute s ≡ true
    → word.time < end → IsFrom end take → next_by s word take ≡ Some word
from_word Running word take end may low from = refl
from_word AtPoll word None end may low from = refl
from_word AtPoll word (Some t) end may low from =
    let less : nat_lt word.time t.time ≡ true = grind (arith, nat_tests, from, low) in
    ap (λ b. Some (cond b word (record { time = word.time; event = t.event }))) less
from_word other word take end may low from = absurd (cc)

-- nothing of a node begins before its clock
poll_from : (word : Due) (take : Option Due) → IsFrom word.time (Some (at_poll word take))
poll_from word None = omega arith
poll_from word (Some t) = by (nat_lt word.time t.time)
  where
    by : (b : Bool) → word.time ≤ (cond b word (record { time = word.time; event = t.event })).time
    by true = omega arith
    by false = omega arith

clock_from : (clock : ℕ) (take : Option Due) → IsFrom clock (from_clock clock take)
clock_from clock None = tt
clock_from clock (Some t) = omega arith

pub from_own_clock : (s : Standing) (word : Due) (take : Option Due)
    → IsFrom word.time (next_by s word take)
from_own_clock Running word take = omega arith
from_own_clock AtPoll word take = poll_from word take
from_own_clock Waiting word take = clock_from word.time take
from_own_clock Ended word take = clock_from word.time take
from_own_clock Over word take = tt

pub from_later : (early late : ℕ) (d : Option Due) → early ≤ late → IsFrom late d → IsFrom early d
from_later early late None le from = tt
from_later early late (Some d) le from = omega (arith, le, from)

-- 3. How many words there are in all

abbrev all_words : (words : ℕ → ℕ) → (n : ℕ) → ℕ
all_words words zero = 0
all_words words (suc k) = all_words words k + words k

words_below : (words : ℕ → ℕ) (k w n : ℕ) → n ≤ k
    → all_words (changed words k w) n ≡ all_words words n
words_below words k w zero le = refl
words_below words k w (suc m) le =
    let before = words_below words k w m (omega (arith, le)) in
    let here = other words k m w (λ e. absurd (omega (arith, le, e))) in
    λ t. before t + here t

words_fewer : (words : ℕ → ℕ) (k w n : ℕ) → k < n → words k ≡ suc w
    → suc (all_words (changed words k w) n) ≡ all_words words n
words_fewer words k w zero low is = absurd (omega (arith, low))
words_fewer words k w (suc m) low is = elim (below_or_last k m low) [
  | inl b ↦ (let before = words_fewer words k w m b is in
      let here = other words k m w (λ e. absurd (omega (arith, b, e))) in
      omega (arith, before, here))
  | inr e ↦ (let before = words_below words k w m (omega (arith, e)) in
      let here : changed words k w m ≡ w =
      ap (changed words k w) (sym e) ∙ hit words k w in
      let count : words m ≡ suc w = ap words (sym e) ∙ is in
      omega (arith, before, here, count))
]

none_left : (words : ℕ → ℕ) (n : ℕ) → all_words words n ≡ 0 → (i : ℕ) → i < n → words i ≡ 0
none_left words zero none i low = absurd (omega (arith, low))
none_left words (suc m) none i low = elim (below_or_last i m low) [
  | inl b ↦ none_left words m (omega (arith, none)) i b
  | inr e ↦ ap words e ∙ omega (arith, none)
]

some_left : (words : ℕ → ℕ) (n i : ℕ) → i < n → 1 ≤ words i → 1 ≤ all_words words n
some_left words zero i low some = absurd (omega (arith, low))
some_left words (suc m) i low some = elim (below_or_last i m low) [
  | inl b ↦ (let before = some_left words m i b some in omega (arith, before))
  | inr e ↦ (let here : words i ≡ words m = ap words e in omega (arith, here, some))
]

-- 4. A stretch: each node executes so many words, by number, and no other event begins before

pub record IsStretch (work : Work) (times : Times) (c d : Core) (end : ℕ) (words : ℕ → ℕ) : Type 0
  where
    pub may : (i : ℕ) → i < work.layout.nodes → 1 ≤ words i
        → may_execute (standing_of work (c.nodes i)) ≡ true
    pub ends : (i : ℕ) → i < work.layout.nodes → 1 ≤ words i
        → clock_of (times.spent i) + words i ≡ end
    pub mail : (i : ℕ) → i < work.layout.nodes → 1 ≤ words i
        → IsFrom end (first_to work.layout.nodes times i)
    pub others : (i : ℕ) → i < work.layout.nodes → words i ≡ 0 → IsFrom end (next_of work times c i)
    pub nodes : (i : ℕ) → i < work.layout.nodes → GoesOnBy work (words i) (c.nodes i) (d.nodes i)
    pub last : (i : ℕ) → i < work.layout.nodes → 1 ≤ words i
        → may_execute (standing_of work (d.nodes i)) ≡ true
    pub lists : (j i : ℕ) → j < work.layout.nodes → i < work.layout.nodes → d.list j i ≡ c.list j i

early_in : (work : Work) (times : Times) (c d : Core) (end : ℕ) (words : ℕ → ℕ)
    → IsStretch work times c d end words
    → AreEarly (next_of work times c) words times end work.layout.nodes
early_in work times c d end words s = record {
  early = λ i low some.
      let ends = s.ends i low some in
      let near : clock_of (times.spent i) < end = omega (arith, ends, some) in (
        from_word (standing_of work (c.nodes i)) (word_due times i)
            (first_to work.layout.nodes times i) end (s.may i low some) near (s.mail i low some),
        near,
      );
  late = s.others;
}

-- a word that sends nothing leaves the lists as they are
silent_list : (work : Work) (c : Core) (k j i : ℕ)
    → word_turn work (c.nodes k) ≡ silent (word_turn work (c.nodes k)).node
    → (event_step work c (Exec k)).list j i ≡ c.list j i
silent_list work c k j i still = elim (eqb_tells j k) [
  | inl e ↦ rw e.0 (ap (λ (t : Turn). c.list j i ++ wires_to (word_turn work (c.nodes k)).node.stamp i t.sends) still ∙ append-nil (c.list j i))
  | inr e ↦ rw e.0 refl
]

same_times : (n : ℕ) (t : Times) → AreSameTimes n t t
same_times n t = record {
  spent = λ i low. refl;
  needs = λ i low. refl;
  arrivals = λ j i below low. refl;
}

-- the stretch behind its first word
record GoesBehind (costs : Costs) (work : Work) (times : Times) (c d : Core) (end : ℕ)
    (words : ℕ → ℕ) (k rest : ℕ)
    : Type 0 where
  made : HasMade costs work times c (word_due times k) (with_word k times)
      (event_step work c (Exec k))
  behind : IsStretch work (with_word k times) (event_step work c (Exec k)) d end
      (changed words k rest)

behind_word : (costs : Costs) (work : Work) (times : Times) (c d : Core) (end : ℕ)
    (words : ℕ → ℕ) (k w : ℕ) → k < work.layout.nodes → words k ≡ suc w
    → IsStretch work times c d end words → GoesBehind costs work times c d end words k w
behind_word costs work times c d end words k w low count s = record {
  made = word_made_at costs work times (with_word k times) c (event_step work c (Exec k)) k
      (low, s.may k low first) passed (same_times work.layout.nodes (with_word k times));
  behind = record {
    may = λ i bi some. elim (eqb_tells i k) [
      | inl t ↦ subst (λ z. may_execute (standing_of work (mid.nodes z)) ≡ true) (sym t.1) again
      | inr t ↦ subst (λ (n : Node). may_execute (standing_of work n) ≡ true)
          (sym (other c.nodes k i next t.1)) (s.may i bi (subst (λ z. 1 ≤ z) (other words k i w t.1) some))
    ];
    ends = λ i bi some. elim (eqb_tells i k) [
      | inl t ↦ subst (λ z. clock_of ((with_word k times).spent z) + changed words k w z ≡ end)
          (sym t.1) own
      | inr t ↦ (let spent = other times.spent k i one t.1 in
          let here = other words k i w t.1 in
          (λ z. clock_of (spent z) + here z) ∙ s.ends i bi (subst (λ z. 1 ≤ z) here some))
    ];
    mail = λ i bi some. elim (eqb_tells i k) [
      | inl t ↦ subst (λ z. IsFrom end (first_to work.layout.nodes times z)) (sym t.1) (s.mail k low first)
      | inr t ↦ s.mail i bi (subst (λ z. 1 ≤ z) (other words k i w t.1) some)
    ];
    others = λ i bi none. elim (eqb_tells i k) [
      | inl t ↦ subst (λ z. IsFrom end (next_of work (with_word k times) mid z)) (sym t.1)
          (at_end (sym (hit words k w) ∙ ap (changed words k w) (sym t.1) ∙ none))
      | inr t ↦ (let node = other c.nodes k i next t.1 in
          let spent = other times.spent k i one t.1 in
          subst (IsFrom end) (sym (λ z. next_by (standing_of work (node z))
          (record { time = clock_of (spent z); event = Exec i })
          (first_to work.layout.nodes times i)))
          (s.others i bi (sym (other words k i w t.1) ∙ none)))
    ];
    nodes = λ i bi. elim (eqb_tells i k) [
      | inl t ↦ subst (λ z. GoesOnBy work (changed words k w z) (mid.nodes z) (d.nodes z)) (sym t.1) here
      | inr t ↦ subst (λ (n : Node). GoesOnBy work (changed words k w i) n (d.nodes i))
          (sym (other c.nodes k i next t.1))
          (subst (λ z. GoesOnBy work z (c.nodes i) (d.nodes i)) (sym (other words k i w t.1)) (s.nodes i bi))
    ];
    last = λ i bi some. elim (eqb_tells i k) [
      | inl t ↦ subst (λ z. may_execute (standing_of work (d.nodes z)) ≡ true) (sym t.1) final
      | inr t ↦ s.last i bi (subst (λ z. 1 ≤ z) (other words k i w t.1) some)
    ];
    lists = λ j i bj bi. s.lists j i bj bi ∙ sym (kept_list j i);
  };
}
  where
    mid : Core
    mid = event_step work c (Exec k)

    next : Node
    next = (word_turn work (c.nodes k)).node

    one : Spent
    one = one_word_more (times.spent k)

    first : 1 ≤ words k
    first = omega (arith, count)

    goes : GoesOnBy work (suc w) (c.nodes k) (d.nodes k)
    goes = subst (λ z. GoesOnBy work z (c.nodes k) (d.nodes k)) count (s.nodes k low)

    still : word_turn work (c.nodes k) ≡ silent (word_turn work (c.nodes k)).node
    still = goes.1

    final : may_execute (standing_of work (d.nodes k)) ≡ true
    final = s.last k low first

    here : GoesOnBy work (changed words k w k) (mid.nodes k) (d.nodes k)
    here = subst (λ z. GoesOnBy work z (mid.nodes k) (d.nodes k)) (sym (hit words k w))
        (subst (λ (n : Node). GoesOnBy work w n (d.nodes k)) (sym (hit c.nodes k next)) goes.2)

    again : may_execute (standing_of work (mid.nodes k)) ≡ true
    again = goes_may work (changed words k w k) (mid.nodes k) (d.nodes k) here final

    passed : HasPassed work k c mid
    passed = record {
      silent = still;
      event = alike_same work.layout.nodes mid;
      may = (low, again);
    }

    kept_list : (j i : ℕ) → mid.list j i ≡ c.list j i
    kept_list j i = silent_list work c k j i still

    own : clock_of ((with_word k times).spent k) + changed words k w k ≡ end
    own =
        let spent : (with_word k times).spent k ≡ one = hit times.spent k one in
        let few = hit words k w in
        let ends = s.ends k low first in
        (λ z. clock_of (spent z) + few z) ∙ omega (arith, ends, count)

    at_end : w ≡ 0 → IsFrom end (next_of work (with_word k times) mid k)
    at_end none =
        let clock : clock_of ((with_word k times).spent k) ≡ end =
        (let few = hit words k w in omega (arith, own, few, none)) in
        subst (λ z. IsFrom z (next_of work (with_word k times) mid k)) clock
        (from_own_clock (standing_of work (mid.nodes k)) (word_due (with_word k times) k)
        (first_to work.layout.nodes times k))

-- 5. All the words of a stretch, one after another

stretch_same : (work : Work) (s t : Times) (c d : Core) (end : ℕ) (words : ℕ → ℕ)
    → AreSameTimes work.layout.nodes s t → IsStretch work s c d end words
    → IsStretch work t c d end words
stretch_same work s t c d end words same a = record {
  may = a.may;
  ends = λ i low some.
      let spent = sym (same.spent i low) in
      (λ z. clock_of (spent z) + words i) ∙ a.ends i low some;
  mail = λ i low some. subst (IsFrom end) (first_to_same work.layout.nodes s t i low same)
      (a.mail i low some);
  others = λ i low none. subst (IsFrom end) (next_of_same work s t c c i low same refl)
      (a.others i low none);
  nodes = a.nodes;
  last = a.last;
  lists = a.lists;
}

one_more : (s : Spent) (w : ℕ) → more_words (suc w) s ≡ more_words w (one_word_more s)
one_more s w =
    let sum : s.words + suc w ≡ s.words + 1 + w = omega arith in
    λ t. record s { words = sum t }

no_more : (s : Spent) (w : ℕ) → w ≡ 0 → more_words w s ≡ s
no_more s w none =
    let sum : s.words + w ≡ s.words = omega (arith, none) in
    λ t. record s { words = sum t }

words_split : (words : ℕ → ℕ) (times : Times) (k w i : ℕ) → words k ≡ suc w
    → more_words (words i) (times.spent i)
    ≡ more_words (changed words k w i) ((with_word k times).spent i)
words_split words times k w i count = elim (eqb_tells i k) [
  | inl t ↦ subst (λ z. more_words (words z) (times.spent z)
      ≡ more_words (changed words k w z) ((with_word k times).spent z)) (sym t.1) at
  | inr t ↦ (let few = other words k i w t.1 in
      let spent = other times.spent k i one t.1 in
      sym (λ z. more_words (few z) (spent z)))
]
  where
    one : Spent
    one = one_word_more (times.spent k)

    at : more_words (words k) (times.spent k)
        ≡ more_words (changed words k w k) ((with_word k times).spent k)
    at =
        let few = hit words k w in
        let spent = hit times.spent k one in
        ap (λ z. more_words z (times.spent k)) count ∙ one_more (times.spent k) w
        ∙ sym (λ z. more_words (few z) (spent z))

pred_of : (k : ℕ) → 1 ≤ k → (w : ℕ) × (k ≡ suc w)
pred_of zero some = absurd (omega (arith, some))
pred_of (suc w) some = (w, refl)

no_words : (words : ℕ → ℕ) (n : ℕ) → ((i : ℕ) → i < n → words i ≡ 0) → all_words words n ≡ 0
no_words words zero none = refl
no_words words (suc m) none =
    let before = no_words words m (λ i low. none i (omega (arith, low))) in
    let last = none m (omega arith) in
    omega (arith, before, last)

record AreMade (costs : Costs) (work : Work) (plan : List PlanEntry) (times new_times : Times)
    (c d : Core) (total steps : ℕ)
    : Type 0 where
  dues : List Due
  many : length dues ≡ total
  by_rule : AreNext costs work times c dues
  is_run : IsCoreRun work c (events_in dues)
  core_is : AreAlike work.layout.nodes d (after work c (events_in dues))
  times_are : AreSameTimes work.layout.nodes new_times (times_after_all costs work times c dues)
  steps_are : steps_made work plan c (events_in dues) ≡ steps

-- so many words more lead there, from wherever the stretch stands
abbrev LeadThere : Costs → Work → List PlanEntry → (total end : ℕ) → (new_times : Times)
    → (d : Core) → Type 0
LeadThere costs work plan total end new_times d = (words : ℕ → ℕ) (times : Times) (c : Core)
    → all_words words work.layout.nodes ≡ total → IsStretch work times c d end words
    → AreSameTimes work.layout.nodes new_times (with_words words times)
    → AreMade costs work plan times new_times c d total
    (steps_of_each work plan words c.nodes work.layout.nodes)

one_made : (costs : Costs) (work : Work) (plan : List PlanEntry) (total end k w : ℕ)
    (words : ℕ → ℕ) (times new_times : Times) (c d : Core)
    → LeadThere costs work plan total end new_times d
    → all_words words work.layout.nodes ≡ suc total → IsStretch work times c d end words
    → AreSameTimes work.layout.nodes new_times (with_words words times) → k < work.layout.nodes
    → words k ≡ suc w → next work times c ≡ Some (word_due times k)
    → AreMade costs work plan times new_times c d (suc total)
    (steps_of_each work plan words c.nodes work.layout.nodes)
one_made costs work plan total end k w words times new_times c d lead all s same low count is =
    let n = work.layout.nodes in
    let b = behind_word costs work times c d end words k w low count s in
    let later = times_after costs work times c (word_due times k) in
    let fewer = words_fewer words k w n low count in
    let rest = lead (changed words k w) later (event_step work c (Exec k))
    (omega (arith, fewer, all))
    (stretch_same work (with_word k times) later (event_step work c (Exec k)) d end
    (changed words k w) b.made.times_are b.behind) (record {
      spent = λ i bi. same.spent i bi ∙ words_split words times k w i count
          ∙ ap (more_words (changed words k w i)) (b.made.times_are.spent i bi);
      needs = λ i bi. same.needs i bi ∙ b.made.times_are.needs i bi;
      arrivals = λ j i bj bi. same.arrivals j i bj bi ∙ b.made.times_are.arrivals j i bj bi;
    }) in
    record {
      dues = word_due times k ∷ rest.dues;
      many = ap suc rest.many;
      by_rule = (is, rest.by_rule);
      is_run = ((low, s.may k low (omega (arith, count))), rest.is_run);
      core_is = rest.core_is;
      times_are = rest.times_are;
      steps_are = steps_more work plan c (Exec k) (events_in rest.dues)
          ∙ ap (λ z. steps_of_word work plan (c.nodes k) + z) rest.steps_are
          ∙ sym (each_fewer work plan words c.nodes k w n low count);
    }

first_made : (costs : Costs) (work : Work) (plan : List PlanEntry) (total end : ℕ)
    (words : ℕ → ℕ) (times new_times : Times) (c d : Core)
    → LeadThere costs work plan total end new_times d
    → all_words words work.layout.nodes ≡ suc total → IsStretch work times c d end words
    → AreSameTimes work.layout.nodes new_times (with_words words times)
    → IsEarliest (next_of work times c) words times end work.layout.nodes
    → AreMade costs work plan times new_times c d (suc total)
    (steps_of_each work plan words c.nodes work.layout.nodes)
first_made costs work plan total end words times new_times c d lead all s same (NoWord none from) =
    let zero = no_words words work.layout.nodes none in absurd (omega (arith, zero, all))
first_made costs work plan total end words times new_times c d lead all s same
    (Word k low some near is) =
    let w = pred_of (words k) some in
    one_made costs work plan total end k w.0 words times new_times c d lead all s same low w.1 is

all_made : (costs : Costs) (work : Work) (plan : List PlanEntry) (total end : ℕ)
    (new_times : Times) (d : Core) → LeadThere costs work plan total end new_times d
all_made costs work plan zero end new_times d words times c all s same =
    let none = none_left words work.layout.nodes all in
    record {
      dues = [];
      many = refl;
      by_rule = tt;
      is_run = tt;
      core_is = record {
        nodes = λ i low. sym (subst (λ z. GoesOnBy work z (c.nodes i) (d.nodes i)) (none i low) (s.nodes i low));
        lists = s.lists;
      };
      times_are = record {
        spent = λ i low. same.spent i low ∙ no_more (times.spent i) (words i) (none i low);
        needs = same.needs;
        arrivals = same.arrivals;
      };
      steps_are = sym (none_each work plan words c.nodes work.layout.nodes none);
    }
all_made costs work plan (suc total) end new_times d words times c all s same =
    first_made costs work plan total end words times new_times c d
    (all_made costs work plan total end new_times d) all s same
    (earliest_word (next_of work times c) words times end work.layout.nodes
    (early_in work times c d end words s))

-- this is what is known of a run behind the words of a stretch
pub record IsBehind (work : Work) (plan : List PlanEntry) (words : ℕ → ℕ) (old new : Moment)
    : Type 0 where
  pub nodes : work.layout.nodes ≤ 16
  pub few : (i : ℕ) → i < work.layout.nodes → words i ≤ 4096
  pub times : AreSameTimes work.layout.nodes new.times (with_words words old.times)
  pub steps : new.steps ≡ old.steps + steps_of_each work plan words old.core.nodes work.layout.nodes

pub stretch_made : (costs : Costs) (work : Work) (plan : List PlanEntry) (end k : ℕ)
    (words : ℕ → ℕ) (old new : Moment) → k < work.layout.nodes → 1 ≤ words k
    → IsStretch work old.times old.core new.core end words → IsBehind work plan words old new
    → HaveMade costs work plan old new
stretch_made costs work plan end k words old new low some s b =
    let n = work.layout.nodes in
    let same = b.times in
    let m = all_made costs work plan (all_words words n) end new.times new.core words old.times
    old.core refl s same in
    let many = m.many in
    let one = some_left words n k low some in
    let sum = b.steps in
    let nodes = b.nodes in
    let most = each_few work plan words old.core.nodes n b.few in
    record {
      dues = m.dues;
      some = omega (arith, many, one);
      by_rule = m.by_rule;
      is_run = m.is_run;
      core_is = m.core_is;
      times_are = m.times_are;
      steps_are = b.steps ∙ ap (λ z. old.steps + z) (sym m.steps_are);
      within = λ lines most within. record {
        clocks = λ i bi.
            let clock = within.clocks i bi in
            let little = b.few i bi in
            subst (λ (z : Spent). clock_of z ≤ most + 2 ^ 26) (sym (same.spent i bi))
            (omega (arith, clock, little));
        arrivals = λ j i bj bi. subst (λ (ts : List ℕ). AreBy (most + 2 ^ 26) ts)
            (sym (same.arrivals j i bj bi))
            (by_more most (most + 2 ^ 26) (old.times.arrivals j i) (omega arith)
            (within.arrivals j i bj bi));
      };
      few = omega (arith, sum, most, nodes);
    }

-- 6. Words that were executed until a time are a stretch

words_by : (b : Bool) (words lack : ℕ) → words ≡ cond b lack 0 → 1 ≤ words → b ≡ true
words_by true words lack is some = refl
words_by false words lack is some = absurd (omega (arith, is, some))

pub is_stretch : (work : Work) (times : Times) (c d : Core) (end : ℕ) (words : ℕ → ℕ)
    → ((i : ℕ) → i < work.layout.nodes → words i ≡ words_until work times c end i)
    → AreFree work times c end → HaveEachPassed work words c d → IsStretch work times c d end words
is_stretch work times c d end words are free passed = record {
  may = may;
  ends = λ i low some.
      let can = may i low some in
      let here : words i ≡ end - clock_of (times.spent i) =
      are i low ∙ ap (λ b. cond b (end - clock_of (times.spent i)) 0) can in
      omega (arith, here, some);
  mail = λ i low some. (free i low).mail (may i low some);
  others = λ i low none. at_rest i low none (may_execute (standing_of work (c.nodes i))) refl;
  nodes = passed.nodes;
  last = λ i low some. (passed.may i (low, may i low some)).1;
  lists = passed.lists;
}
  where
    may : (i : ℕ) → i < work.layout.nodes → 1 ≤ words i
        → may_execute (standing_of work (c.nodes i)) ≡ true
    may i low some = words_by (may_execute (standing_of work (c.nodes i))) (words i)
        (end - clock_of (times.spent i)) (are i low) some

    at_rest : (i : ℕ) → i < work.layout.nodes → words i ≡ 0 → (b : Bool)
        → may_execute (standing_of work (c.nodes i)) ≡ b → IsFrom end (next_of work times c i)
    at_rest i low none true can =
        let here : words i ≡ end - clock_of (times.spent i) =
        are i low ∙ ap (λ b. cond b (end - clock_of (times.spent i)) 0) can in
        from_later end (clock_of (times.spent i)) (next_of work times c i)
        (omega (arith, here, none))
        (from_own_clock (standing_of work (c.nodes i)) (word_due times i)
        (first_to work.layout.nodes times i))
    at_rest i low none false cannot = (free i low).other cannot

-- a time before which nodes are free, and any time before that
pub free_earlier : (work : Work) (times : Times) (c : Core) (early late i : ℕ) → early ≤ late
    → IsFree work times c late i → IsFree work times c early i
free_earlier work times c early late i le free = record {
  mail = λ may. from_later early late (first_to work.layout.nodes times i) le (free.mail may);
  near = λ may. let near = free.near may in omega (arith, le, near);
  other = λ may. from_later early late (next_of work times c i) le (free.other may);
}

pub below_if_other : (i n : ℕ) → i < n + 1 → (i ≡ n → ⊥) → i < n
below_if_other i n more apart = omega (arith, more, apart)

-- what is said of the elements below n, and of one more
pub set_on : (xs : List ℕ) (P : ℕ → ℕ → Type 0) (n v : ℕ) → n < length xs
    → ((i : ℕ) → i < n → P i (slice_index_or xs i 0)) → P n v
    → (i : ℕ) → i < n + 1 → P i (slice_index_or (slice_set xs n v) i 0)
set_on xs P n v low before here i more = elim (eqb_tells i n) [
  | inl e ↦ subst (λ z. P z (slice_index_or (slice_set xs n v) z 0)) (sym e.1)
      (subst (P n) (sym (get_or-set_same xs n v 0 low)) here)
  | inr e ↦ subst (P i) (sym (get_or-set_other xs n i v 0 e.1)) (before i (below_if_other i n more e.1))
]

-- one event that comes next is made, where no more can be made at once
pub one_event : (costs : Costs) (work : Work) (plan : List PlanEntry) (old new : Moment) (d : Due)
    → AreInRange costs → IsNextAt work old.times old.core d → next work old.times old.core ≡ Some d
    → HasMade costs work old.times old.core d new.times new.core
    → new.steps ≡ old.steps + steps_made work plan old.core (d.event ∷ [])
    → HaveMade costs work plan old new
one_event costs work plan old new d range is here made steps =
    let one = event_few work plan old.core d.event in
    record {
      dues = d ∷ [];
      some = omega arith;
      by_rule = (here, tt);
      is_run = (is.may, tt);
      core_is = made.core_is;
      times_are = made.times_are;
      steps_are = steps;
      within = λ few most within. within_same work.layout.nodes (most + 2 ^ 26) new.times
          (times_after costs work old.times old.core d) made.times_are
          (step_within costs work old.times old.core d most range few is within);
      few = omega (arith, steps, one);
    }

-- 7. A run behind a stretch

pub stretch_ready : (old new : TimedRun) (words : ℕ → ℕ) → work_of new.core ≡ work_of old.core
    → new.costs ≡ old.costs → new.undo_logs ≡ old.undo_logs → plan_in new ≡ plan_in old
    → CountsFor (work_of old.core) (plan_in old) new.count
    → HaveEachPassed (work_of old.core) words (core_of old.core) (core_of new.core)
    → AreClocks old.core.layout.nodes new.clocks
    → AreSameTimes old.core.layout.nodes (times_of old.core.layout.nodes new.clocks)
    (with_words words (times_in old)) → IsReady old → IsReady new
stretch_ready old new words same costs logs plan counts passed clocks times ready = record {
  clocks = subst (λ (w : Work). AreClocks w.layout.nodes new.clocks) (sym same) clocks;
  costs = subst AreInRange (sym costs) ready.costs;
  undo_logs = logs ∙ ready.undo_logs ∙ ap (λ (w : Work). w.layout.nodes) (sym same);
  in_step = subst (λ (w : Work). AreInStep w.layout.nodes (times_of w.layout.nodes new.clocks) (core_of new.core))
      (sym same) (λ j i bj bi. ap length (times.arrivals j i bj bi) ∙ ready.in_step j i bj bi
      ∙ ap length (sym (passed.lists j i bj bi)));
  counts = counts_here old new same plan counts;
}

pub stretch_by : (old new : TimedRun) (end k : ℕ) (words : ℕ → ℕ)
    → work_of new.core ≡ work_of old.core → k < old.core.layout.nodes → 1 ≤ words k
    → ((i : ℕ) → i < old.core.layout.nodes → words i ≤ 4096)
    → ((i : ℕ) → i < old.core.layout.nodes
    → words i ≡ words_until (work_of old.core) (times_in old) (core_of old.core) end i)
    → AreFree (work_of old.core) (times_in old) (core_of old.core) end
    → HaveEachPassed (work_of old.core) words (core_of old.core) (core_of new.core)
    → AreSameTimes old.core.layout.nodes (times_of old.core.layout.nodes new.clocks)
    (with_words words (times_in old)) → old.core.layout.nodes ≤ 16
    → new.count.steps ≡ old.count.steps
    + steps_of_each (work_of old.core) (plan_in old) words (core_of old.core).nodes
    old.core.layout.nodes
    → HaveMade old.costs (work_of old.core) (plan_in old) (moment_of old) (moment_of new)
stretch_by old new end k words same low some few are free passed times nodes steps =
    let work = work_of old.core in
    let n = old.core.layout.nodes in
    stretch_made old.costs work (plan_in old) end k words (moment_of old) (moment_of new) low some
    (is_stretch work (times_in old) (core_of old.core) (core_of new.core) end words are free passed)
    (record {
      nodes = nodes;
      few = few;
      times = subst (λ m. AreSameTimes n (times_of m new.clocks) (with_words words (times_in old)))
          (sym (ap (λ (w : Work). w.layout.nodes) same)) times;
      steps = steps;
    })
