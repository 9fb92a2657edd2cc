-- The next event of a run by a clock: it is allowed, and there is one until every node is over.
use Rattle.std.proofs.Common.{◌≡◌, ◌≢◌, ℕ, ◌<◌, ◌≤◌, Bool, true, false, cond, List, [], ◌∷◌, length, Option, Some, None, refl, sym, ap, ◌∙◌, subst, arith}
use Rattle.std.specs.Prelude.{nat_lt, max, slice_index_or}
use Rattle.dsm_core.specs.dsm_messages.declared.messages.Wire.{Wire}
use Rattle.dsm_core.specs.node_model.declared.Standing.{Standing}
use Rattle.dsm_core.specs.node_model.declared.Standing.TheVariants.{Running, AtPoll, Waiting, Ended, Over}
use Rattle.dsm_core.specs.node_model.Node.{Work, standing_of}
use Rattle.dsm_core.specs.node_model.Core.{Core, Event, Exec, Take, May, IsOver, AreAlike, may_execute, may_take}
use Rattle.dsm_core.specs.run_order.OwnRun.{node_of}
use Rattle.timed_sim.specs.Clock.{Due, Times, clock_of, first_from, first_to, from_clock, next_by, next_of, next}
use Rattle.timed_sim.specs.Stored.{AreInStep, AreSameTimes, AreWithin}
use Rattle.timed_sim.proofs.Dues.{earliest_one, earliest_none, earliest_same}

-- 1. A message that is due

abbrev due_at : (time : ℕ) → Event → Due
due_at time e = record { time = time; event = e }

pub first_is : (j i : ℕ) (ts : List ℕ) (d : Due) → first_from j i ts ≡ Some d
    → (rest : List ℕ) × (d.event ≡ Take i j) × (ts ≡ d.time ∷ rest)
first_is j i [] d e = absurd (cc)
first_is j i (t ∷ ts) d e =
    let is : due_at t (Take i j) ≡ d = cc in (
      ts,
      sym (ap (λ (x : Due). x.event) is),
      ap (λ (x : Due). x.time ∷ ts) is,
    )

-- the message that arrives first is the first of its link
record IsFirstAt (n : ℕ) (times : Times) (i : ℕ) (d : Due) : Type 0 where
  from : ℕ
  low : from < n
  event : d.event ≡ Take i from
  rest : List ℕ
  here : times.arrivals from i ≡ d.time ∷ rest

first_to_is : (n : ℕ) (times : Times) (i : ℕ) (d : Due) → first_to n times i ≡ Some d
    → IsFirstAt n times i d
first_to_is n times i d e =
    let one = earliest_one (λ j. first_from j i (times.arrivals j i)) n d e in
    let is = first_is one.0 i (times.arrivals one.0 i) d one.2 in
    record { from = one.0; low = one.1; event = is.1; rest = is.0; here = is.2 }

-- 2. What is next at a node

-- it is the node's word, or its first message, from the clock on
data IsDueBy (s : Standing) (word : Due) (take : Option Due) (d : Due) : Type 0 where
  ByWord : may_execute s ≡ true → d ≡ word → IsDueBy s word take d
  ByTake : (t : Due) → may_take s ≡ true → take ≡ Some t → d.event ≡ t.event
      → word.time ≤ d.time → d.time ≤ max word.time t.time → IsDueBy s word take d

by_poll : (word d t : Due) (b : Bool) → Some (cond b word (due_at word.time t.event)) ≡ Some d
    → IsDueBy AtPoll word (Some t) d
by_poll word d t true e = let is : word ≡ d = cc in ByWord refl (sym is)
by_poll word d t false e =
    let is : due_at word.time t.event ≡ d = cc in
    let time : word.time ≡ d.time = ap (λ (x : Due). x.time) is in
    ByTake t refl refl (sym (ap (λ (x : Due). x.event) is)) (omega (arith, time)) (omega (arith, time))

by_clock : (s : Standing) (word d : Due) (take : Option Due) → may_take s ≡ true
    → from_clock word.time take ≡ Some d → IsDueBy s word take d
by_clock s word d None may e = absurd (cc)
by_clock s word d (Some t) may e =
    let is : due_at (max word.time t.time) t.event ≡ d = cc in
    let time : max word.time t.time ≡ d.time = ap (λ (x : Due). x.time) is in
    ByTake t may refl (sym (ap (λ (x : Due). x.event) is)) (omega (arith, time)) (omega (arith, time))

due_by : (s : Standing) (word : Due) (take : Option Due) (d : Due) → next_by s word take ≡ Some d
    → IsDueBy s word take d
due_by Running word take d e = let is : word ≡ d = cc in ByWord refl (sym is)
due_by AtPoll word None d e = let is : word ≡ d = cc in ByWord refl (sym is)
due_by AtPoll word (Some t) d e = by_poll word d t (nat_lt word.time t.time) e
due_by Waiting word take d e = by_clock Waiting word d take refl e
due_by Ended word take d e = by_clock Ended word d take refl e
due_by Over word take d e = absurd (cc)

-- 3. The next event is allowed, and begins no earlier than its node's clock shows

pub record IsNextAt (work : Work) (times : Times) (c : Core) (d : Due) : Type 0 where
  pub low : node_of d.event < work.layout.nodes
  pub may : May work c d.event
  pub clock : clock_of (times.spent (node_of d.event)) ≤ d.time
  pub within : (most : ℕ) → AreWithin work.layout.nodes most times → d.time ≤ most
  pub word : (i : ℕ) → d.event ≡ Exec i → d.time ≡ clock_of (times.spent i)

some_wire : (ws : List Wire) (t : ℕ) (ts : List ℕ) → length (t ∷ ts) ≡ length ws → ws ≢ []
some_wire ws t ts len none =
    let empty : length ws ≡ 0 = ap length none in absurd (omega (arith, len, empty))

by_word : (work : Work) (times : Times) (c : Core) (i : ℕ) (d : Due) → i < work.layout.nodes
    → may_execute (standing_of work (c.nodes i)) ≡ true
    → d ≡ due_at (clock_of (times.spent i)) (Exec i) → IsNextAt work times c d
by_word work times c i d low may is =
    subst (IsNextAt work times c) (sym is) (record {
      low = low;
      may = (low, may);
      clock = omega arith;
      within = λ most within. within.clocks i low;
      word = λ j e. ap (λ k. clock_of (times.spent k)) (ap node_of e);
    })

by_take : (work : Work) (times : Times) (c : Core) (i : ℕ) (d t : Due) → i < work.layout.nodes
    → AreInStep work.layout.nodes times c
    → may_take (standing_of work (c.nodes i)) ≡ true → IsFirstAt work.layout.nodes times i t
    → d.event ≡ t.event → clock_of (times.spent i) ≤ d.time
    → d.time ≤ max (clock_of (times.spent i)) t.time → IsNextAt work times c d
by_take work times c i d t low in_step may first same least most =
    let event : d.event ≡ Take i first.from = same ∙ first.event in
    let at : node_of d.event ≡ i = ap node_of event in
    let some = some_wire (c.list first.from i) t.time first.rest
    (sym (ap length first.here) ∙ in_step first.from i first.low low) in
    record {
      low = subst (λ k. k < work.layout.nodes) (sym at) low;
      may = subst (May work c) (sym event) (low, first.low, may, some);
      clock = subst (λ k. clock_of (times.spent k) ≤ d.time) (sym at) least;
      within = λ all within.
          let clock = within.clocks i low in
          let arrived : t.time ≤ all = subst (λ (ts : List ℕ). slice_index_or ts 0 0 ≤ all) first.here
          (within.arrivals first.from i first.low low 0 0
          (subst (λ (ts : List ℕ). 0 < length ts) (sym first.here) (omega arith))) in
          omega (arith, most, clock, arrived);
      word = λ j e. let apart : Take i first.from ≡ Exec j = sym event ∙ e in absurd (cc);
    }

next_of_is : (work : Work) (times : Times) (c : Core) (i : ℕ) (d : Due) → i < work.layout.nodes
    → AreInStep work.layout.nodes times c → next_of work times c i ≡ Some d
    → IsNextAt work times c d
next_of_is work times c i d low in_step e =
    by_kind (due_by (standing_of work (c.nodes i)) (due_at (clock_of (times.spent i)) (Exec i))
    (first_to work.layout.nodes times i) d e)
  where
    by_kind : IsDueBy (standing_of work (c.nodes i))
        (due_at (clock_of (times.spent i)) (Exec i))
        (first_to work.layout.nodes times i) d → IsNextAt work times c d
    by_kind (ByWord may is) = by_word work times c i d low may is
    by_kind (ByTake t may is same least most) =
        by_take work times c i d t low in_step may (first_to_is work.layout.nodes times i t is) same
        least most

pub next_is : (work : Work) (times : Times) (c : Core) (d : Due)
    → AreInStep work.layout.nodes times c → next work times c ≡ Some d → IsNextAt work times c d
next_is work times c d in_step e =
    let one = earliest_one (next_of work times c) work.layout.nodes d e in
    next_of_is work times c one.0 d one.1 in_step one.2

-- 4. Where an event is allowed, there is a next

word_none : (s : Standing) (word : Due) (take : Option Due) → may_execute s ≡ true
    → next_by s word take ≡ None → ⊥
word_none Running word take may e = absurd (cc)
word_none other word take may e = absurd (cc)

clock_none : (clock : ℕ) (take : Option Due) → from_clock clock take ≡ None → take ≡ None
clock_none clock None e = refl
clock_none clock (Some t) e = absurd (cc)

take_none : (s : Standing) (word : Due) (take : Option Due) → may_take s ≡ true
    → next_by s word take ≡ None → take ≡ None
take_none Running word take may e = absurd (cc)
take_none AtPoll word take may e = absurd (cc)
take_none Waiting word take may e = clock_none word.time take e
take_none Ended word take may e = clock_none word.time take e
take_none Over word take may e = absurd (cc)

from_none : (j i : ℕ) (ts : List ℕ) → first_from j i ts ≡ None → ts ≡ []
from_none j i [] e = refl
from_none j i (t ∷ ts) e = absurd (cc)

no_wire : (ws : List Wire) → length ws ≡ 0 → ws ≡ []
no_wire [] e = refl
no_wire (w ∷ ws) e = absurd (omega (arith, e))

none_may : (work : Work) (times : Times) (c : Core) (e : Event)
    → AreInStep work.layout.nodes times c → next work times c ≡ None → May work c e → ⊥
none_may work times c (Exec i) in_step none may =
    word_none (standing_of work (c.nodes i)) (due_at (clock_of (times.spent i)) (Exec i))
    (first_to work.layout.nodes times i) may.1
    (earliest_none (next_of work times c) work.layout.nodes i none may.0)
none_may work times c (Take i j) in_step none may =
    let first = take_none (standing_of work (c.nodes i))
    (due_at (clock_of (times.spent i)) (Exec i)) (first_to work.layout.nodes times i) may.2
    (earliest_none (next_of work times c) work.layout.nodes i none may.0) in
    let empty = from_none j i (times.arrivals j i)
    (earliest_none (λ k. first_from k i (times.arrivals k i)) work.layout.nodes j first may.1) in
    may.3 (no_wire (c.list j i) (sym (in_step j i may.1 may.0) ∙ ap length empty))

over_by : (s : Standing) → (s ≢ Over → ⊥) → s ≡ Over
over_by Over h = refl
over_by other h = absurd (h (λ e. absurd (cc)))

pub none_over : (work : Work) (times : Times) (c : Core) → AreInStep work.layout.nodes times c
    → next work times c ≡ None
    → ((i : ℕ) → i < work.layout.nodes → standing_of work (c.nodes i) ≢ Over
    → (e : Event) × May work c e)
    → IsOver work c
none_over work times c in_step none goes_on = λ i low. over_by (standing_of work (c.nodes i))
    (λ apart. let on = goes_on i low apart in none_may work times c on.0 in_step none on.1)

-- 5. Nodes and times that are the same have the same next event

pub first_to_same : (n : ℕ) (s t : Times) (i : ℕ) → i < n → AreSameTimes n s t
    → first_to n s i ≡ first_to n t i
first_to_same n s t i low same =
    earliest_same (λ j. first_from j i (s.arrivals j i)) (λ j. first_from j i (t.arrivals j i)) n
    (λ j below. ap (first_from j i) (same.arrivals j i below low))

pub next_of_same : (work : Work) (s t : Times) (c d : Core) (i : ℕ) → i < work.layout.nodes
    → AreSameTimes work.layout.nodes s t → c.nodes i ≡ d.nodes i
    → next_of work s c i ≡ next_of work t d i
next_of_same work s t c d i low same node =
    let spent = same.spent i low in
    let first = first_to_same work.layout.nodes s t i low same in
    λ z. next_by (standing_of work (node z)) (record { time = clock_of (spent z); event = Exec i })
    (first z)

pub next_same : (work : Work) (s t : Times) (c d : Core) → AreSameTimes work.layout.nodes s t
    → AreAlike work.layout.nodes c d → next work s c ≡ next work t d
next_same work s t c d same alike =
    earliest_same (next_of work s c) (next_of work t d) work.layout.nodes
    (λ i low. next_of_same work s t c d i low same (alike.nodes i low))
