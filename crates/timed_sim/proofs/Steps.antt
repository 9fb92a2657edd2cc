-- What an event leaves of the clocks and the times of messages.
use Rattle.std.proofs.Common.{◌≡◌, ◌≢◌, ℕ, ◌+◌, ◌-◌, ◌<◌, ◌≤◌, ◌^◌, Bool, true, false, cond, eqb, ◌&&◌, List, [], ◌∷◌, ◌++◌, map, length, refl, ap, ◌∙◌, subst, inl, inr, arith, length-append}
use Rattle.std.proofs.lemmas.Bool.Decides.{eqb_tells}
use Rattle.block_layout.specs.Layout.{Shape}
use Rattle.dsm_core.specs.dsm_messages.declared.messages.Need.{Need}
use Rattle.dsm_core.specs.dsm_messages.declared.messages.Need.TheVariants.{Read, Write}
use Rattle.dsm_core.specs.dsm_messages.declared.messages.Wire.{Wire}
use Rattle.dsm_core.specs.dsm_messages.declared.headers.Sent.{Sent}
use Rattle.dsm_core.specs.dsm_messages.Headers.{sent_by}
use Rattle.dsm_core.specs.node_machine.declared.wanted.Wanted.{Wanted}
use Rattle.dsm_core.specs.node_machine.Wanted.{wants_of_word}
use Rattle.dsm_core.specs.node_model.declared.Standing.{Standing}
use Rattle.dsm_core.specs.node_model.declared.Standing.TheVariants.{Running, Waiting}
use Rattle.dsm_core.specs.node_model.Node.{Work, Node, standing_of}
use Rattle.dsm_core.specs.node_model.Turns.{Turn, word_turn, take_turn}
use Rattle.dsm_core.specs.node_model.Core.{Core, Event, Exec, Take, May, AreAlike, event_step, with_turn, with_list, take_first, wires_to}
use Rattle.dsm_core.specs.run_order.OwnRun.{node_of}
use Rattle.dsm_core.specs.Seen.{sends_at, sends_of_take, wants_at}
use Rattle.timed_sim.specs.declared.costs.Costs.{Costs}
use Rattle.timed_sim.specs.declared.costs.Spent.{Spent}
use Rattle.timed_sim.specs.Clock.{AreInRange, Due, Times, clock_of, with_gap, with_event, spent_after, need_after, delays_to, with_sent, with_sends, behind_first, without_taken, times_by, times_after}
use Rattle.timed_sim.specs.Stored.{AreInStep, AreSameTimes, AreWithin}
use Rattle.timed_sim.specs.Stretches.{HaveFewLines}
use Rattle.timed_sim.proofs.Next.{IsNextAt}
use Rattle.timed_sim.proofs.Arrivals.{AreBy, length_sent, length_delays, length_behind, by_more, behind_by, sent_by_then, delays_few}

-- 1. The same event at nodes and times that are the same

wants_same : (work : Work) (c d : Core) (e : Event) → May work c e → AreAlike work.layout.nodes c d
    → wants_at work c e ≡ wants_at work d e
wants_same work c d (Exec i) may alike = ap (wants_of_word work) (alike.nodes i may.0)
wants_same work c d (Take i j) may alike = refl

sends_same : (work : Work) (c d : Core) (e : Event) → May work c e → AreAlike work.layout.nodes c d
    → sends_at work c e ≡ sends_at work d e
sends_same work c d (Exec i) may alike =
    ap (λ (n : Node). (word_turn work n).sends) (alike.nodes i may.0)
sends_same work c d (Take i j) may alike =
    let node = alike.nodes i may.0 in
    let wires = alike.lists j i may.1 may.0 in
    λ t. sends_of_take work (node t) j (wires t)

taken_same : (n : ℕ) (e : Event) (s t : Times) → AreSameTimes n s t → (j k : ℕ) → j < n → k < n
    → without_taken e s.arrivals j k ≡ without_taken e t.arrivals j k
taken_same n (Exec i) s t same j k low below = same.arrivals j k low below
taken_same n (Take i from) s t same j k low below =
    ap (λ z. cond (eqb j from && eqb k i) (behind_first z) z) (same.arrivals j k low below)

times_by_same : (n : ℕ) (costs : Costs) (layout : Shape) (standing : Standing) (wants : List Wanted)
    (sends : List Sent) (s t : Times) (x : Due) → node_of x.event < n → AreSameTimes n s t
    → AreSameTimes n (times_by costs layout standing wants sends s x)
    (times_by costs layout standing wants sends t x)
times_by_same n costs layout standing wants sends s t x low same =
    let i = node_of x.event in
    let need = same.needs i low in
    let before = same.spent i low in
    let spent : spent_after costs standing (s.needs i) x (s.spent i)
    ≡ spent_after costs standing (t.needs i) x (t.spent i) =
    λ z. spent_after costs standing (need z) x (before z) in
    record {
      spent = λ k bk. let other = same.spent k bk in λ z. cond (eqb k i) (spent z) (other z);
      needs = λ k bk. let other = same.needs k bk in
          λ z. cond (eqb k i) (need_after wants (need z)) (other z);
      arrivals = λ j k bj bk. let taken = taken_same n x.event s t same j k bj bk in
          λ z. cond (eqb j i) (with_sent (clock_of (spent z)) (delays_to costs layout i k sends) (taken z))
          (taken z);
    }

pub times_same : (costs : Costs) (work : Work) (s t : Times) (c d : Core) (x : Due)
    → node_of x.event < work.layout.nodes → May work c x.event
    → AreSameTimes work.layout.nodes s t → AreAlike work.layout.nodes c d
    → AreSameTimes work.layout.nodes (times_after costs work s c x) (times_after costs work t d x)
times_same costs work s t c d x low may same alike =
    let node = alike.nodes (node_of x.event) low in
    let wants = wants_same work c d x.event may alike in
    let sends = sends_same work c d x.event may alike in
    let is : times_after costs work t c x ≡ times_after costs work t d x =
    λ z. times_by costs work.layout (standing_of work (node z)) (wants z) (map sent_by (sends z)) t x in
    subst (λ (u : Times). AreSameTimes work.layout.nodes (times_after costs work s c x) u) is
    (times_by_same work.layout.nodes costs work.layout (standing_of work (c.nodes (node_of x.event)))
    (wants_at work c x.event) (map sent_by (sends_at work c x.event)) s t x low same)

-- 2. Each message has its time

turn_in_step : (costs : Costs) (work : Work) (n i time : ℕ) (c : Core) (t : Turn)
    (arrivals : (j i : ℕ) → List ℕ)
    → ((j k : ℕ) → j < n → k < n → length (arrivals j k) ≡ length (c.list j k))
    → (j k : ℕ) → j < n → k < n
    → length (with_sends costs work.layout i time (map sent_by t.sends) arrivals j k)
    ≡ length ((with_turn c i t).list j k)
turn_in_step costs work n i time c t arrivals in_step j k bj bk = by_test (eqb j i)
  where
    by_test : (b : Bool)
        → length (cond b (with_sent time (delays_to costs work.layout i k (map sent_by t.sends)) (arrivals j k))
        (arrivals j k))
        ≡ length (cond b (c.list j k ++ wires_to t.node.stamp k t.sends) (c.list j k))
    by_test true =
        let here = in_step j k bj bk in
        let sent = length_sent time (delays_to costs work.layout i k (map sent_by t.sends)) (arrivals j k) in
        let delays = length_delays costs work.layout i k t.node.stamp t.sends in
        let wires = length-append (c.list j k) (wires_to t.node.stamp k t.sends) in
        omega (arith, here, sent, delays, wires)
    by_test false = in_step j k bj bk

take_in_step : (n i from : ℕ) (c : Core) (rest : List Wire) (wire : Wire)
    (arrivals : (j i : ℕ) → List ℕ)
    → c.list from i ≡ wire ∷ rest
    → ((j k : ℕ) → j < n → k < n → length (arrivals j k) ≡ length (c.list j k))
    → (j k : ℕ) → j < n → k < n
    → length (without_taken (Take i from) arrivals j k) ≡ length ((with_list c from i rest).list j k)
take_in_step n i from c rest wire arrivals is in_step j k bj bk =
    elim (eqb_tells j from) [
      | inl g ↦ elim (eqb_tells k i) [
        | inl h ↦ rw (g.0, h.0) (length_behind (arrivals j k) (length rest)
            (in_step j k bj bk ∙ ap (λ z. length (c.list z k)) g.1 ∙ ap (λ z. length (c.list from z)) h.1
            ∙ ap length is))
        | inr h ↦ rw (g.0, h.0) (in_step j k bj bk)
      ]
      | inr g ↦ rw g.0 (in_step j k bj bk)
    ]

first_in_step : (costs : Costs) (work : Work) (i j time : ℕ) (times : Times) (c : Core)
    (ws : List Wire) → c.list j i ≡ ws → ws ≢ [] → AreInStep work.layout.nodes times c
    → (x y : ℕ) → x < work.layout.nodes → y < work.layout.nodes
    → length (with_sends costs work.layout i time (map sent_by (sends_of_take work (c.nodes i) j ws))
    (without_taken (Take i j) times.arrivals) x y) ≡ length ((take_first work c i j ws).list x y)
first_in_step costs work i j time times c [] is some in_step x y bx by = absurd (some refl)
first_in_step costs work i j time times c (wire ∷ rest) is some in_step x y bx by =
    turn_in_step costs work work.layout.nodes i time (with_list c j i rest)
    (take_turn work (c.nodes i) j wire) (without_taken (Take i j) times.arrivals)
    (take_in_step work.layout.nodes i j c rest wire times.arrivals is in_step) x y bx by

pub step_in_step : (costs : Costs) (work : Work) (times : Times) (c : Core) (d : Due)
    → May work c d.event → AreInStep work.layout.nodes times c
    → AreInStep work.layout.nodes (times_after costs work times c d) (event_step work c d.event)
step_in_step costs work times c d may in_step = by_event d.event may _
  where
    by_event : (e : Event) → May work c e → (time : ℕ) → (x y : ℕ) → x < work.layout.nodes
        → y < work.layout.nodes
        → length (with_sends costs work.layout (node_of e) time (map sent_by (sends_at work c e))
        (without_taken e times.arrivals) x y) ≡ length ((event_step work c e).list x y)
    by_event (Exec i) may time x y bx by =
        turn_in_step costs work work.layout.nodes i time c (word_turn work (c.nodes i)) times.arrivals
        in_step x y bx by
    by_event (Take i j) may time x y bx by =
        first_in_step costs work i j time times c (c.list j i) refl may.3 in_step x y bx by

-- 3. No time is far

gap_clock : (s : Standing) (need : Need) (gap : ℕ) (spent : Spent)
    → clock_of (with_gap s need gap spent) ≡ clock_of spent + gap
gap_clock Waiting Read gap spent = omega arith
gap_clock Waiting Write gap spent = omega arith
gap_clock Running need gap spent = omega arith
gap_clock other need gap spent = omega arith

event_clock : (costs : Costs) (e : Event) (spent : Spent) → AreInRange costs
    → clock_of (with_event costs e spent) ≤ clock_of spent + 1000000
event_clock costs (Exec i) spent range = omega arith
event_clock costs (Take i j) spent range = let most = range.handling in omega (arith, most)

pub spent_clock : (costs : Costs) (s : Standing) (need : Need) (d : Due) (spent : Spent)
    → AreInRange costs → clock_of spent ≤ d.time
    → clock_of (spent_after costs s need d spent) ≤ d.time + 1000000
spent_clock costs s need d spent range clock =
    let gap = d.time - clock_of spent in
    let more = gap_clock s need gap spent in
    let most = event_clock costs d.event (with_gap s need gap spent) range in
    omega (arith, more, most, clock)

taken_by : (most : ℕ) (e : Event) (arrivals : (j i : ℕ) → List ℕ) (j k : ℕ)
    → AreBy most (arrivals j k) → AreBy most (without_taken e arrivals j k)
taken_by most (Exec i) arrivals j k by = by
taken_by most (Take i from) arrivals j k by = by_test (eqb j from && eqb k i)
  where
    by_test : (b : Bool) → AreBy most (cond b (behind_first (arrivals j k)) (arrivals j k))
    by_test true = behind_by most (arrivals j k) by
    by_test false = by

pub step_within : (costs : Costs) (work : Work) (times : Times) (c : Core) (d : Due) (most : ℕ)
    → AreInRange costs → HaveFewLines work.layout → IsNextAt work times c d
    → AreWithin work.layout.nodes most times
    → AreWithin work.layout.nodes (most + 2 ^ 26) (times_after costs work times c d)
step_within costs work times c d most range few is within =
    let i = node_of d.event in
    let spent = spent_after costs (standing_of work (c.nodes i)) (times.needs i) d (times.spent i) in
    let begins = is.within most within in
    let clock : clock_of spent ≤ most + 1000000 =
    let h = spent_clock costs (standing_of work (c.nodes i)) (times.needs i) d (times.spent i) range is.clock in
    omega (arith, h, begins) in
    record {
      clocks = λ k bk. by_node (eqb k i) spent (times.spent k) clock (within.clocks k bk);
      arrivals = λ j k bj bk.
          by_sender j k (clock_of spent) (eqb j i) clock
          (taken_by most d.event times.arrivals j k (within.arrivals j k bj bk));
    }
  where
    by_node : (b : Bool) (x y : Spent) → clock_of x ≤ most + 1000000 → clock_of y ≤ most
        → clock_of (cond b x y) ≤ most + 2 ^ 26
    by_node true x y h g = omega (arith, h)
    by_node false x y h g = omega (arith, g)

    by_sender : (j k time : ℕ) (b : Bool) → time ≤ most + 1000000
        → AreBy most (without_taken d.event times.arrivals j k) → AreBy (most + 2 ^ 26) (cond b
        (with_sent time (delays_to costs work.layout (node_of d.event) k
        (map sent_by (sends_at work c d.event))) (without_taken d.event times.arrivals j k))
        (without_taken d.event times.arrivals j k))
    by_sender j k time true clock by =
        sent_by_then time (most + 2 ^ 26)
        (delays_to costs work.layout (node_of d.event) k (map sent_by (sends_at work c d.event)))
        (without_taken d.event times.arrivals j k)
        (by_more most (most + 2 ^ 26) (without_taken d.event times.arrivals j k) (omega arith) by)
        (λ m e low. let h = delays_few costs work.layout (node_of d.event) k time
        (map sent_by (sends_at work c d.event)) range few m e low in omega (arith, h, clock))
    by_sender j k time false clock by =
        by_more most (most + 2 ^ 26) (without_taken d.event times.arrivals j k) (omega arith) by
