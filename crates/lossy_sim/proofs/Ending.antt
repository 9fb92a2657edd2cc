-- A run with loss ends.
use Rattle.std.proofs.Common.{◌≡◌, ◌≢◌, ℕ, zero, suc, ◌+◌, ◌*◌, ◌/◌, ◌%◌, ◌^◌, ◌<◌, ◌≤◌, ◌⊎◌, ◌==◌, ◌&&◌, Bool, true, false, List, [], ◌∷◌, ◌++◌, length, refl, ap, sym, ◌∙◌, subst, inl, inr, ⊎_elim, arith, length-append}
use Rattle.std.specs.Prelude.{if◌then◌else◌, filter}
use Rattle.std.proofs.lemmas.Nat.{mul-le}
use Rattle.random_order.specs.Orders.{following}
use Rattle.dsm_messages.specs.declared.messages.Wire.{Wire}
use Rattle.lossy_link.specs.Receiver.{Receiving}
use Rattle.node_model.specs.declared.Standing.{Standing}
use Rattle.node_model.specs.declared.Standing.TheVariants.{Running, AtPoll, Waiting, Ended, Over}
use Rattle.node_model.specs.Node.{Work, Node, standing_of}
use Rattle.node_model.specs.Turns as turns
use Rattle.node_model.specs.Turns.{word_turn, take_turn}
use Rattle.node_model.specs.Core.{Core, Event, Exec, Take, May, IsCoreRun, may_execute, may_take, wires_to, event_step, after, opening_core}
use Rattle.dsm_core.specs.rewriting_law.Bounds.{RunsRewritten, most_events}
use Rattle.dsm_core.proofs.CoreRuns.{run_append, after_append}
use Rattle.dsm_core.proofs.Promised.{RunsGoOn}
use Rattle.dsm_core.proofs.Bounds.{AreShort}
use Rattle.shared_sim.specs.ByOrder.{events_at, all_events}
use Rattle.shared_sim.proofs.Choices.{IsBelow, head_false, none_in, none_at}
use Rattle.lossy_sim.specs.Links.{LossyLink, with_offered, new_link}
use Rattle.lossy_sim.specs.WithLoss.{State, Turn, Ordinary, Network, HasMade, HasEvent, HaveNetworkTurns, FollowsLoss, AreAllOver, opening_state, ordinary, is_allowed, has_next, choices, with_receiver}
use Rattle.lossy_sim.proofs.UnderWay.{le_or_above}
use Rattle.lossy_sim.proofs.Standing.{Stands, picked_may, event_stands, network_stands, opening_stands}
use Rattle.lossy_sim.proofs.Nearing.{Near, IsCounted, near_more, near_any, near_needs, near_turn, counted_turn, next_of_turn}

-- 1. Links that are near

-- each link counts, its receiver has taken no more than so many events, and what is under way comes
-- within so many network turns
pub record IsDue (n : ℕ) (s : State) (c : Core) (m events : ℕ) : Type 0 where
  pub counted : (j i : ℕ) → j < n → i < n → IsCounted (s.links j i)
  pub next : (j i : ℕ) → j < n → i < n → (s.links j i).receiver.next ≤ events
  pub near : (j i : ℕ) → j < n → i < n → c.list j i ≢ [] → Near (s.links j i) m

counted_if : (b : Bool) (l : LossyLink) (wires : List Wire) → IsCounted l
    → IsCounted (if b then with_offered l wires else l)
counted_if true l wires h = record { lost = h.lost; silent = h.silent }
counted_if false l wires h = h

next_if : (b : Bool) (l : LossyLink) (wires : List Wire) (k : ℕ) → l.receiver.next ≤ k
    → (if b then with_offered l wires else l).receiver.next ≤ k
next_if true l wires k h = h
next_if false l wires k h = h

received_counted : (b : Bool) (l : LossyLink) (r : Receiving Wire) → IsCounted l
    → IsCounted (if b then record l { receiver = r } else l)
received_counted true l r h = record { lost = h.lost; silent = h.silent }
received_counted false l r h = h

received_next : (b : Bool) (l : LossyLink) (r : Receiving Wire) (k : ℕ) → l.receiver.next ≤ k
    → r.next ≤ k → (if b then record l { receiver = r } else l).receiver.next ≤ k
received_next true l r k h g = g
received_next false l r k h g = h

-- a node has made a turn
made_due : (n i : ℕ) (t : turns.Turn) (s last : State) (c : Core) (k : ℕ)
    → ((j i : ℕ) → j < n → i < n → IsCounted (s.links j i))
    → ((j i : ℕ) → j < n → i < n → (s.links j i).receiver.next ≤ k)
    → HasMade n i t s last → IsDue n last c 18 k
made_due n i t s last c k few next m = record {
  counted = λ x y xn yn. subst IsCounted (sym (m.links x y xn yn))
      (counted_if (x == i) (s.links x y) (wires_to t.node.stamp y t.sends) (few x y xn yn));
  next = λ x y xn yn. subst (λ (l : LossyLink). l.receiver.next ≤ k) (sym (m.links x y xn yn))
      (next_if (x == i) (s.links x y) (wires_to t.node.stamp y t.sends) k (next x y xn yn));
  near = λ x y xn yn some. near_any (last.links x y);
}

event_due : (work : Work) (e : Event) (s last : State) (c d : Core) (m k : ℕ)
    → IsDue work.layout.nodes s c m k → IsBelow work.layout.nodes e → HasEvent work e s last
    → IsDue work.layout.nodes last d 18 (suc k)
event_due work (Exec i) s last c d m k due low h =
    made_due work.layout.nodes i (word_turn work (s.nodes i)) s last d (suc k) due.counted
    (λ x y xn yn. omega (arith, due.next x y xn yn)) h
event_due work (Take i j) s last c d m k due low (wire, r, g, h) =
    let n = work.layout.nodes in
    let moved : r.next ≡ (s.links j i).receiver.next + 1 =
    ap (λ (u : Receiving Wire). u.next) g.moves_on in
    let few : r.next ≤ suc k = omega (arith, moved, due.next j i low.1 low.0) in
    made_due n i (take_turn work (s.nodes i) j wire) (with_receiver s j i r) last d (suc k)
    (λ x y xn yn. received_counted (x == j && y == i) (s.links x y) r (due.counted x y xn yn))
    (λ x y xn yn. received_next (x == j && y == i) (s.links x y) r (suc k)
    (omega (arith, due.next x y xn yn)) few) h

network_due : (n : ℕ) (s last : State) (c : Core) (m k : ℕ) → Stands n s c → k < 2 ^ 63
    → HaveNetworkTurns n s last → IsDue n s c (suc m) k → IsDue n last c m k
network_due n s last c m k stands small h due = record {
  counted = λ j i jn lt. counted_turn (h.numbers (j * n + i)) (s.links j i)
      (h.numbers (suc (j * n + i))) (last.links j i) (due.counted j i jn lt) (h.turns j i jn lt);
  next = λ j i jn lt.
      omega (arith, next_of_turn _ _ _ _ (h.turns j i jn lt), due.next j i jn lt);
  near = λ j i jn lt some. near_turn (h.numbers (j * n + i)) (s.links j i)
      (h.numbers (suc (j * n + i))) (last.links j i) (c.list j i) m (stands.lists j i jn lt) some
      (due.counted j i jn lt) (omega (arith, due.next j i jn lt, small)) (h.turns j i jn lt)
      (due.near j i jn lt some);
}

due_more : (n : ℕ) (s : State) (c : Core) (m k : ℕ) → IsDue n s c m k → IsDue n s c (suc m) k
due_more n s c m k due = record {
  counted = due.counted;
  next = due.next;
  near = λ j i jn lt some. near_more (s.links j i) m (due.near j i jn lt some);
}

-- 2. Where the nodes may make no event, a link is waited for

none_of : (n : ℕ) (p : Event → Bool) (e : Event) → IsBelow n e → filter p (all_events n) ≡ []
    → p e ≡ false
none_of n p (Exec i) low none =
    (head_false (p (Exec i)) (Exec i) _ (none_in p (events_at n) 0 n i (omega arith) (omega arith) none)).0
none_of n p (Take i j) low none =
    let bi = low.0 in
    let bj = low.1 in
    let here = none_in p (events_at n) 0 n i (omega arith) (omega arith) none in
    let takes = (head_false (p (Exec i)) (Exec i) _ here).1 in
    none_at p (λ k. Take i k) 0 n j (omega arith) (omega arith) takes

not_next : (a b : Bool) → a ≡ true → (a && b) ≡ false → b ≡ false
not_next true b e f = f
not_next false b e f = absurd (cc)

still_waits : (work : Work) (s : State) (c : Core) (m k : ℕ) (e : Event)
    → Stands work.layout.nodes s c → IsDue work.layout.nodes s c m k → choices work s ≡ []
    → May work c e → 1 ≤ m
still_waits work s c m k (Exec i) h due none may =
    let no = none_of work.layout.nodes (is_allowed work s) (Exec i) may.0 none in
    let yes : may_execute (standing_of work (s.nodes i)) ≡ true =
    ap (λ (x : Node). may_execute (standing_of work x)) (h.nodes i may.0) ∙ may.1 in
    absurd (let bad : true ≡ false = sym yes ∙ no in cc)
still_waits work s c m k (Take i j) h due none may =
    let no = none_of work.layout.nodes (is_allowed work s) (Take i j) (may.0, may.1) none in
    let yes : may_take (standing_of work (s.nodes i)) ≡ true =
    ap (λ (x : Node). may_take (standing_of work x)) (h.nodes i may.0) ∙ may.2 in
    near_needs (s.links j i) m (due.counted j i may.1 may.0) (due.near j i may.1 may.0 may.3)
    (not_next (may_take (standing_of work (s.nodes i))) (has_next (s.links j i).receiver) yes no)

-- 3. Cores that a run reaches

record IsReached (work : Work) (c : Core) (k : ℕ) : Type 0 where
  events : List Event
  is_run : IsCoreRun work (opening_core work) events
  leads : c ≡ after work (opening_core work) events
  count : length events ≡ k

reach_more : (work : Work) (c : Core) (k : ℕ) (e : Event) → IsReached work c k → May work c e
    → IsReached work (event_step work c e) (suc k)
reach_more work c k e r may = record {
  events = r.events ++ e ∷ [];
  is_run = run_append work (opening_core work) r.events (e ∷ []) r.is_run
      (subst (λ d. May work d e) r.leads may, tt);
  leads = ap (λ d. event_step work d e) r.leads
      ∙ sym (after_append work (opening_core work) r.events (e ∷ []));
  count = omega (arith, length-append r.events (e ∷ []), r.count);
}

most : (n budget : ℕ) → n ≤ 16 → budget ≤ 2 ^ 32 → (4 * n + 5) * (n * budget) + n * n < 2 ^ 56
most n budget few range =
    let words = mul-le n budget 16 (2 ^ 32) few range in
    let runs = mul-le (4 * n + 5) (n * budget) 69 (16 * 2 ^ 32) (omega arith) words in
    let byes = mul-le n n 16 16 few few in
    omega (arith, runs, byes)

pub few_events : (work : Work) (events : List Event) → AreShort → RunsRewritten work
    → IsCoreRun work (opening_core work) events → length events < 2 ^ 56
few_events work events short r run =
    below (length events) (most_events work)
    (short work r.plan events r.accepted r.valid r.laid_over r.rewriting r.some run)
    (most work.layout.nodes work.budget r.valid.few_nodes r.few)
  where
    below : (k m : ℕ) → k ≤ m → m < 2 ^ 56 → k < 2 ^ 56
    below k m p q = omega arith

over_or : (x : Standing) → (x ≡ Over) ⊎ (x ≢ Over)
over_or Running = inr (λ e. absurd (cc))
over_or AtPoll = inr (λ e. absurd (cc))
over_or Waiting = inr (λ e. absurd (cc))
over_or Ended = inr (λ e. absurd (cc))
over_or Over = inl refl

-- all below k are over, or one isn't
some_going : (work : Work) (s : State) (k : ℕ)
    → ((i : ℕ) → i < k → standing_of work (s.nodes i) ≡ Over)
    ⊎ ((i : ℕ) × (i < k) × (standing_of work (s.nodes i) ≢ Over))
some_going work s zero = inl (λ i lt. absurd (omega arith))
some_going work s (suc k) = ⊎_elim
    (λ (all : (i : ℕ) → i < k → standing_of work (s.nodes i) ≡ Over). ⊎_elim
    (λ (e : standing_of work (s.nodes k) ≡ Over). inl (λ i lt. by_place i lt all e))
    (λ (e : standing_of work (s.nodes k) ≢ Over). inr (k, omega arith, e))
    (over_or (standing_of work (s.nodes k))))
    (λ (one : (i : ℕ) × (i < k) × (standing_of work (s.nodes i) ≢ Over)).
    inr (one.0, omega (arith, one.1), one.2)) (some_going work s k)
  where
    by_place : (i : ℕ) → i < suc k → ((i : ℕ) → i < k → standing_of work (s.nodes i) ≡ Over)
        → standing_of work (s.nodes k) ≡ Over → standing_of work (s.nodes i) ≡ Over
    by_place i lt all e = ⊎_elim
        (λ (h : k ≤ i). let same : k ≡ i = omega arith in
        subst (λ x. standing_of work (s.nodes x) ≡ Over) same e)
        (λ (h : i < k). all i h)
        (le_or_above i k)

goes_on : (work : Work) (s : State) (c : Core) (k : ℕ) → RunsGoOn → RunsRewritten work
    → IsReached work c k → Stands work.layout.nodes s c → (AreAllOver work s → ⊥)
    → (e : Event) × May work c e
goes_on work s c k law r reached h going = ⊎_elim
    (λ (all : AreAllOver work s). absurd (going all))
    (λ (one : (i : ℕ) × (i < work.layout.nodes) × (standing_of work (s.nodes i) ≢ Over)).
    let other : standing_of work ((after work (opening_core work) reached.events).nodes one.0) ≢ Over =
    λ e. one.2 (ap (standing_of work) (h.nodes one.0 one.1)
    ∙ ap (λ (d : Core). standing_of work (d.nodes one.0)) reached.leads ∙ e) in
    let next = law work r.plan reached.events one.0 r.accepted r.valid r.laid_over r.rewriting
    reached.is_run one.1 other in
    (next.0, subst (λ d. May work d next.0) (sym reached.leads) next.1))
    (some_going work s work.layout.nodes)

-- 4. How many turns there are

-- so many turns were made, of which so many were events, and the links are so near
abbrev AreFew : (turns events m : ℕ) → Type 0
AreFew turns events m = turns + m ≤ 19 * events + 18 + turns / 4

few_on : (turns events m : ℕ) → AreFew turns events m → AreFew (suc turns) (suc events) 18
few_on turns events m h = omega (arith, h)

few_fourth : (turns events m : ℕ) → AreFew turns events m → suc turns % 4 ≡ 0
    → AreFew (suc turns) events m
few_fourth turns events m h e = omega (arith, h, e)

few_still : (turns events m : ℕ) → AreFew turns events (suc m) → AreFew (suc turns) events m
few_still turns events m h = omega (arith, h)

module _ (work : Work) (law : RunsGoOn) (short : AreShort) (r : RunsRewritten work) where
  abbrev n : ℕ
  n = work.layout.nodes

  small : (c : Core) (k : ℕ) → IsReached work c k → k < 2 ^ 63
  small c k reached =
      let few = few_events work reached.events short r reached.is_run in
      omega (arith, few, reached.count)

  -- so many turns follow at most
  abbrev End : (turns events : ℕ) → List Turn → Type 0
  End turns events ts = length ts + turns
      ≤ 19 * (events + length (ordinary ts)) + 18 + (length ts + turns) / 4

  ends_from : (ts : List Turn) (turns m k : ℕ) (s last : State) (c : Core)
      → FollowsLoss work (suc turns) s ts last → Stands n s c → IsReached work c k
      → IsDue n s c m k → AreFew turns k m → End turns k ts
  ends_from [] turns m k s last c e h reached due few = omega (arith, few)
  ends_from (Ordinary e ∷ ts) turns m k s last c (going, mid, (not_its, picked, event, o, l), more) h reached due few =
      let may = picked_may work s c (following s.order) e h picked in
      let rest = ends_from ts (suc turns) 18 (suc k) mid last (event_step work c e) more
      (event_stands work e s mid c h may.0 event) (reach_more work c k e reached may.1)
      (event_due work e s mid c (event_step work c e) m k due may.0 event) (few_on turns k m few) in
      omega (arith, rest)
  ends_from (Network ∷ ts) turns m k s last c (going, mid, (its, turned), more) h reached due few =
      let stands = network_stands n s mid c h turned in
      let on : (x : ℕ) → IsDue n mid c x k → AreFew (suc turns) k x → End turns k (Network ∷ ts) =
      λ x d f. (let rest = ends_from ts (suc turns) x k mid last c more stands reached d f in
      omega (arith, rest)) in
      ⊎_elim
      (λ (fourth : suc turns % 4 ≡ 0). on m
      (network_due n s mid c m k h (small c k reached) turned (due_more n s c m k due))
      (few_fourth turns k m few fourth))
      (λ (still : choices work s ≡ []).
      let next = goes_on work s c k law r reached h going in
      waits m due few (still_waits work s c m k next.0 h due still next.1) on) its
    where
      waits : (m : ℕ) → IsDue n s c m k → AreFew turns k m → 1 ≤ m
          → ((x : ℕ) → IsDue n mid c x k → AreFew (suc turns) k x → End turns k (Network ∷ ts))
          → End turns k (Network ∷ ts)
      waits zero due few some on = absurd (omega arith)
      waits (suc x) due few some on = on x
          (network_due n s mid c x k h (small c k reached) turned due) (few_still turns k x few)

  opening_due : (order loss : ℕ) → IsDue n (opening_state work order loss) (opening_core work) 18 0
  opening_due order loss = record {
    counted = λ j i jn lt. record { lost = omega arith; silent = omega arith };
    next = λ j i jn lt. omega arith;
    near = λ j i jn lt some. near_any new_link;
  }

  pub ends : (order loss : ℕ) (ts : List Turn) (last : State)
      → FollowsLoss work 1 (opening_state work order loss) ts last
      → IsCoreRun work (opening_core work) (ordinary ts) → length ts ≤ 26 * (most_events work + 1)
  ends order loss ts last follows is_run =
      let all : End 0 0 ts = ends_from ts 0 18 0 (opening_state work order loss) last (opening_core work) follows
      (opening_stands work order loss)
      (record { events = []; is_run = tt; leads = refl; count = refl })
      (opening_due order loss) (omega arith) in
      let few = short work r.plan (ordinary ts) r.accepted r.valid r.laid_over r.rewriting r.some is_run in
      bounded (length ts) (length (ordinary ts)) (most_events work) all few
    where
      bounded : (t k b : ℕ) → t + 0 ≤ 19 * (0 + k) + 18 + (t + 0) / 4 → k ≤ b → t ≤ 26 * (b + 1)
      bounded t k b h g = omega (arith, h, g)
