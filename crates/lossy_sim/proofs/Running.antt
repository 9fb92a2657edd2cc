-- A run with loss, turn by turn.
use Rattle.std.proofs.Common.{◌≡◌, ◌≢◌, ℕ, zero, suc, ◌+◌, ◌*◌, ◌%◌, ◌^◌, ◌<◌, ◌≤◌, true, Some, List, [], ◌∷◌, ◌++◌, map, length, slice_get, get_or, refl, sym, ap, ◌∙◌, subst, ⊎_elim, arith, length-append}
use Rattle.std.specs.Prelude.{All}
use Rattle.std.specs.Vec.{vec_len, vec_capacity}
use Rattle.std.proofs.Math.Path.{fun_ext}
use Rattle.std.proofs.lemmas.Nat.{mul-le}
use Rattle.std.proofs.lemmas.List.{length-map}
use Rattle.std.proofs.lemmas.List.Elements.{All-head, All-weaker}
use Rattle.random_order.specs.Orders.{following, choice}
use Rattle.dsm_messages.specs.declared.messages.Wire.{Wire}
use Rattle.lossy_link.specs.Sender.{number_offered}
use Rattle.node_model.specs.Node.{Work, Node, opening_node, standing_of, can_execute}
use Rattle.node_model.specs.Core.{Core, Event, Exec, Take, IsCoreRun, opening_core, after, may_take, AreAlike}
use Rattle.node_model.specs.Outcome.{Outcome, IsOutcomeOf}
use Rattle.dsm_core.specs.node_machine.declared.node_state.NodeState.{NodeState}
use Rattle.dsm_core.specs.run_order.OwnRun.{Stamped, StandsForOwnRun, run_of}
use Rattle.dsm_core.specs.rewriting_law.Bounds.{RunsRewritten, most_events}
use Rattle.dsm_core.specs.declared.cores.Event.{Event as Stored}
use Rattle.dsm_core.specs.CoreParts.{CoreParts, work_of, core_of, event_of, AreParts, HaveWork, HasStampsInRange}
use Rattle.dsm_core.specs.CoreSteps.{node_or, IsStamped, SameWorks}
use Rattle.dsm_core.proofs.CoreRuns.{any_node, can_execute_by, alike_back, parts_kept}
use Rattle.dsm_core.proofs.Promised.{RunsEndEmpty, stands_alike}
use Rattle.shared_sim.proofs.Turns.{picked_at}
use Rattle.shared_sim.specs.ByOrder.{all_events, pick_among}
use Rattle.shared_sim.proofs.Choices.{IsBelow, all_below, both_true}
use Rattle.lossy_sim.specs.Links.{LossyLink, new_link}
use Rattle.lossy_sim.specs.WithLoss.{State, Turn, Ordinary, Network, FollowsLoss, IsTurn, IsForNetwork, HasEvent, HaveNetworkTurns, AreAllOver, IsOutcomeWithLoss, opening_state, ordinary, is_allowed, has_next, choices}
use Rattle.lossy_sim.specs.Stored.{AreLinks, CanMake, HaveMade, HaveTurned, HaveOfferedFew, HaveSentFewer, link_at, state_of}
use Rattle.lossy_sim.specs.Runs.{state_in, IsReady, IsListed, HasPicked, HasTurned}
use Rattle.lossy_sim.specs.declared.run.LossyRun.{LossyRun}
use Rattle.lossy_sim.proofs.UnderWay.{delivered_carries}
use Rattle.lossy_sim.proofs.Standing.{Stands, allowed_may, one_chosen}

-- 1. Turns

-- one turn more behind a run
follow_more : (work : Work) (number : ℕ) (s : State) (ts : List Turn) (mid : State) (k : ℕ) (t : Turn)
    (last : State) → FollowsLoss work number s ts mid → (AreAllOver work mid → ⊥)
    → k ≡ length ts + number → IsTurn work k t mid last → FollowsLoss work number s (ts ++ t ∷ []) last
follow_more work number s [] mid k t last e going here turn =
    let same : k ≡ number = omega (arith, here) in
    subst (λ (x : State). FollowsLoss work number x (t ∷ []) last) e
    (going, last, subst (λ z. IsTurn work z t mid last) same turn, refl)
follow_more work number s (x ∷ ts) mid k t last (on, next, first, more) going here turn = (
  on,
  next,
  first,
  follow_more work (suc number) next ts mid k t last more going (omega (arith, here)) turn,
)

-- turns that the rule gives have led to the state of the run, and this is the number of the next one
pub record IsOnItsWay (work : Work) (order loss number : ℕ) (r : LossyRun) : Type 0 where
  pub turns : List Turn
  pub count : number ≡ suc (length turns)
  pub follows : FollowsLoss work 1 (opening_state work order loss) turns (state_in work r)
  pub sent : HaveSentFewer (18 * number) r.links.items work.layout.nodes

pub way_first : (work : Work) (order loss : ℕ) (r : LossyRun)
    → state_in work r ≡ opening_state work order loss → IsOnItsWay work order loss 1 r
way_first work order loss r opening = record {
  turns = [];
  count = omega arith;
  follows = opening;
  sent = λ j i jn lt. subst (λ (l : LossyLink). number_offered l.sender < 18)
      (sym (ap (λ (s : State). s.links j i) opening)) (omega arith);
}

pub way_more : (work : Work) (order loss number : ℕ) (r q : LossyRun) → IsOnItsWay work order loss number r
    → (AreAllOver work (state_in work r) → ⊥)
    → HasTurned work number (state_in work r) (state_in work q)
    → HaveOfferedFew 18 r.links.items q.links.items work.layout.nodes
    → IsOnItsWay work order loss (number + 1) q
way_more work order loss number r q way going turned few =
    let all = length-append way.turns (turned.turn ∷ []) in
    let count = way.count in
    let next : 18 * number + 18 ≡ 18 * (number + 1) = omega arith in
    record {
      turns = way.turns ++ turned.turn ∷ [];
      count = omega (arith, all, count);
      follows = follow_more work 1 (opening_state work order loss) way.turns (state_in work r) number turned.turn
          (state_in work q) way.follows going (omega (arith, count)) turned.is;
      sent = subst (λ z. HaveSentFewer z q.links.items work.layout.nodes) next (few (18 * number) way.sent);
    }

-- 2. Events

-- an event leaves the numbers to the turn
pub event_numbers : (work : Work) (e : Event) (s last : State) (order losses : ℕ) → HasEvent work e s last
    → HasEvent work e s (record last { order = order; losses = losses })
event_numbers work (Exec i) s last order losses m = record { nodes = m.nodes; links = m.links }
event_numbers work (Take i j) s last order losses (wire, r, d, m) =
    (wire, r, d, record { nodes = m.nodes; links = m.links })

below_length : (n i : ℕ) (nodes : List NodeState) → length nodes ≡ n → i < n → i < length nodes
below_length n i nodes len low = subst (λ z. i < z) (sym len) low

stamped : (work : Work) (nodes : List NodeState) (links : List LossyLink) (order losses : ℕ) (c : Core) (i : ℕ)
    → length nodes ≡ work.layout.nodes → Stands work.layout.nodes (state_of work nodes links order losses) c
    → HasStampsInRange work.layout.nodes c → i < work.layout.nodes → IsStamped nodes i
stamped work nodes links order losses c i len h range low d =
    subst (λ (x : Node). x.stamp < 2 ^ 56)
    (sym (h.nodes i low) ∙ any_node nodes i (opening_node work i) d (below_length work.layout.nodes i nodes len low))
    (range.nodes i low)

-- an event that is allowed may be made, where the stamps are in range
allowed_make : (work : Work) (nodes : List NodeState) (links : List LossyLink) (order losses : ℕ) (c : Core)
    (e : Event) → length nodes ≡ work.layout.nodes
    → Stands work.layout.nodes (state_of work nodes links order losses) c
    → HasStampsInRange work.layout.nodes c → IsBelow work.layout.nodes e
    → is_allowed work (state_of work nodes links order losses) e ≡ true
    → CanMake work.layout.nodes nodes links e
allowed_make work nodes links order losses c (Exec i) len h range low is =
    let s = state_of work nodes links order losses in
    let can = can_execute_by work c i (allowed_may work s c (Exec i) h low is) in (
      low,
      λ d. subst (λ (x : Node). can_execute x.phase ≡ true)
          (sym (h.nodes i low)
          ∙ any_node nodes i (opening_node work i) d (below_length work.layout.nodes i nodes len low)) can,
      stamped work nodes links order losses c i len h range low,
    )
allowed_make work nodes links order losses c (Take i j) len h range low is =
    let s = state_of work nodes links order losses in
    let l = link_at links work.layout.nodes j i in
    let both = both_true (may_take (standing_of work (s.nodes i))) (has_next l.receiver) is in (
      low.0,
      low.1,
      stamped work nodes links order losses c i len h range low.0,
      record {
        held = both.1;
        stamp = λ wire r d.
            (let first = delivered_carries l (c.list j i) wire r (h.lists j i low.1 low.0) d in
            All-head (λ (w : Wire). w.stamp < 2 ^ 56) wire first.0
            (subst (All (λ (w : Wire). w.stamp < 2 ^ 56)) first.1 (range.wires j i low.1 low.0)));
      },
    )

pub picked_make : (work : Work) (nodes : List NodeState) (links : List LossyLink) (order losses : ℕ) (c : Core)
    (number : ℕ) (e : Event) → length nodes ≡ work.layout.nodes
    → Stands work.layout.nodes (state_of work nodes links order losses) c
    → HasStampsInRange work.layout.nodes c
    → pick_among (choices work (state_of work nodes links order losses)) number ≡ Some e
    → CanMake work.layout.nodes nodes links e
picked_make work nodes links order losses c number e len h range here =
    let n = work.layout.nodes in
    let one = one_chosen n (is_allowed work (state_of work nodes links order losses)) (all_events n) _ e
    (all_below n) here in
    allowed_make work nodes links order losses c e len h range one.0 one.1

-- 3. How long a run is

few_turns : (n budget k : ℕ) → n ≤ 16 → budget ≤ 2 ^ 32
    → k ≤ 26 * ((4 * n + 5) * (n * budget) + n * n + 1) → k < 2 ^ 47
few_turns n budget k few range all =
    let words = mul-le n budget 16 (2 ^ 32) few range in
    let runs = mul-le (4 * n + 5) (n * budget) 69 (16 * 2 ^ 32) (omega arith) words in
    let byes = mul-le n n 16 16 few few in
    omega (arith, runs, byes, all)

pub way_short : (work : Work) (order loss number : ℕ) (r : LossyRun) (way : IsOnItsWay work order loss number r)
    → RunsRewritten work → length way.turns ≤ 26 * (most_events work + 1) → number ≤ 2 ^ 47
way_short work order loss number r way runs all =
    let few = few_turns work.layout.nodes work.budget (length way.turns) runs.valid.few_nodes runs.few all in
    omega (arith, few, way.count)

pub way_few : (work : Work) (order loss number : ℕ) (r : LossyRun) → IsOnItsWay work order loss number r
    → number ≤ 2 ^ 47 → HaveSentFewer (2 ^ 62) r.links.items work.layout.nodes
way_few work order loss number r way few j i jn lt = omega (arith, way.sent j i jn lt, few)

-- the stamps of a core that a run leads to are in range
pub run_in_range : (work : Work) (events : List Event) (c : Core) → length events < 2 ^ 56
    → ((i : ℕ) → i < work.layout.nodes → (c.nodes i).stamp ≤ length events)
    → ((j i : ℕ) → j < work.layout.nodes → i < work.layout.nodes
    → All (λ (wire : Wire). wire.stamp ≤ length events) (c.list j i))
    → HasStampsInRange work.layout.nodes c
run_in_range work events c few nodes wires = record {
  nodes = λ i lt. omega (arith, nodes i lt, few);
  wires = λ j i jn lt. All-weaker (λ (wire : Wire). wire.stamp ≤ length events)
      (λ (wire : Wire). wire.stamp < 2 ^ 56) (λ wire le. omega (arith, le, few)) (c.list j i) (wires j i jn lt);
}

-- 4. The end

-- once every node is over, nothing is in a list of the core either
pub end_alike : (work : Work) (order loss number : ℕ) (r : LossyRun) (way : IsOnItsWay work order loss number r)
    → work_of r.parts ≡ work → IsReady r → RunsRewritten work → RunsEndEmpty
    → IsCoreRun work (opening_core work) (ordinary way.turns)
    → Stands work.layout.nodes (state_in work r) (after work (opening_core work) (ordinary way.turns))
    → AreAllOver work (state_in work r)
    → AreAlike work.layout.nodes (core_of r.parts) (after work (opening_core work) (ordinary way.turns))
end_alike work order loss number r way same ready runs law is_run h over =
    let count = ap (λ (w : Work). w.layout.nodes) (sym same) in
    let none : (j i : ℕ) → j < work.layout.nodes → i < work.layout.nodes
    → (after work (opening_core work) (ordinary way.turns)).list j i ≡ [] =
    λ j i jn lt. law work runs.plan (ordinary way.turns) j i runs.accepted runs.valid runs.laid_over
    runs.rewriting is_run (λ k kn. ap (standing_of work) (sym (h.nodes k kn)) ∙ over k kn) jn lt in
    record {
      nodes = λ i lt. ap (λ (w : Work). node_or r.parts.nodes i (opening_node w i)) same ∙ h.nodes i lt;
      lists = λ j i jn lt. ready.empty j i (subst (λ n. j < n) count jn) (subst (λ n. i < n) count lt)
          ∙ sym (none j i jn lt);
    }

pub way_outcome : (work : Work) (order loss number : ℕ) (r : LossyRun) (d : Core) (o : Outcome)
    (way : IsOnItsWay work order loss number r)
    → AreAllOver work (state_in work r) → IsCoreRun work (opening_core work) (ordinary way.turns)
    → Stands work.layout.nodes (state_in work r) (after work (opening_core work) (ordinary way.turns))
    → AreAlike work.layout.nodes d (after work (opening_core work) (ordinary way.turns))
    → ((own : List Stamped) × StandsForOwnRun work d own × IsOutcomeOf work (run_of own) o)
    → IsOutcomeWithLoss work order loss o
way_outcome work order loss number r d o way over is_run h alike (own, stands, outcome) =
    let c = after work (opening_core work) (ordinary way.turns) in
    record {
      turns = way.turns;
      last = state_in work r;
      follows = way.follows;
      over = over;
      is_run = is_run;
      stand = h;
      own = own;
      stands = stands_alike work c d own (alike_back work.layout.nodes d c alike) stands;
      outcome = outcome;
    }

-- 5. What the code does in a turn

pub opened_state : (work : Work) (nodes : List NodeState) (links : List LossyLink) (order loss o l n : ℕ)
    → work.layout.nodes ≡ n → (state_of work nodes links o l).nodes ≡ opening_node work
    → ((j i : ℕ) → link_at links n j i ≡ new_link) → o ≡ order → l ≡ loss
    → state_of work nodes links o l ≡ opening_state work order loss
opened_state work nodes links order loss o l n count first empty eo el =
    let all : link_at links work.layout.nodes ≡ (λ j i. new_link) =
    ap (λ k. link_at links k) count ∙ fun_ext (λ j. fun_ext (λ i. empty j i)) in
    λ t. record { nodes = first t; links = all t; order = eo t; losses = el t }

-- what is offered on the links
pub few_there : {V r : LossyRun} {count : ℕ} (ls : List LossyLink) (more : ℕ) → V ≡ r
    → count ≡ V.parts.layout.nodes → more ≤ 18 → HaveOfferedFew more V.links.items ls count
    → HaveOfferedFew 18 r.links.items ls r.parts.layout.nodes
few_there {V} {r} {count} ls more view is le few =
    let n : count ≡ r.parts.layout.nodes = is ∙ ap (λ (x : LossyRun). x.parts.layout.nodes) view in
    subst (λ k. HaveOfferedFew 18 r.links.items ls k) n
    (subst (λ (x : LossyRun). HaveOfferedFew 18 x.links.items ls count) view
    (λ most sent j i jn lt. (let h = few most sent j i jn lt in omega (arith, h, le))))

-- the network's turn
pub network_made : {V r : LossyRun} {count : ℕ} (links : List LossyLink) (losses : ℕ) → V ≡ r
    → count ≡ V.parts.layout.nodes → HaveTurned count V.links.items links V.losses losses
    → HaveNetworkTurns r.parts.layout.nodes (state_in (work_of r.parts) r)
    (state_of (work_of r.parts) r.parts.nodes links r.order losses)
network_made {V} {r} {count} links losses view is turned =
    let work = work_of r.parts in
    let n : count ≡ r.parts.layout.nodes = is ∙ ap (λ (x : LossyRun). x.parts.layout.nodes) view in
    let last = state_of work r.parts.nodes links r.order losses in
    subst (λ k. HaveNetworkTurns k (state_in work r) last) n
    (subst (λ (x : LossyRun). HaveNetworkTurns count (state_of work r.parts.nodes x.links.items r.order x.losses) last)
    view (turned work r.parts.nodes r.order (sym n)))

pub network_turned : {V r : LossyRun} (q : LossyRun) (number : ℕ) → V ≡ r
    → IsForNetwork (work_of r.parts) number (state_in (work_of r.parts) r)
    → HaveNetworkTurns V.parts.layout.nodes (state_in (work_of V.parts) V) (state_in (work_of V.parts) q)
    → HasTurned (work_of r.parts) number (state_in (work_of r.parts) r) (state_in (work_of r.parts) q)
network_turned {V} {r} q number view its turned = record {
  turn = Network;
  is = (
    its,
    subst (λ (x : LossyRun). HaveNetworkTurns x.parts.layout.nodes (state_in (work_of x.parts) x)
        (state_in (work_of x.parts) q)) view turned,
  );
}

-- the events that are listed
pub all_listed : {V r : LossyRun} {count : ℕ} (items : List Stored) (nodes : List NodeState) (links : List LossyLink)
    → V ≡ r → IsReady r → nodes ≡ V.parts.nodes → links ≡ V.links.items → count ≡ V.parts.layout.nodes
    → ((work : Work) (order losses : ℕ) → work.layout.nodes ≡ count → HaveWork work nodes
    → map event_of items ≡ choices work (state_of work nodes links order losses))
    → map event_of items ≡ choices (work_of r.parts) (state_in (work_of r.parts) r)
all_listed {V} {r} {count} items nodes links view ready en el is listed =
    let work = work_of r.parts in
    let ns : nodes ≡ r.parts.nodes = en ∙ ap (λ (x : LossyRun). x.parts.nodes) view in
    let ls : links ≡ r.links.items = el ∙ ap (λ (x : LossyRun). x.links.items) view in
    let n : count ≡ r.parts.layout.nodes = is ∙ ap (λ (x : LossyRun). x.parts.layout.nodes) view in
    listed work r.order r.losses (sym n) (subst (λ (fs : List NodeState). HaveWork work fs) (sym ns) ready.parts.works)
    ∙ (λ t. choices work (state_of work (ns t) (ls t) r.order r.losses))

pub none_listed : (items : List Stored) (events : List Event) → map event_of items ≡ events
    → length items ≡ 0 → events ≡ []
none_listed [] events listed none = sym listed
none_listed (x ∷ xs) events listed none = absurd (omega (arith, none))

pub some_listed : (items : List Stored) (events : List Event) → map event_of items ≡ events
    → 1 ≤ length items → events ≢ []
some_listed items events listed some none =
    let count : length items ≡ 0 = sym (length-map items event_of) ∙ ap length (listed ∙ none) in
    absurd (omega (arith, count, some))

got_at : (xs : List Stored) (k : ℕ) (d : Stored) → k < length xs
    → slice_get (map event_of xs) k ≡ Some (event_of (get_or xs k d))
got_at [] k d below = absurd (omega (arith, below))
got_at (x ∷ xs) zero d below = refl
got_at (x ∷ xs) (suc k) d below = got_at xs k d (omega (arith, below))

-- the one at the place that the order chooses
pub event_picked : {V r : LossyRun} (work : Work) (place count : ℕ) (x : Stored) → V ≡ r → IsListed work r
    → count ≡ vec_len V.choices → place ≡ choice count (following V.order) → place < count
    → x ≡ get_or V.choices.items place x
    → pick_among (choices work (state_in work r)) (following r.order) ≡ Some (event_of x)
event_picked {V} {r} work place count x view listed len chooses among is =
    let all = choices work (state_in work r) in
    let same : V.choices.items ≡ r.choices.items = ap (λ (q : LossyRun). q.choices.items) view in
    let ok = r.choices.ok in
    let all_of : count ≡ vec_len r.choices = len ∙ ap (λ (q : LossyRun). vec_len q.choices) view in
    let n : count ≡ length r.choices.items = omega (arith, all_of, ok) in
    let here : x ≡ get_or r.choices.items place x = is ∙ ap (λ (xs : List Stored). get_or xs place x) same in
    let at : slice_get all place ≡ Some (event_of x) = ap (λ es. slice_get es place) (sym listed)
    ∙ got_at r.choices.items place x (subst (λ k. place < k) n among)
    ∙ ap (λ (z : Stored). Some (event_of z)) (sym here) in
    picked_at all place count (following r.order) (event_of x)
    (n ∙ sym (length-map r.choices.items event_of) ∙ ap length listed)
    (chooses ∙ ap (λ (q : LossyRun). choice count (following q.order)) view) at

pub make_there : {V r : LossyRun} {pv : CoreParts} {count : ℕ} (e : Event) → V ≡ r → pv ≡ V.parts
    → count ≡ V.parts.layout.nodes → CanMake r.parts.layout.nodes r.parts.nodes r.links.items e
    → CanMake count pv.nodes V.links.items e
make_there {V} {r} {pv} {count} e view parts is can =
    let there = subst (λ (x : LossyRun). CanMake x.parts.layout.nodes x.parts.nodes x.links.items e) (sym view) can in
    subst (λ k. CanMake k pv.nodes V.links.items e) (sym is)
    (subst (λ (p : CoreParts). CanMake V.parts.layout.nodes p.nodes V.links.items e) (sym parts) there)

pub event_made : {V r : LossyRun} {pv : CoreParts} {count : ℕ} (nodes : List NodeState) (links : List LossyLink)
    (order : ℕ) (e : Event) → V ≡ r → pv ≡ V.parts → count ≡ V.parts.layout.nodes → IsReady r
    → order ≡ following V.order
    → pick_among (choices (work_of r.parts) (state_in (work_of r.parts) r)) (following r.order) ≡ Some e
    → HaveMade count pv.nodes nodes V.links.items links e
    → HasPicked (work_of r.parts) (state_in (work_of r.parts) r)
    (state_of (work_of r.parts) nodes links order V.losses)
event_made {V} {r} {pv} {count} nodes links order e view parts is ready goes picked made =
    let work = work_of r.parts in
    let n : count ≡ r.parts.layout.nodes = is ∙ ap (λ (x : LossyRun). x.parts.layout.nodes) view in
    let there = subst (λ (p : CoreParts). HaveMade count p.nodes nodes V.links.items links e) parts made in
    let here = subst (λ (x : LossyRun). HaveMade count x.parts.nodes nodes x.links.items links e) view there in
    record {
      event = e;
      picked = picked;
      made = event_numbers work e (state_in work r) (state_of work nodes links r.order r.losses) order V.losses
          (here work r.order r.losses (sym n) ready.parts.works);
      order = goes ∙ ap (λ (x : LossyRun). following x.order) view;
      losses = ap (λ (x : LossyRun). x.losses) view;
    }

pub event_ready : {V r : LossyRun} {pv : CoreParts} {count : ℕ} (q : LossyRun) (ns : List NodeState) → V ≡ r → pv ≡ V.parts
    → count ≡ V.parts.layout.nodes → q.parts ≡ record pv { nodes = ns } → q.choices ≡ V.choices → IsReady r
    → length ns ≡ count → AreLinks q.links.items count → SameWorks pv.nodes ns → IsReady q
event_ready {V} {r} {pv} {count} q ns view parts is qp qc ready len links works =
    let p : pv ≡ r.parts = parts ∙ ap (λ (x : LossyRun). x.parts) view in
    let n : count ≡ r.parts.layout.nodes = is ∙ ap (λ (x : LossyRun). x.parts.layout.nodes) view in
    let same : q.parts ≡ record r.parts { nodes = ns } = qp ∙ ap (λ (z : CoreParts). record z { nodes = ns }) p in
    let shape : q.parts.layout.nodes ≡ r.parts.layout.nodes = ap (λ (z : CoreParts). z.layout.nodes) same in
    let room : vec_capacity q.choices ≡ vec_capacity r.choices =
    ap vec_capacity (qc ∙ ap (λ (x : LossyRun). x.choices) view) in
    let are = parts_kept r.parts ns r.parts.lists ready.parts (len ∙ n) ready.parts.lists
    (subst (λ (z : CoreParts). SameWorks z.nodes ns) p works) in
    record {
      parts = subst AreParts (sym same) are;
      empty = subst (λ (z : CoreParts). (j i : ℕ) → j < z.layout.nodes → i < z.layout.nodes
          → (core_of z).list j i ≡ []) (sym same) ready.empty;
      links = subst (λ k. AreLinks q.links.items k) (n ∙ sym shape) links;
      room = subst (λ k. k * (1 + k) ≤ vec_capacity q.choices) (sym shape)
          (subst (λ k. r.parts.layout.nodes * (1 + r.parts.layout.nodes) ≤ k) (sym room) ready.room);
    }

pub event_turned : {V r : LossyRun} (q : LossyRun) (number : ℕ) → V ≡ r → number % 4 ≢ 0
    → choices (work_of r.parts) (state_in (work_of r.parts) r) ≢ []
    → HasPicked (work_of V.parts) (state_in (work_of V.parts) V) (state_in (work_of V.parts) q)
    → HasTurned (work_of r.parts) number (state_in (work_of r.parts) r) (state_in (work_of r.parts) q)
event_turned {V} {r} q number view fourth some picked =
    let work = work_of r.parts in
    let h = subst (λ (x : LossyRun). HasPicked (work_of x.parts) (state_in (work_of x.parts) x)
    (state_in (work_of x.parts) q)) view picked in
    record {
      turn = Ordinary h.event;
      is = (
        λ its. ⊎_elim (λ (e : number % 4 ≡ 0). fourth e)
            (λ (e : choices work (state_in work r) ≡ []). some e) its,
        h.picked,
        h.made,
        h.order,
        h.losses,
      );
    }
