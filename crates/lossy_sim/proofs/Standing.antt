-- Nodes and links stand for a core, turn by turn.
use Rattle.std.proofs.Common.{◌≡◌, ◌≢◌, ℕ, zero, suc, ◌+◌, ◌*◌, ◌<◌, ◌==◌, Bool, true, false, cond, Option, Some, None, List, [], ◌∷◌, ◌++◌, slice_get, refl, ap, sym, ◌∙◌, subst, ⊎_elim, eq-eqb, ne_eqb}
use Rattle.std.specs.Prelude.{if◌then◌else◌, is_some, filter}
use Rattle.std.proofs.lemmas.Bool.{cases_eq}
use Rattle.random_order.specs.Orders.{following}
use Rattle.dsm_messages.specs.declared.messages.Wire.{Wire}
use Rattle.lossy_link.specs.Receiver.{Receiving, Delivers, held}
use Rattle.node_model.specs.Node.{Work, Node, standing_of}
use Rattle.node_model.specs.Turns as turns
use Rattle.node_model.specs.Turns.{word_turn, take_turn}
use Rattle.node_model.specs.Core.{Core, Event, Exec, Take, May, IsCoreRun, may_execute, may_take, wires_to, with_turn, with_list, take_first, event_step, after, opening_core}
use Rattle.shared_sim.specs.ByOrder.{all_events, pick_among}
use Rattle.shared_sim.proofs.Choices.{IsBelow, AllBelow, all_below, both_true}
use Rattle.lossy_sim.specs.Links.{LossyLink, with_offered}
use Rattle.lossy_sim.specs.UnderWay.{Carries, StandFor}
use Rattle.lossy_sim.specs.WithLoss.{State, Turn, Ordinary, Network, HasMade, HasEvent, HaveNetworkTurns, FollowsLoss, opening_state, ordinary, is_allowed, has_next, choices, with_receiver}
use Rattle.lossy_sim.proofs.UnderWay.{new_carries, offered_carries, delivered_carries, network_carries}

abbrev pub Stands : ℕ → State → Core → Type 0
Stands n s c = StandFor n s.nodes s.links c

-- 1. Events

offered_if : (b : Bool) (l : LossyLink) (before wires : List Wire) → Carries l before
    → Carries (if b then with_offered l wires else l) (if b then before ++ wires else before)
offered_if true l before wires c = offered_carries l before wires c
offered_if false l before wires c = c

-- a node has made a turn
made_stands : (n i : ℕ) (t : turns.Turn) (s last : State) (c : Core) → Stands n s c
    → HasMade n i t s last → Stands n last (with_turn c i t)
made_stands n i t s last c h m = record {
  nodes = λ k lt. m.nodes k lt ∙ ap (λ (x : Node). if k == i then t.node else x) (h.nodes k lt);
  lists = λ j k jn kn. subst
      (λ l. Carries l
      (if j == i then c.list j k ++ wires_to t.node.stamp k t.sends else c.list j k))
      (sym (m.links j k jn kn))
      (offered_if (j == i) (s.links j k) (c.list j k) (wires_to t.node.stamp k t.sends)
      (h.lists j k jn kn));
}

exec_stands : (work : Work) (i : ℕ) (s last : State) (c : Core) → Stands work.layout.nodes s c
    → i < work.layout.nodes → HasEvent work (Exec i) s last
    → Stands work.layout.nodes last (event_step work c (Exec i))
exec_stands work i s last c h lt m =
    subst (λ x. Stands work.layout.nodes last (with_turn c i (word_turn work x))) (h.nodes i lt)
    (made_stands work.layout.nodes i (word_turn work (s.nodes i)) s last c h m)

-- the link from j to i has delivered the first of its list
received_stands : (n j i : ℕ) (s : State) (c : Core) (r : Receiving Wire) (rest : List Wire)
    → Stands n s c → Carries (record (s.links j i) { receiver = r }) rest
    → Stands n (with_receiver s j i r) (with_list c j i rest)
received_stands n j i s c r rest h d = record {
  nodes = h.nodes;
  lists = λ x y xn yn. ⊎_elim
      (λ (e : x ≡ j). ⊎_elim
      (λ (f : y ≡ i). rw (eq-eqb x j e, eq-eqb y i f)
      (subst (λ u. Carries (record (s.links u y) { receiver = r }) rest) (sym e)
      (subst (λ v. Carries (record (s.links j v) { receiver = r }) rest) (sym f) d)))
      (λ (f : y ≢ i). rw (eq-eqb x j e, ne_eqb y i f) (h.lists x y xn yn))
      (cases_eq y i))
      (λ (e : x ≢ j). rw (ne_eqb x j e) (h.lists x y xn yn))
      (cases_eq x j);
}

take_stands : (work : Work) (i j : ℕ) (s last : State) (c : Core) → Stands work.layout.nodes s c
    → i < work.layout.nodes → j < work.layout.nodes → HasEvent work (Take i j) s last
    → Stands work.layout.nodes last (event_step work c (Take i j))
take_stands work i j s last c h lt jt (wire, r, d, m) =
    let n = work.layout.nodes in
    let first = delivered_carries (s.links j i) (c.list j i) wire r (h.lists j i jt lt) d in
    let mid = received_stands n j i s c r first.0 h first.2 in
    let made : Stands n last
    (with_turn (with_list c j i first.0) i (take_turn work (s.nodes i) j wire)) =
    made_stands n i (take_turn work (s.nodes i) j wire) (with_receiver s j i r) last
    (with_list c j i first.0) mid m in
    subst (λ list. Stands n last (take_first work c i j list)) (sym first.1)
    (subst (λ x. Stands n last (with_turn (with_list c j i first.0) i (take_turn work x j wire)))
    (h.nodes i lt) made)

-- 2. An event that is chosen is allowed

pub one_chosen : (n : ℕ) (p : Event → Bool) (xs : List Event) (k : ℕ) (e : Event) → AllBelow n xs
    → slice_get (filter p xs) k ≡ Some e → IsBelow n e × (p e ≡ true)
one_chosen n p [] k e below here = absurd (cc)
one_chosen n p (x ∷ xs) k e below here =
    let Here : Bool → Type 0 = λ b. p x ≡ b → (j : ℕ)
    → slice_get (cond b (x ∷ filter p xs) (filter p xs)) j ≡ Some e → IsBelow n e × (p e ≡ true) in
    elim (p x) as Here [
      | true ↦ λ is j. elim j as (λ j. slice_get (x ∷ filter p xs) j ≡ Some e → IsBelow n e × (p e ≡ true)) [
        | zero ↦ λ g. let same : x ≡ e = cc in
            subst (λ y. IsBelow n y × (p y ≡ true)) same (below.0, is)
        | suc m ↦ λ g. one_chosen n p xs m e below.1 g
      ]
      | false ↦ λ is j g. one_chosen n p xs j e below.1 g
    ] refl k here

some_held : (r : Receiving Wire) → has_next r ≡ true
    → (wire : Wire) × (after : Receiving Wire) × Delivers r wire after
some_held r h =
    let P : Option Wire → Type 0 = λ o. held r r.next ≡ o → is_some o ≡ true
    → (wire : Wire) × (after : Receiving Wire) × Delivers r wire after in
    elim (held r r.next) as P [
      | None ↦ λ e is. absurd (cc)
      | Some wire ↦ λ e is. (wire, _, record { next_held = e; moves_on = refl })
    ] refl h

pub allowed_may : (work : Work) (s : State) (c : Core) (e : Event) → Stands work.layout.nodes s c
    → IsBelow work.layout.nodes e → is_allowed work s e ≡ true → May work c e
allowed_may work s c (Exec i) h low is =
    (low, ap (λ (x : Node). may_execute (standing_of work x)) (sym (h.nodes i low)) ∙ is)
allowed_may work s c (Take i j) h low is =
    let both = both_true (may_take (standing_of work (s.nodes i))) (has_next (s.links j i).receiver) is in
    let there = some_held (s.links j i).receiver both.1 in
    let first = delivered_carries (s.links j i) (c.list j i) there.0 there.1
    (h.lists j i low.1 low.0) there.2 in (
      low.0,
      low.1,
      ap (λ (x : Node). may_take (standing_of work x)) (sym (h.nodes i low.0)) ∙ both.0,
      λ none. let bad : [] ≡ there.0 ∷ first.0 = sym none ∙ first.1 in absurd (cc),
    )

pub picked_may : (work : Work) (s : State) (c : Core) (number : ℕ) (e : Event)
    → Stands work.layout.nodes s c → pick_among (choices work s) number ≡ Some e
    → IsBelow work.layout.nodes e × May work c e
picked_may work s c number e h here =
    let n = work.layout.nodes in
    let one = one_chosen n (is_allowed work s) (all_events n) _ e (all_below n) here in
    (one.0, allowed_may work s c e h one.0 one.1)

-- 3. Turns

pub event_stands : (work : Work) (e : Event) (s last : State) (c : Core)
    → Stands work.layout.nodes s c → IsBelow work.layout.nodes e → HasEvent work e s last
    → Stands work.layout.nodes last (event_step work c e)
event_stands work (Exec i) s last c h low m = exec_stands work i s last c h low m
event_stands work (Take i j) s last c h low m = take_stands work i j s last c h low.0 low.1 m

pub network_stands : (n : ℕ) (s last : State) (c : Core) → Stands n s c → HaveNetworkTurns n s last
    → Stands n last c
network_stands n s last c h m = record {
  nodes = λ i lt. m.nodes i lt ∙ h.nodes i lt;
  lists = λ j i jn lt. network_carries (s.links j i) (last.links j i) (c.list j i)
      (m.numbers (j * n + i)) (m.numbers (suc (j * n + i))) (h.lists j i jn lt) (m.turns j i jn lt);
}

pub opening_stands : (work : Work) (order loss : ℕ)
    → Stands work.layout.nodes (opening_state work order loss) (opening_core work)
opening_stands work order loss = record {
  nodes = λ i lt. refl;
  lists = λ j i jn lt. new_carries;
}

-- the events of turns that the rule gives are a core run, to a core for which the last state stands
pub turns_stand : (work : Work) (number : ℕ) (s : State) (ts : List Turn) (last : State) (c : Core)
    → Stands work.layout.nodes s c → FollowsLoss work number s ts last
    → IsCoreRun work c (ordinary ts) × Stands work.layout.nodes last (after work c (ordinary ts))
turns_stand work number s [] last c h e = (tt, subst (λ x. Stands work.layout.nodes x c) (sym e) h)
turns_stand work number s (Ordinary e ∷ ts) last c h (going, mid, (not_its, picked, event, o, l), more) =
    let may = picked_may work s c (following s.order) e h picked in
    let rest = turns_stand work (suc number) mid ts last (event_step work c e)
    (event_stands work e s mid c h may.0 event) more in
    ((may.1, rest.0), rest.1)
turns_stand work number s (Network ∷ ts) last c h (going, mid, (its, turned), more) =
    turns_stand work (suc number) mid ts last c
    (network_stands work.layout.nodes s mid c h turned) more
