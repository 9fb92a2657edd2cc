-- Stamps are at most the number of events.
use Rattle.std.proofs.Common.{ℕ, ◌+◌, ◌<◌, ◌≤◌, Bool, true, false, cond, eqb, ltb, ◌&&◌, List, [], ◌∷◌, ◌++◌, length, All, sym, subst, arith}
use Rattle.std.proofs.lemmas.List.Elements.{All-nil, All-cons}
use Rattle.node_model.specs.dsm_messages.declared.messages.Post.{Post}
use Rattle.node_model.specs.dsm_messages.declared.messages.Wire.{Wire}
use Rattle.node_model.specs.Node.{Work}
use Rattle.node_model.specs.Turns.{Turn, word_turn, later, take_turn}
use Rattle.node_model.specs.Core.{Core, Event, Exec, Take, May, opening_core, wires_to, with_turn, with_list, take_first, event_step, IsCoreRun, after}
use Rattle.run_order.proofs.Moving.{word_stamp, take_stamp}

abbrev AllUpTo : ℕ → List Wire → Type 0
AllUpTo m [] = Unit {0}
AllUpTo m (w ∷ ws) = (w.stamp ≤ m) × AllUpTo m ws

pub all_up : (m : ℕ) (ws : List Wire) → AllUpTo m ws → All (λ w. w.stamp ≤ m) ws
all_up m [] h = All-nil (λ w. w.stamp ≤ m)
all_up m (w ∷ ws) h = All-cons (λ w. w.stamp ≤ m) w ws h.0 (all_up m ws h.1)

up_more : (m k : ℕ) (ws : List Wire) → m ≤ k → AllUpTo m ws → AllUpTo k ws
up_more m k [] le h = tt
up_more m k (w ∷ ws) le h = (let a = h.0 in omega arith, up_more m k ws le h.1)

up_append : (m : ℕ) (ws vs : List Wire) → AllUpTo m ws → AllUpTo m vs → AllUpTo m (ws ++ vs)
up_append m [] vs h g = g
up_append m (w ∷ ws) vs h g = (h.0, up_append m ws vs h.1 g)

up_sent : (m stamp k : ℕ) (ps : List Post) → stamp ≤ m → AllUpTo m (wires_to stamp k ps)
up_sent m stamp k [] le = tt
up_sent m stamp k (p ∷ ps) le = (elim (eqb p.to k) as (λ t. AllUpTo m (cond t
    (record { stamp = stamp; message = p.message } ∷ wires_to stamp k ps) (wires_to stamp k ps))) [
      | true ↦ (le, up_sent m stamp k ps le)
      | false ↦ up_sent m stamp k ps le
    ])

pub record AreUpTo (work : Work) (m : ℕ) (c : Core) : Type 0 where
  pub nodes : (i : ℕ) → i < work.layout.nodes → (c.nodes i).stamp ≤ m
  pub lists : (j i : ℕ) → j < work.layout.nodes → i < work.layout.nodes → AllUpTo m (c.list j i)

turn_up : (work : Work) (m i : ℕ) (c : Core) (t : Turn) → t.node.stamp ≤ m + 1 → AreUpTo work m c
    → AreUpTo work (m + 1) (with_turn c i t)
turn_up work m i c t le u = record {
  nodes = λ k bk. elim (eqb k i) as (λ (z : Bool). (cond z t.node (c.nodes k)).stamp ≤ m + 1) [
    | true ↦ le
    | false ↦ (let a = u.nodes k bk in omega arith)
  ];
  lists = λ j k bj bk.
      let old : AllUpTo (m + 1) (c.list j k) =
      up_more m (m + 1) (c.list j k) (omega arith) (u.lists j k bj bk) in
      elim (eqb j i) as (λ z. AllUpTo (m + 1)
      (cond z (c.list j k ++ wires_to t.node.stamp k t.sends) (c.list j k))) [
        | true ↦ up_append (m + 1) (c.list j k) (wires_to t.node.stamp k t.sends) old
            (up_sent (m + 1) t.node.stamp k t.sends le)
        | false ↦ old
      ];
}

list_up : (work : Work) (m j i : ℕ) (c : Core) (rest : List Wire) → AllUpTo m rest
    → AreUpTo work m c → AreUpTo work m (with_list c j i rest)
list_up work m j i c rest h u = record {
  nodes = u.nodes;
  lists = λ x y bx by.
      elim (eqb x j && eqb y i) as (λ z. AllUpTo m (cond z rest (c.list x y))) [
        | true ↦ h
        | false ↦ u.lists x y bx by
      ];
}

later_up : (m s t : ℕ) → s ≤ m → t ≤ m → later s t + 1 ≤ m + 1
later_up m s t a b = elim (ltb s t) as (λ z. cond z t s + 1 ≤ m + 1)
    [ true ↦ omega arith | false ↦ omega arith ]

first_up : (work : Work) (m i j : ℕ) (c : Core) (ws : List Wire) → i < work.layout.nodes
    → AllUpTo m ws → AreUpTo work m c → AreUpTo work (m + 1) (take_first work c i j ws)
first_up work m i j c [] bi h u = record {
  nodes = λ k bk. (let a = u.nodes k bk in omega arith);
  lists = λ x y bx by. up_more m (m + 1) (c.list x y) (omega arith) (u.lists x y bx by);
}
first_up work m i j c (w ∷ rest) bi h u =
    turn_up work m i (with_list c j i rest) (take_turn work (c.nodes i) j w)
    (subst (λ z. z ≤ m + 1) (sym (take_stamp work (c.nodes i) j w))
    (later_up m (c.nodes i).stamp w.stamp (u.nodes i bi) h.0))
    (list_up work m j i c rest h.1 u)

event_up : (work : Work) (m : ℕ) (c : Core) (e : Event) → May work c e → AreUpTo work m c
    → AreUpTo work (m + 1) (event_step work c e)
event_up work m c (Exec i) may u =
    turn_up work m i c (word_turn work (c.nodes i))
    (subst (λ z. z ≤ m + 1) (sym (word_stamp work (c.nodes i)))
    (let a = u.nodes i may.0 in omega arith)) u
event_up work m c (Take i j) may u =
    first_up work m i j c (c.list j i) may.0 (u.lists j i may.1 may.0) u

run_up : (work : Work) (m : ℕ) (c : Core) (es : List Event) → IsCoreRun work c es
    → AreUpTo work m c → AreUpTo work (m + length es) (after work c es)
run_up work m c [] run u = subst (λ z. AreUpTo work z c) (omega arith) u
run_up work m c (e ∷ es) run u =
    subst (λ z. AreUpTo work z (after work (event_step work c e) es)) (omega arith)
    (run_up work (m + 1) (event_step work c e) es run.1 (event_up work m c e run.0 u))

pub opening_up : (work : Work) (es : List Event) → IsCoreRun work (opening_core work) es
    → AreUpTo work (length es) (after work (opening_core work) es)
opening_up work es run =
    subst (λ m. AreUpTo work m (after work (opening_core work) es)) (omega arith)
    (run_up work 0 (opening_core work) es run
    (record { nodes = λ i bi. omega arith; lists = λ j i bj bi. tt }))
