-- Byes: who has said one has ended, and who has ended has said one to each node, which has taken it
-- or finds it in its list.
use Rattle.std.proofs.Common.{◌≡◌, ℕ, zero, suc, ◌<◌, ◌⊎◌, cond, eqb, Bool, true, false, List, [], ◌∷◌, ◌++◌, refl, sym, ap, ◌∙◌, subst, inl, inr, arith}
use Rattle.std.specs.Prelude.{◌||◌}
use Rattle.std.proofs.lemmas.Bool.Decides.{eqb_tells, nat_tests}
use Rattle.rewriting_law.proofs.Names.{Bye, Post, Wire, post, is_bye, NoneIs, Turn, byes_to, is_ended, Core, wires_to, with_turn}
use Rattle.rewriting_law.proofs.templates.RegisterLemmas.{equal}
use Rattle.rewriting_law.proofs.one_memory.Sharing.{is_same}

-- 1. Byes in lists

abbrev pub has_bye : List Wire → Bool
has_bye [] = false
has_bye (w ∷ ws) = is_bye w.message || has_bye ws

pub left_or_right : (a b : Bool) → (a || b) ≡ true → (a ≡ true) ⊎ (b ≡ true)
left_or_right true b e = inl refl
left_or_right false b e = inr e

pub from_left : (a b : Bool) → a ≡ true → (a || b) ≡ true
from_left true b e = refl
from_left false b e = let bad : false ≡ true = e in cc

pub from_right : (a b : Bool) → b ≡ true → (a || b) ≡ true
from_right true b e = refl
from_right false b e = e

either_list : (ws xs : List Wire) → has_bye (ws ++ xs) ≡ true
    → (has_bye ws ≡ true) ⊎ (has_bye xs ≡ true)
either_list [] xs e = inr e
either_list (w ∷ ws) xs e = elim (left_or_right (is_bye w.message) (has_bye (ws ++ xs)) e) [
  | inl f ↦ inl (from_left (is_bye w.message) (has_bye ws) f)
  | inr f ↦ (elim (either_list ws xs f) [
    | inl g ↦ inl (from_right (is_bye w.message) (has_bye ws) g)
    | inr g ↦ inr g
  ])
]

pub in_front : (ws xs : List Wire) → has_bye ws ≡ true → has_bye (ws ++ xs) ≡ true
in_front [] xs e = let bad : false ≡ true = e in cc
in_front (w ∷ ws) xs e = elim (left_or_right (is_bye w.message) (has_bye ws) e) [
  | inl f ↦ from_left (is_bye w.message) (has_bye (ws ++ xs)) f
  | inr f ↦ from_right (is_bye w.message) (has_bye (ws ++ xs)) (in_front ws xs f)
]

pub behind : (ws xs : List Wire) → has_bye xs ≡ true → has_bye (ws ++ xs) ≡ true
behind [] xs e = e
behind (w ∷ ws) xs e = from_right (is_bye w.message) (has_bye (ws ++ xs)) (behind ws xs e)

-- what is sent
pub no_bye_sent : (stamp k : ℕ) (ps : List Post) → NoneIs is_bye ps
    → has_bye (wires_to stamp k ps) ≡ false
no_bye_sent stamp k [] h = refl
no_bye_sent stamp k (p ∷ ps) h = (elim (eqb p.to k)
    as (λ t. has_bye (cond t
    (record { stamp = stamp; message = p.message } ∷ wires_to stamp k ps) (wires_to stamp k ps))
    ≡ false) [
      | true ↦ ap (λ z. z || has_bye (wires_to stamp k ps)) h.0 ∙ no_bye_sent stamp k ps h.1
      | false ↦ no_bye_sent stamp k ps h.1
    ])

bye_last : (stamp k : ℕ) (ps : List Post)
    → has_bye (wires_to stamp k (ps ++ post k Bye ∷ [])) ≡ true
bye_last stamp k [] = ap (λ t. has_bye (cond t (record { stamp = stamp; message = Bye } ∷ []) []))
    (equal k k refl)
bye_last stamp k (p ∷ ps) = (elim (eqb p.to k)
    as (λ t. has_bye (cond t
    (record { stamp = stamp; message = p.message } ∷ wires_to stamp k (ps ++ post k Bye ∷ []))
    (wires_to stamp k (ps ++ post k Bye ∷ []))) ≡ true) [
      | true ↦ from_right (is_bye p.message)
          (has_bye (wires_to stamp k (ps ++ post k Bye ∷ []))) (bye_last stamp k ps)
      | false ↦ bye_last stamp k ps
    ])

bye_before : (stamp k : ℕ) (ps more : List Post) → has_bye (wires_to stamp k ps) ≡ true
    → has_bye (wires_to stamp k (ps ++ more)) ≡ true
bye_before stamp k [] more e = let bad : false ≡ true = e in cc
bye_before stamp k (p ∷ ps) more e = (elim (eqb p.to k)
    as (λ t. has_bye (cond t
    (record { stamp = stamp; message = p.message } ∷ wires_to stamp k ps) (wires_to stamp k ps))
    ≡ true → has_bye (cond t
    (record { stamp = stamp; message = p.message } ∷ wires_to stamp k (ps ++ more))
    (wires_to stamp k (ps ++ more))) ≡ true) [
      | true ↦ (λ f. elim (left_or_right (is_bye p.message) (has_bye (wires_to stamp k ps)) f) [
        | inl g ↦ from_left (is_bye p.message) (has_bye (wires_to stamp k (ps ++ more))) g
        | inr g ↦ from_right (is_bye p.message) (has_bye (wires_to stamp k (ps ++ more)))
            (bye_before stamp k ps more g)
      ])
      | false ↦ (λ f. bye_before stamp k ps more f)
    ]) e

pub bye_after : (stamp k : ℕ) (ps more : List Post) → has_bye (wires_to stamp k more) ≡ true
    → has_bye (wires_to stamp k (ps ++ more)) ≡ true
bye_after stamp k [] more e = e
bye_after stamp k (p ∷ ps) more e = (elim (eqb p.to k)
    as (λ t. has_bye (cond t
    (record { stamp = stamp; message = p.message } ∷ wires_to stamp k (ps ++ more))
    (wires_to stamp k (ps ++ more))) ≡ true) [
      | true ↦ from_right (is_bye p.message) (has_bye (wires_to stamp k (ps ++ more)))
          (bye_after stamp k ps more e)
      | false ↦ bye_after stamp k ps more e
    ])

-- a Bye for each node
pub bye_to : (stamp k n : ℕ) → k < n → has_bye (wires_to stamp k (byes_to n)) ≡ true
bye_to stamp k zero low = absurd (omega (arith, low))
bye_to stamp k (suc n) low = elim (eqb_tells k n) [
  | inl e ↦ subst (λ z. has_bye (wires_to stamp k (byes_to n ++ post z Bye ∷ [])) ≡ true) e.1
      (bye_last stamp k (byes_to n))
  | inr e ↦ (
      let apart = e.1 in
      let below : k < n = grind (arith, nat_tests) in
      bye_before stamp k (byes_to n) (post n Bye ∷ []) (bye_to stamp k n below))
]

-- 2. A turn

-- node n becomes another, and sends this, where the lists were these and are now without the
-- message that it took
pub record Parts (nodes : ℕ) (c : Core) (i : ℕ) (list : ℕ → ℕ → List Wire) (t : Turn) : Type 0
  where
    pub fewer : (x y : ℕ) → has_bye (list x y) ≡ true → has_bye (c.list x y) ≡ true
    pub kept : (x : ℕ) → (c.nodes i).byes x ≡ true → t.node.byes x ≡ true
    pub noted : (x : ℕ) → t.node.byes x ≡ true
        → ((c.nodes i).byes x ≡ true) ⊎ (has_bye (c.list x i) ≡ true)
    pub taken : (x y : ℕ) → has_bye (c.list x y) ≡ true
        → (has_bye (list x y) ≡ true) ⊎ ((y ≡ i) × (t.node.byes x ≡ true))
    pub stays : is_ended (c.nodes i).phase ≡ true → is_ended t.node.phase ≡ true
    pub says : (y : ℕ) → has_bye (wires_to t.node.stamp y t.sends) ≡ true
        → is_ended t.node.phase ≡ true
    pub ends : is_ended t.node.phase ≡ true → (is_ended (c.nodes i).phase ≡ true)
        ⊎ ((y : ℕ) → y < nodes → has_bye (wires_to t.node.stamp y t.sends) ≡ true)

pub record Farewells (nodes : ℕ) (c : Core) : Type 0 where
  -- whose Bye was taken, or is in a list, has ended
  pub ended : (x y : ℕ) → x < nodes → y < nodes
      → ((c.nodes y).byes x ≡ true) ⊎ (has_bye (c.list x y) ≡ true)
      → is_ended (c.nodes x).phase ≡ true
  -- who has ended has said so
  pub told : (x y : ℕ) → x < nodes → y < nodes → is_ended (c.nodes x).phase ≡ true
      → ((c.nodes y).byes x ≡ true) ⊎ (has_bye (c.list x y) ≡ true)

module _ (nodes : ℕ) (c : Core) (i : ℕ) (list : ℕ → ℕ → List Wire) (t : Turn)
    (p : Parts nodes c i list t) (f : Farewells nodes c) where
  abbrev c' : Core
  c' = with_turn (record c { list = list }) i t

  -- a list then has a Bye that it had, or node i has ended
  had_or_said : (x y : ℕ) → has_bye (c'.list x y) ≡ true
      → (has_bye (c.list x y) ≡ true) ⊎ ((x ≡ i) × (is_ended t.node.phase ≡ true))
  had_or_said x y e = (elim (eqb x i) as (λ z. eqb x i ≡ z
      → has_bye (cond z (list x y ++ wires_to t.node.stamp y t.sends) (list x y)) ≡ true
      → (has_bye (c.list x y) ≡ true) ⊎ ((x ≡ i) × (is_ended t.node.phase ≡ true))) [
        | true ↦ (λ u g. elim (either_list (list x y) (wires_to t.node.stamp y t.sends) g) [
          | inl h ↦ inl (p.fewer x y h)
          | inr h ↦ inr (is_same x i u, p.says y h)
        ])
        | false ↦ (λ u g. inl (p.fewer x y g))
      ]) refl e

  taken_or_had : (x y : ℕ) → (c'.nodes y).byes x ≡ true
      → ((c.nodes y).byes x ≡ true) ⊎ (has_bye (c.list x y) ≡ true)
  taken_or_had x y e = (elim (eqb y i) as (λ z. eqb y i ≡ z
      → (cond z t.node (c.nodes y)).byes x ≡ true
      → ((c.nodes y).byes x ≡ true) ⊎ (has_bye (c.list x y) ≡ true)) [
        | true ↦ (λ u g. subst (λ k. ((c.nodes k).byes x ≡ true) ⊎ (has_bye (c.list x k) ≡ true))
            (sym (is_same y i u)) (p.noted x g))
        | false ↦ (λ u g. inl g)
      ]) refl e

  still_ended : (x : ℕ) → is_ended (c.nodes x).phase ≡ true → is_ended (c'.nodes x).phase ≡ true
  still_ended x e = (elim (eqb x i) as (λ z. eqb x i ≡ z
      → is_ended (cond z t.node (c.nodes x)).phase ≡ true) [
        | true ↦ (λ u. p.stays (ap (λ k. is_ended (c.nodes k).phase) (sym (is_same x i u)) ∙ e))
        | false ↦ (λ u. e)
      ]) refl

  ended_there : (x : ℕ) → x ≡ i → is_ended t.node.phase ≡ true → is_ended (c'.nodes x).phase ≡ true
  ended_there x is e = ap (λ z. is_ended (cond z t.node (c.nodes x)).phase) (equal x i is) ∙ e

  abbrev HasTold : (x y : ℕ) → Type 0
  HasTold x y = ((c'.nodes y).byes x ≡ true) ⊎ (has_bye (c'.list x y) ≡ true)

  -- a list has what it had, but for the message that was taken
  listed : (x y : ℕ) → has_bye (list x y) ≡ true → has_bye (c'.list x y) ≡ true
  listed x y e = (elim (eqb x i)
      as (λ z. has_bye (cond z (list x y ++ wires_to t.node.stamp y t.sends) (list x y)) ≡ true) [
        | true ↦ in_front (list x y) (wires_to t.node.stamp y t.sends) e
        | false ↦ e
      ])

  byes_there : (x y : ℕ) → y ≡ i → t.node.byes x ≡ true → (c'.nodes y).byes x ≡ true
  byes_there x y is e = ap (λ z. (cond z t.node (c.nodes y)).byes x) (equal y i is) ∙ e

  still_told : (x y : ℕ) → ((c.nodes y).byes x ≡ true) ⊎ (has_bye (c.list x y) ≡ true) → HasTold x y
  still_told x y (inl e) = inl ((elim (eqb y i) as (λ z. eqb y i ≡ z
      → (cond z t.node (c.nodes y)).byes x ≡ true) [
        | true ↦ (λ u. p.kept x (ap (λ k. (c.nodes k).byes x) (sym (is_same y i u)) ∙ e))
        | false ↦ (λ u. e)
      ]) refl)
  still_told x y (inr e) = elim (p.taken x y e) [
    | inl g ↦ inr (listed x y g)
    | inr g ↦ inl (byes_there x y g.0 g.1)
  ]

  told_there : (x y : ℕ) → y < nodes → x ≡ i
      → ((y : ℕ) → y < nodes → has_bye (wires_to t.node.stamp y t.sends) ≡ true) → HasTold x y
  told_there x y low is h =
      inr (ap (λ z. has_bye (cond z (list x y ++ wires_to t.node.stamp y t.sends) (list x y)))
      (equal x i is) ∙ behind (list x y) (wires_to t.node.stamp y t.sends) (h y low))

  told_then : (x y : ℕ) → x < nodes → y < nodes → (z : Bool) → eqb x i ≡ z
      → is_ended (cond z t.node (c.nodes x)).phase ≡ true → HasTold x y
  told_then x y lx ly false u e = still_told x y (f.told x y lx ly e)
  told_then x y lx ly true u e = elim (p.ends e) [
    | inl g ↦ still_told x y (f.told x y lx ly
        (ap (λ k. is_ended (c.nodes k).phase) (is_same x i u) ∙ g))
    | inr g ↦ told_there x y ly (is_same x i u) g
  ]

  pub farewells_then : Farewells nodes c'
  farewells_then = record {
    ended = λ x y lx ly h. elim h [
      | inl e ↦ still_ended x (f.ended x y lx ly (taken_or_had x y e))
      | inr e ↦ (elim (had_or_said x y e) [
        | inl g ↦ still_ended x (f.ended x y lx ly (inr g))
        | inr g ↦ ended_there x g.0 g.1
      ])
    ];
    told = λ x y lx ly e. told_then x y lx ly (eqb x i) refl e;
  }
