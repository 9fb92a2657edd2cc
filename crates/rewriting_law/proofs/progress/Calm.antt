-- Behind a node's Bye no other Bye comes from it, and no message for a home: so where all nodes are
-- over, no message is left.
use Rattle.std.proofs.Common.{◌≡◌, ℕ, zero, suc, ◌<◌, ◌≤◌, cond, eqb, Bool, true, false, List, [], ◌∷◌, ◌++◌, refl, sym, ap, ◌∙◌, subst, inl, inr, arith, append-nil}
use Rattle.std.specs.Prelude.{◌||◌, ◌&&◌, not}
use Rattle.std.proofs.lemmas.Bool.Decides.{eqb_tells}
use Rattle.rewriting_law.proofs.Names.{Message, Done, Bye, Post, Wire, post, is_bye, NoneIs, is_for_home, is_done, AreSettled, Turn, byes_to, is_ended, Core, wires_to, with_turn, messages_of}
use Rattle.rewriting_law.proofs.templates.RegisterLemmas.{apart}
use Rattle.rewriting_law.proofs.one_memory.Sharing.{is_same}
use Rattle.rewriting_law.proofs.progress.Farewells.{has_bye, Parts, Farewells}

-- neither a Bye nor a message for a home stands behind a Bye, which is taken already or in the list
abbrev pub is_calm : Bool → List Wire → Bool
is_calm taken [] = true
is_calm taken (w ∷ ws) =
    cond (is_bye w.message) (not taken && is_calm true ws)
    (not (taken && is_for_home w.message) && is_calm taken ws)

left_of : (a b : Bool) → (a && b) ≡ true → a ≡ true
left_of true b e = refl
left_of false b e = let bad : false ≡ true = e in cc

right_of : (a b : Bool) → (a && b) ≡ true → b ≡ true
right_of true b e = e
right_of false b e = let bad : false ≡ true = e in cc

both_of : (a b : Bool) → a ≡ true → b ≡ true → (a && b) ≡ true
both_of true b e f = f
both_of false b e f = let bad : false ≡ true = e in cc

neither_of : (a b : Bool) → (a || b) ≡ false → (a ≡ false) × (b ≡ false)
neither_of true b e = let bad : true ≡ false = e in cc
neither_of false b e = (refl, e)

-- where no Bye was said
calm_fresh : (ws xs : List Wire) → has_bye ws ≡ false → is_calm false (ws ++ xs) ≡ is_calm false xs
calm_fresh [] xs e = refl
calm_fresh (w ∷ ws) xs e =
    let none = neither_of (is_bye w.message) (has_bye ws) e in
    ap (λ z. cond z (is_calm true (ws ++ xs)) (is_calm false (ws ++ xs))) none.0
    ∙ calm_fresh ws xs none.1

-- neither Byes nor messages for homes
abbrev pub Neither : List Wire → Type 0
Neither [] = Unit {0}
Neither (w ∷ ws) = (is_bye w.message ≡ false) × (is_for_home w.message ≡ false) × Neither ws

never : (b : Bool) → not (b && false) ≡ true
never true = refl
never false = refl

calm_neither : (taken : Bool) (xs : List Wire) → Neither xs → is_calm taken xs ≡ true
calm_neither taken [] h = refl
calm_neither taken (x ∷ xs) h =
    ap (λ z. cond z (not taken && is_calm true xs)
    (not (taken && is_for_home x.message) && is_calm taken xs)) h.0
    ∙ ap (λ z. not (taken && z) && is_calm taken xs) h.1
    ∙ both_of (not (taken && false)) (is_calm taken xs) (never taken) (calm_neither taken xs h.2)

calm_behind : (taken : Bool) (ws xs : List Wire) → is_calm taken ws ≡ true → Neither xs
    → is_calm taken (ws ++ xs) ≡ true
calm_behind taken [] xs e h = calm_neither taken xs h
calm_behind taken (w ∷ ws) xs e h = (elim (is_bye w.message)
    as (λ z. cond z (not taken && is_calm true ws)
    (not (taken && is_for_home w.message) && is_calm taken ws) ≡ true
    → cond z (not taken && is_calm true (ws ++ xs))
    (not (taken && is_for_home w.message) && is_calm taken (ws ++ xs)) ≡ true) [
      | true ↦ (λ f. both_of (not taken) (is_calm true (ws ++ xs))
          (left_of (not taken) (is_calm true ws) f)
          (calm_behind true ws xs (right_of (not taken) (is_calm true ws) f) h))
      | false ↦ (λ f. both_of (not (taken && is_for_home w.message)) (is_calm taken (ws ++ xs))
          (left_of (not (taken && is_for_home w.message)) (is_calm taken ws) f)
          (calm_behind taken ws xs
          (right_of (not (taken && is_for_home w.message)) (is_calm taken ws) f) h))
    ]) e

-- what is sent
pub sent_neither : (stamp k : ℕ) (ps : List Post) → NoneIs is_bye ps → NoneIs is_for_home ps
    → Neither (wires_to stamp k ps)
sent_neither stamp k [] h g = tt
sent_neither stamp k (p ∷ ps) h g = (elim (eqb p.to k)
    as (λ t. Neither (cond t
    (record { stamp = stamp; message = p.message } ∷ wires_to stamp k ps) (wires_to stamp k ps))) [
      | true ↦ (h.0, g.0, sent_neither stamp k ps h.1 g.1)
      | false ↦ sent_neither stamp k ps h.1 g.1
    ])

sent_plainly : (stamp k : ℕ) (ps more : List Post) → NoneIs is_bye ps
    → is_calm false (wires_to stamp k (ps ++ more)) ≡ is_calm false (wires_to stamp k more)
sent_plainly stamp k [] more h = refl
sent_plainly stamp k (p ∷ ps) more h = (elim (eqb p.to k)
    as (λ t. is_calm false (cond t
    (record { stamp = stamp; message = p.message } ∷ wires_to stamp k (ps ++ more))
    (wires_to stamp k (ps ++ more))) ≡ is_calm false (wires_to stamp k more)) [
      | true ↦ ap (λ z. cond z (is_calm true (wires_to stamp k (ps ++ more)))
          (is_calm false (wires_to stamp k (ps ++ more)))) h.0 ∙ sent_plainly stamp k ps more h.1
      | false ↦ sent_plainly stamp k ps more h.1
    ])

wires_append : (stamp k : ℕ) (ps qs : List Post)
    → wires_to stamp k (ps ++ qs) ≡ wires_to stamp k ps ++ wires_to stamp k qs
wires_append stamp k [] qs = refl
wires_append stamp k (p ∷ ps) qs = (elim (eqb p.to k)
    as (λ t. cond t
    (record { stamp = stamp; message = p.message } ∷ wires_to stamp k (ps ++ qs))
    (wires_to stamp k (ps ++ qs))
    ≡ cond t (record { stamp = stamp; message = p.message } ∷ wires_to stamp k ps)
    (wires_to stamp k ps) ++ wires_to stamp k qs) [
      | true ↦ ap (λ ws. record { stamp = stamp; message = p.message } ∷ ws)
          (wires_append stamp k ps qs)
      | false ↦ wires_append stamp k ps qs
    ])

-- one Bye for each node
none_yet : (stamp k n : ℕ) → n ≤ k → wires_to stamp k (byes_to n) ≡ []
none_yet stamp k zero low = refl
none_yet stamp k (suc n) low =
    let other : eqb n k ≡ false = apart n k (λ e. omega (arith, low, e)) in
    wires_append stamp k (byes_to n) (post n Bye ∷ [])
    ∙ ap (λ ws. ws ++ wires_to stamp k (post n Bye ∷ [])) (none_yet stamp k n (omega (arith, low)))
    ∙ ap (λ t. cond t (record { stamp = stamp; message = Bye } ∷ []) []) other

byes_calm : (stamp k n : ℕ) → is_calm false (wires_to stamp k (byes_to n)) ≡ true
byes_calm stamp k zero = refl
byes_calm stamp k (suc n) = elim (eqb_tells n k) [
  | inl e ↦ (
      let same = e.1 in
      ap (is_calm false) (wires_append stamp k (byes_to n) (post n Bye ∷ [])
      ∙ ap (λ ws. ws ++ wires_to stamp k (post n Bye ∷ []))
      (none_yet stamp k n (omega (arith, same)))
      ∙ ap (λ t. cond t (record { stamp = stamp; message = Bye } ∷ []) []) e.0))
  | inr e ↦
      ap (is_calm false) (wires_append stamp k (byes_to n) (post n Bye ∷ [])
      ∙ ap (λ t. wires_to stamp k (byes_to n)
      ++ cond t (record { stamp = stamp; message = Bye } ∷ []) []) e.0
      ∙ append-nil (wires_to stamp k (byes_to n))) ∙ byes_calm stamp k n
]

pub sends_calm : (stamp k n : ℕ) (ps : List Post) → NoneIs is_bye ps
    → is_calm false (wires_to stamp k (ps ++ byes_to n)) ≡ true
sends_calm stamp k n ps h = sent_plainly stamp k ps (byes_to n) h ∙ byes_calm stamp k n

pub plainly_calm : (stamp k : ℕ) (ps : List Post) → NoneIs is_bye ps
    → is_calm false (wires_to stamp k ps) ≡ true
plainly_calm stamp k ps h =
    ap (λ qs. is_calm false (wires_to stamp k qs)) (sym (append-nil ps))
    ∙ sent_plainly stamp k ps [] h

-- the first message is taken: a Bye, or another
pub calm_popped : (taken b : Bool) (w : Wire) (ws : List Wire) → is_bye w.message ≡ b
    → is_calm taken (w ∷ ws) ≡ true → is_calm (b || taken) ws ≡ true
calm_popped taken true w ws e h =
    right_of (not taken) (is_calm true ws) (sym (ap (λ z. cond z (not taken && is_calm true ws)
    (not (taken && is_for_home w.message) && is_calm taken ws)) e) ∙ h)
calm_popped taken false w ws e h =
    right_of (not (taken && is_for_home w.message)) (is_calm taken ws)
    (sym (ap (λ z. cond z (not taken && is_calm true ws)
    (not (taken && is_for_home w.message) && is_calm taken ws)) e) ∙ h)

-- a message behind a Bye that is no Done
one_left : (m : Message) (r q : Bool) → cond (is_bye m) (not true && r)
    (not (true && is_for_home m) && q) ≡ true → (is_done m || is_bye m) ≡ true → ⊥
one_left Bye r q e h = let bad : false ≡ true = e in cc
one_left (Done b) r q e h = let bad : false ≡ true = e in cc
one_left other r q e h = let bad : false ≡ true = h in cc

pub none_left : (ws : List Wire) → is_calm true ws ≡ true → AreSettled (messages_of ws) → ws ≡ []
none_left [] e h = refl
none_left (w ∷ ws) e h = absurd (one_left w.message (is_calm true ws) (is_calm true ws) e h.0)

pub record IsCalm (nodes : ℕ) (c : Core) : Type 0 where
  pub lists : (x y : ℕ) → x < nodes → y < nodes → is_calm ((c.nodes y).byes x) (c.list x y) ≡ true

-- a turn of node i
module _ (nodes : ℕ) (c : Core) (i : ℕ) (below : i < nodes) (list : ℕ → ℕ → List Wire) (t : Turn)
    (p : Parts nodes c i list t) (f : Farewells nodes c) where
  abbrev c' : Core
  c' = with_turn (record c { list = list }) i t

  -- what is sent where the node had ended before, and where it hadn't
  pub record Sends : Type 0 where
    pub popped : (x y : ℕ) → x < nodes → y < nodes → is_calm ((c'.nodes y).byes x) (list x y) ≡ true
    pub fresh : is_ended (c.nodes i).phase ≡ false → (y : ℕ) → y < nodes
        → is_calm false (wires_to t.node.stamp y t.sends) ≡ true
    pub late : is_ended (c.nodes i).phase ≡ true → (y : ℕ) → y < nodes
        → Neither (wires_to t.node.stamp y t.sends)

  no_bye_yet : is_ended (c.nodes i).phase ≡ false → (y : ℕ) → y < nodes
      → (has_bye (list i y) ≡ false) × ((c'.nodes y).byes i ≡ false)
  no_bye_yet e y low = (
    go (has_bye (list i y)) refl,
    taken (eqb y i) refl,
  )
    where
      go : (b : Bool) → has_bye (list i y) ≡ b → has_bye (list i y) ≡ false
      go false h = h
      go true h =
          let bad : false ≡ true = sym e ∙ f.ended i y below low (inr (p.fewer i y h)) in cc

      others : (b : Bool) → (c.nodes y).byes i ≡ b → (c.nodes y).byes i ≡ false
      others false h = h
      others true h =
          let bad : false ≡ true = sym e ∙ f.ended i y below low (inl h) in cc

      own : (b : Bool) → t.node.byes i ≡ b → t.node.byes i ≡ false
      own false h = h
      own true h =
          let bad : false ≡ true = sym e ∙ f.ended i i below below (p.noted i h) in cc

      taken : (b : Bool) → eqb y i ≡ b → (cond b t.node (c.nodes y)).byes i ≡ false
      taken true q = own (t.node.byes i) refl
      taken false q = others ((c.nodes y).byes i) refl

  pub calm_then : Sends → IsCalm nodes c'
  calm_then s = record {
    lists = λ x y lx ly. (elim (eqb x i) as (λ z. eqb x i ≡ z → is_calm ((c'.nodes y).byes x)
        (cond z (list x y ++ wires_to t.node.stamp y t.sends) (list x y)) ≡ true) [
          | true ↦ (λ q. subst (λ k. is_calm ((c'.nodes y).byes k)
              (list k y ++ wires_to t.node.stamp y t.sends) ≡ true) (sym (is_same x i q))
              (own y ly (is_ended (c.nodes i).phase) refl))
          | false ↦ (λ q. s.popped x y lx ly)
        ]) refl;
  }
    where
      own : (y : ℕ) → y < nodes → (b : Bool) → is_ended (c.nodes i).phase ≡ b
          → is_calm ((c'.nodes y).byes i) (list i y ++ wires_to t.node.stamp y t.sends) ≡ true
      own y low true e =
          calm_behind ((c'.nodes y).byes i) (list i y) (wires_to t.node.stamp y t.sends)
          (s.popped i y below low) (s.late e y low)
      own y low false e =
          let none = no_bye_yet e y low in
          ap (λ z. is_calm z (list i y ++ wires_to t.node.stamp y t.sends)) none.1
          ∙ calm_fresh (list i y) (wires_to t.node.stamp y t.sends) none.0 ∙ s.fresh e y low
