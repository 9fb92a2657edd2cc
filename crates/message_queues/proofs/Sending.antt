-- Channels on which what a node sends is sent, one message after another.
use Rattle.std.proofs.Common.{◌≡◌, ◌≢◌, ℕ, ◌+◌, ◌<◌, ◌≤◌, true, false, eqb, List, [], ◌∷◌, ◌++◌, length, get_or, set, refl, sym, ap, ◌∙◌, subst, inl, inr, arith, append_assoc, append-nil, length-set}
use Rattle.std.specs.Prelude.{remove}
use Rattle.std.proofs.lemmas.List.{get_or-set_same, get_or-set_other, get_or_default}
use Rattle.std.proofs.lemmas.Bool.Decides.{eqb_tells, nat_tests}
use Rattle.node_model.specs.dsm_messages.declared.messages.Post.{Post}
use Rattle.node_model.specs.dsm_messages.declared.messages.Wire.{Wire}
use Rattle.node_model.specs.Core.{wires_to}
use Rattle.message_queues.proofs.Squares.{first_is, wire_with}

-- one message more for its receiver
wires_here : (stamp k : ℕ) (ps : List Post) (p : Post) → p.to ≡ k
    → wires_to stamp k (ps ++ p ∷ []) ≡ wires_to stamp k ps ++ wire_with stamp p ∷ []
wires_here stamp k [] p is = (let t : eqb p.to k ≡ true = grind (arith, nat_tests) in rw t refl)
wires_here stamp k (q ∷ ps) p is = elim (eqb_tells q.to k) [
  | inl t ↦ rw t.0 (ap (λ l. wire_with stamp q ∷ l) (wires_here stamp k ps p is))
  | inr t ↦ rw t.0 (wires_here stamp k ps p is)
]

-- and none for another
wires_there : (stamp k : ℕ) (ps : List Post) (p : Post) → p.to ≢ k
    → wires_to stamp k (ps ++ p ∷ []) ≡ wires_to stamp k ps
wires_there stamp k [] p other = (let t : eqb p.to k ≡ false = grind (arith, nat_tests) in rw t refl)
wires_there stamp k (q ∷ ps) p other = elim (eqb_tells q.to k) [
  | inl t ↦ rw t.0 (ap (λ l. wire_with stamp q ∷ l) (wires_there stamp k ps p other))
  | inr t ↦ rw t.0 (wires_there stamp k ps p other)
]

module _ {C : Type 0} (Sent : C → List Wire → C → Type 0) (Fits : C → ℕ → Type 0) where
  -- these of what a node sends are sent, and these are left
  pub record HaveSentTo (olds now : List C) (first nodes stamp : ℕ) (posts left : List Post)
      : Type 0 where
    pub count : length now ≡ length olds
    pub done : List Post
    pub split : posts ≡ done ++ left
    pub sent : (to : ℕ) (c : C) → to < nodes
        → Sent (get_or olds (first + to) c) (wires_to stamp to done) (get_or now (first + to) c)
    pub room : (to : ℕ) (c : C) → to < nodes → Fits (get_or now (first + to) c) (length left)
    pub others : (k : ℕ) (c : C) → ((to : ℕ) → to < nodes → k ≢ first + to)
        → get_or now k c ≡ get_or olds k c

  module _ (olds now : List C) (first nodes stamp : ℕ) (posts rest : List Post) (p : Post)
      (h : HaveSentTo olds now first nodes stamp posts (p ∷ rest)) where
    split_on : posts ≡ (h.done ++ p ∷ []) ++ rest
    split_on = h.split ∙ sym (append_assoc h.done (p ∷ []) rest)

    -- the first that is left is sent
    pub sent_first : (x y : C) → first + nodes ≤ length olds → p.to < nodes
        → x ≡ get_or now (first + p.to) x
        → ((c : C) (wires : List Wire) → Sent c wires x → Sent c (wires ++ wire_with stamp p ∷ []) y)
        → Fits y (length rest)
        → ((c : C) (j k : ℕ) → j ≤ k → Fits c k → Fits c j)
        → HaveSentTo olds (set now (first + p.to) y) first nodes stamp posts rest
    sent_first x y many row is sends fits fewer =
        let below : first + p.to < length now = (let n = h.count in omega (arith, many, row, n)) in
        record {
          count = length-set now (first + p.to) y ∙ h.count;
          done = h.done ++ p ∷ [];
          split = split_on;
          sent = λ to c low. elim (eqb_tells to p.to) [
            | inl t ↦ (let at : get_or now (first + to) c ≡ x =
                ap (λ z. get_or now (first + z) c) t.1
                ∙ sym (is ∙ get_or_default now (first + p.to) x c below) in
                let put : get_or (set now (first + p.to) y) (first + to) c ≡ y =
                ap (λ z. get_or (set now (first + p.to) y) (first + z) c) t.1
                ∙ get_or-set_same now (first + p.to) y c below in
                subst (λ (z : C). Sent (get_or olds (first + to) c) (wires_to stamp to (h.done ++ p ∷ [])) z)
                (sym put)
                (subst (λ ws. Sent (get_or olds (first + to) c) ws y)
                (sym (wires_here stamp to h.done p (sym t.1)))
                (sends (get_or olds (first + to) c) (wires_to stamp to h.done)
                (subst (λ (z : C). Sent (get_or olds (first + to) c) (wires_to stamp to h.done) z) at
                (h.sent to c low)))))
            | inr t ↦ (let other : first + to ≢ first + p.to = (λ e. t.1 (omega (arith, e))) in
                subst (λ (z : C). Sent (get_or olds (first + to) c) (wires_to stamp to (h.done ++ p ∷ [])) z)
                (sym (get_or-set_other now (first + p.to) (first + to) y c other))
                (subst (λ ws. Sent (get_or olds (first + to) c) ws (get_or now (first + to) c))
                (sym (wires_there stamp to h.done p (λ e. t.1 (sym e))))
                (h.sent to c low)))
          ];
          room = λ to c low. elim (eqb_tells to p.to) [
            | inl t ↦ subst (λ (z : C). Fits z (length rest))
                (sym (ap (λ z. get_or (set now (first + p.to) y) (first + z) c) t.1
                ∙ get_or-set_same now (first + p.to) y c below)) fits
            | inr t ↦ (let other : first + to ≢ first + p.to = (λ e. t.1 (omega (arith, e))) in
                subst (λ (z : C). Fits z (length rest))
                (sym (get_or-set_other now (first + p.to) (first + to) y c other))
                (fewer (get_or now (first + to) c) (length rest) (length (p ∷ rest)) (omega arith)
                (h.room to c low)))
          ];
          others = λ k c none.
              get_or-set_other now (first + p.to) k y c (none p.to row) ∙ h.others k c none;
        }

    -- or it went to no node
    pub sent_away : nodes ≤ p.to → ((c : C) (j k : ℕ) → j ≤ k → Fits c k → Fits c j)
        → HaveSentTo olds now first nodes stamp posts rest
    sent_away far fewer = record {
      count = h.count;
      done = h.done ++ p ∷ [];
      split = split_on;
      sent = λ to c low. subst (λ ws. Sent (get_or olds (first + to) c) ws (get_or now (first + to) c))
          (sym (wires_there stamp to h.done p (λ e. absurd (omega (arith, e, far, low)))))
          (h.sent to c low);
      room = λ to c low. fewer (get_or now (first + to) c) (length rest) (length (p ∷ rest))
          (omega arith) (h.room to c low);
      others = h.others;
    }

  module _ (olds now : List C) (first nodes stamp : ℕ) (posts left rest : List Post) (p : Post)
      (head : p ≡ get_or left 0 p) (tail : rest ≡ remove left 0) (one : length rest + 1 ≡ length left)
      (fewer : (c : C) (j k : ℕ) → j ≤ k → Fits c k → Fits c j)
      (h : HaveSentTo olds now first nodes stamp posts left) where
    begun : HaveSentTo olds now first nodes stamp posts (p ∷ rest)
    begun = subst (λ l. HaveSentTo olds now first nodes stamp posts l)
        (first_is left rest p head tail (omega (arith, one))) h

    -- the same, by the calls of the loop
    pub sent_next : (i : ℕ) (x y : C) → i ≡ p.to → first + nodes ≤ length olds → i < nodes
        → x ≡ get_or now (first + i) x
        → ((c : C) (wires : List Wire) → Sent c wires x → Sent c (wires ++ wire_with stamp p ∷ []) y)
        → ((k : ℕ) → Fits x (k + 1) → Fits y k)
        → HaveSentTo olds (set now (first + i) y) first nodes stamp posts rest
    sent_next i x y at many row is sends fits =
        let place : x ≡ get_or now (first + p.to) x = subst (λ z. x ≡ get_or now (first + z) x) at is in
        let low : p.to < nodes = subst (λ z. z < nodes) at row in
        let e : length (p ∷ rest) ≡ length rest + 1 = omega arith in
        let has : Fits x (length rest + 1) = subst (λ z. Fits x z) e
        (subst (λ (z : C). Fits z (length (p ∷ rest))) (sym place) (begun.room p.to x low)) in
        subst (λ z. HaveSentTo olds (set now (first + z) y) first nodes stamp posts rest) (sym at)
        (sent_first olds now first nodes stamp posts rest p begun x y many low place sends
        (fits (length rest) has) fewer)

    pub sent_nowhere : (i : ℕ) → i ≡ p.to → nodes ≤ i
        → HaveSentTo olds now first nodes stamp posts rest
    sent_nowhere i at far = sent_away olds now first nodes stamp posts rest p begun
        (subst (λ z. nodes ≤ z) at far) fewer

  -- and in the end nothing is left
  pub sent_all : (olds now : List C) (first nodes stamp : ℕ) (posts left : List Post) → left ≡ []
      → HaveSentTo olds now first nodes stamp posts left → (to : ℕ) (c : C) → to < nodes
      → Sent (get_or olds (first + to) c) (wires_to stamp to posts) (get_or now (first + to) c)
  sent_all olds now first nodes stamp posts left none h to c low =
      subst (λ ps. Sent (get_or olds (first + to) c) (wires_to stamp to ps) (get_or now (first + to) c))
      (sym (h.split ∙ ap (λ l. h.done ++ l) none ∙ append-nil h.done)) (h.sent to c low)
