-- The events of nodes, gathered node by node, and events behind others.
use Rattle.std.proofs.Common.{◌≡◌, ◌≢◌, ℕ, zero, suc, ◌<◌, ◌≤◌, Bool, true, false, cond, eqb, List, [], ◌∷◌, ◌++◌, sym, refl, ap, ◌∙◌, subst, append_assoc, append-nil, arith, eq-eqb, ne_eqb, ⊎_elim}
use Rattle.std.proofs.lemmas.Bool.{cases_eq}
use Rattle.node_model.specs.dsm_messages.declared.messages.Wire.{Wire}
use Rattle.node_model.specs.Node.{Node}
use Rattle.node_model.specs.Core.{Core}
use Rattle.run_order.proofs.History.{LocalEvent, takes, sends, taken, sent, of, Local, Fits}
use Rattle.run_order.proofs.Told.{AreOf}

-- 1. Events behind others

pub of_append : (i : ℕ) (es fs : List LocalEvent) → of i (es ++ fs) ≡ of i es ++ of i fs
of_append i [] fs = refl
of_append i (e ∷ es) fs =
    ap (λ l. cond (eqb e.node i) (e ∷ l) l) (of_append i es fs) ∙ both (eqb e.node i)
  where
    both : (b : Bool) → cond b (e ∷ (of i es ++ of i fs)) (of i es ++ of i fs)
        ≡ cond b (e ∷ of i es) (of i es) ++ of i fs
    both true = refl
    both false = refl

taken_append : (j k : ℕ) (es fs : List LocalEvent) → taken j k (es ++ fs) ≡ taken j k es ++ taken j k fs
taken_append j k [] fs = refl
taken_append j k (e ∷ es) fs = ap (λ l. takes j k e ++ l) (taken_append j k es fs)
    ∙ sym (append_assoc (takes j k e) (taken j k es) (taken j k fs))

sent_append : (j k : ℕ) (es fs : List LocalEvent) → sent j k (es ++ fs) ≡ sent j k es ++ sent j k fs
sent_append j k [] fs = refl
sent_append j k (e ∷ es) fs = ap (λ l. sends j k e ++ l) (sent_append j k es fs)
    ∙ sym (append_assoc (sends j k e) (sent j k es) (sent j k fs))

-- what is taken, there and sent, over two lists of events
both_parts : (t1 t2 there l mid s1 s2 : List Wire) → t1 ++ mid ≡ l ++ s1 → t2 ++ there ≡ mid ++ s2
    → (t1 ++ t2) ++ there ≡ l ++ (s1 ++ s2)
both_parts t1 t2 there l mid s1 s2 a b =
    append_assoc t1 t2 there ∙ ap (λ x. t1 ++ x) b ∙ sym (append_assoc t1 mid s2)
    ∙ ap (λ x. x ++ s2) a ∙ append_assoc l s1 s2

module _ (Moves : Node → LocalEvent → Node → Type 0) where
  local_append : (es fs : List LocalEvent) (s u t : Node) → Local Moves s es u → Local Moves u fs t
      → Local Moves s (es ++ fs) t
  local_append [] fs s u t a b = subst (λ x. Local Moves x fs t) (sym a) b
  local_append (e ∷ es) fs s u t a b = (a.0, a.1, local_append es fs a.0 u t a.2 b)

  pub fits_append : (s u t : Core) (es fs : List LocalEvent) → Fits Moves s es u → Fits Moves u fs t
      → Fits Moves s (es ++ fs) t
  fits_append s u t es fs a b = (
    (λ i. subst (λ l. Local Moves (s.nodes i) l (t.nodes i)) (sym (of_append i es fs))
        (local_append (of i es) (of i fs) (s.nodes i) (u.nodes i) (t.nodes i) (a.0 i) (b.0 i))),
    λ j k. ap (λ l. l ++ t.list j k) (taken_append j k es fs)
        ∙ both_parts (taken j k es) (taken j k fs) (t.list j k) (s.list j k) (u.list j k)
        (sent j k es) (sent j k fs) (a.1 j k) (b.1 j k)
        ∙ ap (λ l. s.list j k ++ l) (sym (sent_append j k es fs)),
  )

-- 2. The events of all nodes below n

abbrev pub all_of : (n : ℕ) → (ℕ → List LocalEvent) → List LocalEvent
all_of zero h = []
all_of (suc n) h = all_of n h ++ h n

of_own : (i : ℕ) (es : List LocalEvent) → AreOf i es → of i es ≡ es
of_own i [] h = refl
of_own i (e ∷ es) h = rw (eq-eqb e.node i h.0) (ap (λ l. e ∷ l) (of_own i es h.1))

of_other : (i k : ℕ) (es : List LocalEvent) → AreOf k es → k ≢ i → of i es ≡ []
of_other i k [] h other = refl
of_other i k (e ∷ es) h other =
    rw (ne_eqb e.node i (λ p. other (sym h.0 ∙ p))) (of_other i k es h.1 other)

pub of_above : (n : ℕ) (h : ℕ → List LocalEvent) → ((i : ℕ) → AreOf i (h i)) → (i : ℕ) → n ≤ i
    → of i (all_of n h) ≡ []
of_above zero h own i le = refl
of_above (suc n) h own i le =
    of_append i (all_of n h) (h n)
    ∙ ap (λ l. l ++ of i (h n)) (of_above n h own i (omega arith))
    ∙ of_other i n (h n) (own n) (omega arith)

pub of_below : (n : ℕ) (h : ℕ → List LocalEvent) → ((i : ℕ) → AreOf i (h i)) → (i : ℕ) → i < n
    → of i (all_of n h) ≡ h i
of_below zero h own i lt = absurd (omega arith)
of_below (suc n) h own i lt = of_append i (all_of n h) (h n) ∙ ⊎_elim
    (λ (e : i ≡ n). subst (λ k. of k (all_of n h) ++ of k (h n) ≡ h k) (sym e)
    (ap (λ l. l ++ of n (h n)) (of_above n h own n (omega arith)) ∙ of_own n (h n) (own n)))
    (λ (e : i ≢ n). ap (λ l. l ++ of i (h n)) (of_below n h own i (omega arith))
    ∙ ap (λ l. h i ++ l) (of_other i n (h n) (own n) (λ q. e (sym q))) ∙ append-nil (h i))
    (cases_eq i n)
