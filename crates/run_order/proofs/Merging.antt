-- Events in the order of their stamps are a run.
use Rattle.std.proofs.Common.{◌≡◌, ◌≢◌, ℕ, ◌<◌, ◌≤◌, Bool, true, false, cond, eqb, Option, Some, None, List, [], ◌∷◌, ◌++◌, sym, refl, ap, ◌∙◌, subst, true≢false, append_assoc, append-nil, arith, eq-eqb, ne_eqb, eqb-true}
use Rattle.node_model.specs.dsm_messages.declared.messages.Post.{Post}
use Rattle.node_model.specs.dsm_messages.declared.messages.Wire.{Wire}
use Rattle.node_model.specs.Node.{Node}
use Rattle.node_model.specs.Core.{Core, wires_to}
use Rattle.run_order.proofs.History.{LocalEvent, if_from, takes, sends, taken, sent, of, From, Ascends, IsLater, AreLater, Local, Run, Fits}

-- 1. What is sent later has later stamps

-- every wire has this stamp or a later one
abbrev Late : ℕ → List Wire → Type 0
Late m [] = Unit {0}
Late m (w ∷ ws) = (m ≤ w.stamp) × Late m ws

late_append : (m : ℕ) (xs ys : List Wire) → Late m xs → Late m ys → Late m (xs ++ ys)
late_append m [] ys a b = b
late_append m (x ∷ xs) ys a b = (a.0, late_append m xs ys a.1 b)

late_posts : (m k at : ℕ) (ps : List Post) → m ≤ at → Late m (wires_to at k ps)
late_posts m k at [] h = tt
late_posts m k at (p ∷ ps) h =
    elim (eqb p.to k) as (λ b. Late m (cond b
    (record { stamp = at; message = p.message } ∷ wires_to at k ps) (wires_to at k ps))) [
      | true ↦ (h, late_posts m k at ps h)
      | false ↦ late_posts m k at ps h
    ]

late_sends : (m j k : ℕ) (e : LocalEvent) → m ≤ e.stamp → Late m (sends j k e)
late_sends m j k e h =
    elim (eqb j e.node) as (λ b. Late m (cond b (wires_to e.stamp k e.posts) []))
    [ true ↦ late_posts m k e.stamp e.posts h | false ↦ tt ]

late_sent : (m j k : ℕ) (es : List LocalEvent) → From m es → Late m (sent j k es)
late_sent m j k [] f = tt
late_sent m j k (e ∷ es) f =
    late_append m (sends j k e) (sent j k es) (late_sends m j k e f.0) (late_sent m j k es f.1)

-- so what is taken now stands at the front of what is there now
front : (m : ℕ) (w : Wire) (xs now later : List Wire) → w ∷ xs ≡ now ++ later → Late m later
    → w.stamp < m → (rest : List Wire) × (now ≡ w ∷ rest)
front m w xs [] [] e late lt = absurd cc
front m w xs [] (l ∷ ls) e late lt = absurd
    (let same : w ≡ l = cc in let le : m ≤ w.stamp = rw same late.0 in omega arith)
front m w xs (x ∷ now) later e late lt =
    (now, (let same : x ≡ w = cc in ap (λ y. y ∷ now) same))

take_front : (m j : ℕ) (b : Bool) (o : Option (ℕ × Wire)) (xs now later : List Wire)
    → cond b (if_from j o) [] ++ xs ≡ now ++ later → Late m later → IsLater m o
    → (rest : List Wire) × (now ≡ cond b (if_from j o) [] ++ rest)
take_front m j false o xs now later e late lt = (now, refl)
take_front m j true None xs now later e late lt = (now, refl)
take_front m j true (Some p) xs now later e late lt =
    (elim (eqb j p.0) as (λ b. cond b (p.1 ∷ []) [] ++ xs ≡ now ++ later
    → (rest : List Wire) × (now ≡ cond b (p.1 ∷ []) [] ++ rest)) [
      | true ↦ (λ e. front m p.1 xs now later e late lt)
      | false ↦ (λ e. (now, refl))
    ]) e

-- 2. The equation of one list

cancel : (xs : List Wire) (a b : List Wire) → xs ++ a ≡ xs ++ b → a ≡ b
cancel [] a b e = e
cancel (x ∷ xs) a b e = cancel xs a b cc

-- the part after one event
next_list : (now rest taking taken_later there sending later : List Wire)
    → (taking ++ taken_later) ++ there ≡ now ++ (sending ++ later) → now ≡ taking ++ rest
    → taken_later ++ there ≡ (rest ++ sending) ++ later
next_list now rest taking tl there sending later e is =
    cancel taking (tl ++ there) ((rest ++ sending) ++ later)
    (sym (append_assoc taking tl there) ∙ e ∙ ap (λ l. l ++ (sending ++ later)) is
    ∙ append_assoc taking rest (sending ++ later)
    ∙ ap (λ l. taking ++ l) (sym (append_assoc rest sending later)))

prev_list : (now rest taking taken_later there sending later : List Wire)
    → taken_later ++ there ≡ (rest ++ sending) ++ later → now ≡ taking ++ rest
    → (taking ++ taken_later) ++ there ≡ now ++ (sending ++ later)
prev_list now rest taking tl there sending later e is =
    append_assoc taking tl there ∙ ap (λ l. taking ++ l) (e ∙ append_assoc rest sending later)
    ∙ sym (append_assoc taking rest (sending ++ later)) ∙ ap (λ l. l ++ (sending ++ later)) (sym is)

-- 3. Runs and what fits

module _ (Moves : Node → LocalEvent → Node → Type 0) where
  local_next : (i : ℕ) (e : LocalEvent) (es : List LocalEvent) (x new z : Node) (b : Bool)
      → (b ≡ true → Local Moves new (of i es) z)
      → Local Moves x (cond b (e ∷ of i es) (of i es)) z → Local Moves (cond b new x) (of i es) z
  local_next i e es x new z true f h = f refl
  local_next i e es x new z false f h = h

  of_self : (e : LocalEvent) (es : List LocalEvent) → of e.node (e ∷ es) ≡ e ∷ of e.node es
  of_self e es = rw (eq-eqb e.node e.node refl) refl

  -- Nodes and lists that fit a list of events in the order of its stamps are reached by it.
  pub merge : (es : List LocalEvent) (s t : Core) → Ascends es → AreLater es → Fits Moves s es t
      → Run Moves s es t
  merge [] s t up later fit = λ r. record {
    nodes = λ i. fit.0 i r;
    list = λ j k. (sym (append-nil (s.list j k)) ∙ sym (fit.1 j k)) r;
  }
  merge (e ∷ es) s t up later fit =
      let mine : Local Moves (s.nodes e.node) (e ∷ of e.node es) (t.nodes e.node) =
      rw (of_self e es) at (fit.0 e.node) in
      let first : (j k : ℕ) → (rest : List Wire) × (s.list j k ≡ takes j k e ++ rest) =
      λ j k. take_front e.stamp j (eqb k e.node) e.took (taken j k es ++ t.list j k) (s.list j k)
      (sent j k (e ∷ es)) (sym (append_assoc (takes j k e) (taken j k es) (t.list j k)) ∙ fit.1 j k)
      (late_sent e.stamp j k (e ∷ es) (omega arith, up.0)) later.0 in
      let u : Core = record {
        nodes = λ i. cond (eqb e.node i) mine.0 (s.nodes i);
        list = λ j k. (first j k).0 ++ sends j k e;
      } in (
        u,
        (
          rw (eq-eqb e.node e.node refl) mine.1,
          (λ i other. rw (ne_eqb e.node i (λ x. other (sym x))) refl),
          λ j k. ((first j k).0, (first j k).1, refl),
        ),
        merge es u t up.1 later.1 (
          (λ i. local_next i e es (s.nodes i) mine.0 (t.nodes i) (eqb e.node i)
              (λ is. subst (λ k. Local Moves mine.0 (of k es) (t.nodes k)) (eqb-true e.node i is)
              mine.2) (fit.0 i)),
          λ j k. next_list (s.list j k) (first j k).0 (takes j k e) (taken j k es) (t.list j k)
              (sends j k e) (sent j k es) (fit.1 j k) (first j k).1,
        ),
      )

  local_prev : (i : ℕ) (e : LocalEvent) (es : List LocalEvent) (s u : Core) (z : Node) (b : Bool)
      → eqb e.node i ≡ b → Moves (s.nodes e.node) e (u.nodes e.node)
      → ((k : ℕ) → k ≢ e.node → u.nodes k ≡ s.nodes k) → Local Moves (u.nodes i) (of i es) z
      → Local Moves (s.nodes i) (cond b (e ∷ of i es) (of i es)) z
  local_prev i e es s u z true is mv others h = (
    u.nodes i,
    subst (λ k. Moves (s.nodes k) e (u.nodes k)) (eqb-true e.node i is) mv,
    h,
  )
  local_prev i e es s u z false is mv others h =
      subst (λ x. Local Moves x (of i es) z)
      (others i (λ same. true≢false (sym (eq-eqb e.node i (sym same)) ∙ is))) h

  -- Whatever order the events of a run came in, its nodes and lists fit.
  pub run_fits : (es : List LocalEvent) (s t : Core) → Run Moves s es t → Fits Moves s es t
  run_fits [] s t e = (
    (λ i. ap (λ (x : Core). x.nodes i) e),
    λ j k. sym (append-nil (s.list j k) ∙ ap (λ (x : Core). x.list j k) e),
  )
  run_fits (e ∷ es) s t r =
      let u = r.0 in let st = r.1 in let fit = run_fits es u t r.2 in (
        (λ i. local_prev i e es s u (t.nodes i) (eqb e.node i) refl st.0 st.1 (fit.0 i)),
        λ j k. let l = st.2 j k in prev_list (s.list j k) l.0 (takes j k e) (taken j k es)
            (t.list j k) (sends j k e) (sent j k es)
            (fit.1 j k ∙ ap (λ x. x ++ sent j k es) l.2) l.1,
      )
