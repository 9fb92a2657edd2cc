-- The theorem, claim by claim.
use Rattle.std.proofs.Common.{◌≡◌, ℕ, ◌+◌, ◌*◌, ◌<◌, ◌≤◌, true, false, eqb, Option, Some, None, List, ◌∷◌, ◌⊎◌, inl, inr, refl, sym, ap, ◌∙◌, arith}
use Rattle.std.proofs.lemmas.Bool.Decides.{leb_tells, nat_tests}
use Rattle.coherence.specs.Messages.{Need, Read, Write, HomeMessage, Done, ToHome, Forward, Wait, is_none}
use Rattle.coherence.specs.Machine.{Core, Setting, Proper, Event, after}
use Rattle.coherence.proofs.View.{View, if_to_home, if_forward, if_response, part}
use Rattle.coherence.proofs.Picture.{Phase, Idle, ReadOpen, WriteOpen, ReadDone, WriteDone, Picture, wait_for, wait_in, to_home_in, Shows, WellFormed}
use Rattle.coherence.specs.Claims.{Coherent, OneWriter, HaveRows, Moves, Settles, TakersWait, WaitersRead, FewWaits, FewAcks, FewRequests, InOnePlace, Costs, Frugal}
use Rattle.coherence.proofs.Waiters.{waiter_reads}
use Rattle.coherence.proofs.Store.{one_writer, reads_memory, else_flagged}
use Rattle.coherence.proofs.Moves.{waits_move}
use Rattle.coherence.proofs.Settled.{no_messages, dones}
use Rattle.coherence.proofs.Takers.{taker_waits}
use Rattle.coherence.proofs.Buffers.{one_place}
use Rattle.coherence.proofs.Home.{at_home, no_done}
use Rattle.coherence.proofs.Steps.{Holds, seen, has_row, few_requests, front_part, list_holds}

-- a wait has counted fewer acknowledgements than there are nodes
asked_few : {C : Type 0} (n : ℕ) (o : Option Need) (w : Wait C) → wait_for o ≡ Some w → w.acks ≡ 0
asked_few n None w e = absurd cc
asked_few n (Some need) w e = grind (arith, nat_tests)

few_counted : {C : Type 0} (m : C) (n : ℕ) (p : Picture) (f : Phase) (i : ℕ) (w : Wait C) → n ≤ 16
    → WellFormed n p f → wait_in m p f i ≡ Some w → w.acks < 16
few_counted m n p Idle i w l g e = let a = asked_few n (p.requests i) w e in omega arith
few_counted m n p (ReadOpen r c) i w l g e =
    (elim (eqb i r) as (λ t. eqb i r ≡ t → w.acks < 16) [
      | true ↦ (λ t. let a : w.acks ≡ 0 = grind (arith, nat_tests) in omega arith)
      | false ↦ (λ t. let a = asked_few n (p.requests i) w (grind (arith, nat_tests)) in
          omega arith)
    ]) refl
few_counted m n p (WriteOpen up r b k c flight) i w l g e =
    (elim (eqb i r) as (λ t. eqb i r ≡ t → w.acks < 16) [
      | true ↦ (λ t. let a : w.acks ≡ c = grind (arith, nat_tests) in let d = g.phase.0.number in
          let x = g.phase.0.few in omega arith)
      | false ↦ (λ t. let a = asked_few n (p.requests i) w (grind (arith, nat_tests)) in
          omega arith)
    ]) refl
few_counted m n p other i w l g e = let a = asked_few n (p.requests i) w e in omega arith

module _ {C : Type 0} (flag : C) (n h : ℕ) (v : View C) (p : Picture) (j : ℕ)
    (rest : List HomeMessage) where
  cost_by : (f : Phase) → Shows flag n h v p f → to_home_in p f j ≡ Done ∷ rest
      → ((v.busy ≡ Some (Read, j)) × (v.tally.cost ≡ 4)) ⊎
      ((v.busy ≡ Some (Write, j)) × (v.tally.cost ≤ 2 * n + 1))
  cost_by Idle s e = absurd (no_done flag n h v p j rest Idle refl e)
  cost_by (ReadOpen q c) s e = absurd (no_done flag n h v p j rest (ReadOpen q c) refl e)
  cost_by (WriteOpen up q a k c flight) s e =
      absurd (no_done flag n h v p j rest (WriteOpen up q a k c flight) refl e)
  cost_by (ReadDone q) s e = let is : q
      ≡ j = grind (arith, nat_tests) in inl (s.busy ∙ ap (λ z. Some (Read, z)) is, s.cost)
  cost_by (WriteDone q) s e = let is : q
      ≡ j = grind (arith, nat_tests) in inr (s.busy ∙ ap (λ z. Some (Write, z)) is, s.cost)

module _ {C : Type 0} (s : Setting C) (proper : Proper s) (k : Core C) (holds : Holds s k) where
  coherent : Coherent s k
  coherent = record {
    reads = λ i b e. reads_memory s.flag s.nodes (s.home b) (seen s k b) (holds.pictures b) i e;
    flags = λ i b e. else_flagged s.flag s.nodes (s.home b) (seen s k b) (holds.pictures b) i e;
  }

  writer : OneWriter s k
  writer i x b a e = one_writer s.flag s.nodes (s.home b) (seen s k b) (holds.pictures b) i x a e

  rows : HaveRows s k
  rows i j w rest e = has_row s proper k holds i j w rest e

  moves : Moves s k
  moves i b e =
      let waits : is_none (k.wait i b) ≡ false = (elim (k.wait i b) as
      (λ z. (z ≡ None → ⊥) → is_none z ≡ false) [
        | None ↦ (λ o. absurd (o refl))
        | Some w ↦ (λ o. refl)
      ]) e in
      let m = waits_move s.flag s.nodes (s.home b) (proper.homes b) (seen s k b) (holds.pictures b)
      i waits in (
        m.0,
        m.1,
        m.2,
        m.3,
        λ z. elim m.4 [
          | inl p ↦ p (ap (part if_to_home b) z)
          | inr q ↦ elim q [
            | inl p ↦ p (ap (part if_forward b) z)
            | inr p ↦ p (ap (part if_response b) z)
          ]
        ],
      )

  settles : Settles s k
  settles b idle j i = elim (leb_tells s.blocks b) [
    | inl far ↦ (let q = holds.beyond b far.1 in
        no_messages b (k.list j i) (q.to_home j i) (q.forwards j i) (q.responses j i))
    | inr near ↦ (let h = holds.pictures b in
        dones s.flag s.nodes (s.home b) (seen s k b) h.0 h.1 h.2 h.3
        (λ x below. idle x below (omega arith)) j i b (k.list j i) refl refl refl)
  ]

  takers : TakersWait s k
  takers i j b r m rest e named =
      let t = taker_waits s.flag s.nodes (s.home b) (seen s k b) j i m (part if_forward b rest)
      (holds.pictures b)
      (front_part if_forward (k.list j i) (record { block = b; body = Forward m }) rest e) r named
      in (t.below, t.other, t.wait.0, t.wait.1, t.wait.2)

  waiters : WaitersRead s k
  waiters i b w e =
      let h = holds.pictures b in
      waiter_reads s.flag s.nodes (s.home b) (seen s k b) h.0 h.1 h.2 h.3 i w e

  acks : FewAcks s k
  acks i b w e = let h = holds.pictures b in
      few_counted (k.memory b) s.nodes h.0 h.1 i w proper.nodes h.3 (sym (h.2.waits i) ∙ e)

  one_place_each : InOnePlace s k
  one_place_each r b node = one_place s k r b (proper.homes b) node (holds.pictures b)

  costs : Costs s k
  costs i j b rest e =
      let h = holds.pictures b in
      let o = at_home s.flag s.nodes (s.home b) (seen s k b) h.0 h.1 j i Done
      (part if_to_home b rest) h.2 (front_part if_to_home (k.list j i)
      (record { block = b; body = ToHome Done }) rest e) in
      cost_by s.flag s.nodes (s.home b) (seen s k b) h.0 j (part if_to_home b rest) h.1 h.2 o.1

  frugal : Frugal s k
  frugal = record {
    sends = λ b. let a = (holds.pictures b).2.sends in omega arith;
    takes = λ b. let a = (holds.pictures b).2.takes in omega arith;
  }

module _ (C : Type 0) (s : Setting C) (proper : Proper s) (es : List (Event C)) where
  pub all_coherent : Coherent s (after s es)
  all_coherent = coherent s proper (after s es) (list_holds s proper es)

  pub all_one_writer : OneWriter s (after s es)
  all_one_writer = writer s proper (after s es) (list_holds s proper es)

  pub all_rows : HaveRows s (after s es)
  all_rows = rows s proper (after s es) (list_holds s proper es)

  pub all_moves : Moves s (after s es)
  all_moves = moves s proper (after s es) (list_holds s proper es)

  pub all_settles : Settles s (after s es)
  all_settles = settles s proper (after s es) (list_holds s proper es)

  pub all_takers : TakersWait s (after s es)
  all_takers = takers s proper (after s es) (list_holds s proper es)

  pub all_waiters : WaitersRead s (after s es)
  all_waiters = waiters s proper (after s es) (list_holds s proper es)

  pub all_few_waits : FewWaits s (after s es)
  all_few_waits = (list_holds s proper es).few_waits

  pub all_acks : FewAcks s (after s es)
  all_acks = acks s proper (after s es) (list_holds s proper es)

  pub all_requests : FewRequests s (after s es)
  all_requests i = few_requests s proper (after s es) (list_holds s proper es) i

  pub all_buffers : InOnePlace s (after s es)
  all_buffers = one_place_each s proper (after s es) (list_holds s proper es)

  pub all_costs : Costs s (after s es)
  all_costs = costs s proper (after s es) (list_holds s proper es)

  pub all_frugal : Frugal s (after s es)
  all_frugal = frugal s proper (after s es) (list_holds s proper es)
