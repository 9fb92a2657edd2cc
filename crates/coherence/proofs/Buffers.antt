-- The buffer of a wait is in one place.
use Rattle.std.proofs.Common.{◌≡◌, ◌≢◌, ℕ, zero, suc, ◌+◌, ◌<◌, Bool, true, false, not, cond, eqb, ◌&&◌, Option, Some, None, List, [], ◌∷◌, ◌++◌, refl, sym, ap, ◌∙◌, subst, arith, inl, inr}
use Rattle.std.proofs.lemmas.Bool.Decides.{eqb_tells, nat_tests}
use Rattle.coherence.specs.Messages.{Need, HomeMessage, Ask, Done, ForwardMessage, FwdRead, FwdWrite, Inval, Grant, ResponseMessage, Data, Ack, Message, ToHome, Forward, Response, Wait, is_none, is_unanswered}
use Rattle.coherence.specs.Table.{sum_below, has_from, write_forward}
use Rattle.coherence.specs.Machine.{Wire, Core, Setting}
use Rattle.coherence.specs.Claims.{carries, one_if, carrying, asked_by, is_answered, buffer_places}
use Rattle.coherence.proofs.View.{if_to_home, if_forward, if_response, part, view}
use Rattle.coherence.proofs.Picture.{Place, InForward, InData, InWait, is_in_forward, is_in_data, Flight, InvalFlight, AckFlight, NoFlight, has_inval, has_ack, is_out, Phase, Idle, ReadOpen, WriteOpen, ReadDone, WriteDone, Picture, target, is_some, ask_in, to_home_in, forwards_in, responses_in, wait_for, wait_in, answer_in, Once, WellFormed, HasPicture}
use Rattle.coherence.proofs.Weights.{sum_change}
use Rattle.coherence.proofs.Asks.{asked_of}

-- 1. Sums

sum_none : (f : ℕ → ℕ) (n : ℕ) → ((x : ℕ) → f x ≡ 0) → sum_below f n ≡ 0
sum_none f zero h = refl
sum_none f (suc n) h = let a = h n in let b = sum_none f n h in omega (arith, a, b)

sum_same : (f g : ℕ → ℕ) (n : ℕ) → ((x : ℕ) → f x ≡ g x) → sum_below f n ≡ sum_below g n
sum_same f g zero h = refl
sum_same f g (suc n) h = let a = h n in let b = sum_same f g n h in omega (arith, a, b)

sum_plus : (f g : ℕ → ℕ) (n : ℕ) → sum_below (λ x. f x + g x) n ≡ sum_below f n + sum_below g n
sum_plus f g zero = refl
sum_plus f g (suc n) = let b = sum_plus f g n in omega (arith, b)

-- one place counts alone
sum_one : (f : ℕ → ℕ) (n x : ℕ) → x < n → ((y : ℕ) → y ≢ x → f y ≡ 0) → sum_below f n ≡ f x
sum_one f n x l h =
    let c = sum_change f (λ y. 0) n x l h in
    let z = sum_none (λ y. 0) n (λ y. refl) in
    omega (arith, c, z)

-- of pairs
pairs : (ℕ → ℕ → ℕ) → ℕ → ℕ
pairs f n = sum_below (λ j. sum_below (f j) n) n

pairs_same : (f g : ℕ → ℕ → ℕ) (n : ℕ) → ((j i : ℕ) → f j i ≡ g j i) → pairs f n ≡ pairs g n
unfolding pairs
pairs_same f g n h =
    sum_same (λ j. sum_below (f j) n) (λ j. sum_below (g j) n) n (λ j. sum_same (f j) (g j) n (h j))

pairs_none : (f : ℕ → ℕ → ℕ) (n : ℕ) → ((j i : ℕ) → f j i ≡ 0) → pairs f n ≡ 0
unfolding pairs
pairs_none f n h = sum_none (λ j. sum_below (f j) n) n (λ j. sum_none (f j) n (h j))

pairs_one : (f : ℕ → ℕ → ℕ) (n x y : ℕ) → x < n → y < n → ((j i : ℕ) → j ≢ x → f j i ≡ 0)
    → ((j i : ℕ) → i ≢ y → f j i ≡ 0) → pairs f n ≡ f x y
unfolding pairs
pairs_one f n x y lx ly far aside =
    sum_one (λ j. sum_below (f j) n) n x lx (λ j o. sum_none (f j) n (λ i. far j i o))
    ∙ sum_one (f x) n y ly (λ i o. aside x i o)

-- 2. Of a list, class by class

abbrev in_asks : (r j : ℕ) → List HomeMessage → ℕ
in_asks r j [] = 0
in_asks r j (Ask need ∷ ms) = one_if (eqb j r) + in_asks r j ms
in_asks r j (Done ∷ ms) = in_asks r j ms

abbrev in_forwards : (r i : ℕ) → List ForwardMessage → ℕ
in_forwards r i [] = 0
in_forwards r i (FwdRead q ∷ ms) = one_if (eqb q r) + in_forwards r i ms
in_forwards r i (FwdWrite q k ∷ ms) = one_if (eqb q r) + in_forwards r i ms
in_forwards r i (Inval q ∷ ms) = in_forwards r i ms
in_forwards r i (Grant k ∷ ms) = one_if (eqb i r) + in_forwards r i ms

abbrev in_responses : {C : Type 0} → (r i : ℕ) → List (ResponseMessage C) → ℕ
in_responses r i [] = 0
in_responses r i (Data k c ∷ ms) = one_if (eqb i r) + in_responses r i ms
in_responses r i (Ack ∷ ms) = in_responses r i ms

by_class : {C : Type 0} (r b j i : ℕ) (ws : List (Wire C)) → carrying r b j i ws
    ≡ in_asks r j (part if_to_home b ws) + in_forwards r i (part if_forward b ws)
    + in_responses r i (part if_response b ws)
by_class r b j i [] = refl
by_class r b j i (w ∷ ws) =
    let rest = by_class r b j i ws in
    elim (eqb_tells w.block b) [
      | inl e ↦ rw e.0 (own w.body rest)
      | inr e ↦ rw e.0 (omega (arith, rest))
    ]
  where
    own : (m : Message _) → carrying r b j i ws
        ≡ in_asks r j (part if_to_home b ws) + in_forwards r i (part if_forward b ws)
        + in_responses r i (part if_response b ws) → one_if (carries r j i m) + carrying r b j i ws
        ≡ in_asks r j (if_to_home m ++ part if_to_home b ws)
        + in_forwards r i (if_forward m ++ part if_forward b ws)
        + in_responses r i (if_response m ++ part if_response b ws)
    own (ToHome (Ask need)) e = omega (arith, e)
    own (ToHome Done) e = omega (arith, e)
    own (Forward (FwdRead q)) e = omega (arith, e)
    own (Forward (FwdWrite q k)) e = omega (arith, e)
    own (Forward (Inval q)) e = omega (arith, e)
    own (Forward (Grant k)) e = omega (arith, e)
    own (Response (Data k c)) e = omega (arith, e)
    own (Response Ack) e = omega (arith, e)

all_classes : {C : Type 0} (k : Core C) (n r b : ℕ)
    → sum_below (λ j. sum_below (λ i. carrying r b j i (k.list j i)) n) n
    ≡ pairs (λ j i. in_asks r j ((view k b).to_home j i)) n
    + pairs (λ j i. in_forwards r i ((view k b).forwards j i)) n
    + pairs (λ j i. in_responses r i ((view k b).responses j i)) n
unfolding pairs
all_classes k n r b =
    sum_same (λ j. sum_below (λ i. carrying r b j i (k.list j i)) n)
    (λ j. sum_below (λ i. in_asks r j ((view k b).to_home j i)) n
    + sum_below (λ i. in_forwards r i ((view k b).forwards j i)) n
    + sum_below (λ i. in_responses r i ((view k b).responses j i)) n) n
    (λ j. sum_same (λ i. carrying r b j i (k.list j i))
    (λ i. in_asks r j ((view k b).to_home j i) + in_forwards r i ((view k b).forwards j i)
    + in_responses r i ((view k b).responses j i)) n (λ i. by_class r b j i (k.list j i))
    ∙ sum_plus (λ i. in_asks r j ((view k b).to_home j i) + in_forwards r i ((view k b).forwards j i))
    (λ i. in_responses r i ((view k b).responses j i)) n
    ∙ ap (λ z. z + sum_below (λ i. in_responses r i ((view k b).responses j i)) n)
    (sum_plus (λ i. in_asks r j ((view k b).to_home j i))
    (λ i. in_forwards r i ((view k b).forwards j i)) n))
    ∙ sum_plus (λ j. sum_below (λ i. in_asks r j ((view k b).to_home j i)) n
    + sum_below (λ i. in_forwards r i ((view k b).forwards j i)) n)
    (λ j. sum_below (λ i. in_responses r i ((view k b).responses j i)) n) n
    ∙ ap (λ z. z + sum_below (λ j. sum_below (λ i. in_responses r i ((view k b).responses j i)) n) n)
    (sum_plus (λ j. sum_below (λ i. in_asks r j ((view k b).to_home j i)) n)
    (λ j. sum_below (λ i. in_forwards r i ((view k b).forwards j i)) n) n)

-- 3. Of a picture

-- the queue has a request of each node once
queue_one : (r : ℕ) (q : List (ℕ × Need)) → Once q → asked_by r q ≡ one_if (has_from r q)
queue_one r [] once = refl
queue_one r (x ∷ q) once =
    let rest = queue_one r q once.1 in
    elim (eqb_tells x.0 r) [
      | inl e ↦ (let t : eqb r x.0 ≡ true = grind (arith, nat_tests, e.1) in
          let gone : has_from r q ≡ false = subst (λ z. has_from z q ≡ false) e.1 once.0 in
          let none : asked_by r q ≡ 0 = rest ∙ ap one_if gone in
          rw (e.0, t) (omega (arith, none)))
      | inr e ↦ (let t : eqb r x.0 ≡ false = grind (arith, nat_tests, e.1) in rw (e.0, t) (omega (arith, rest)))
    ]

abbrev asks_of : Bool → Option Need → ℕ
asks_of queued None = 0
asks_of queued (Some need) = cond queued 0 1

either_none : (t : Bool) → cond t zero zero ≡ zero
either_none true = refl
either_none false = refl

either_one : (t : Bool) → one_if t + zero ≡ cond t 1 0
either_one true = refl
either_one false = refl

ask_part : (r j : ℕ) (queued : Bool) (o : Option Need)
    → in_asks r j (ask_in queued o) ≡ cond (eqb j r) (asks_of queued o) 0
ask_part r j queued None = sym (either_none (eqb j r))
ask_part r j true (Some need) = sym (either_none (eqb j r))
ask_part r j false (Some need) = either_one (eqb j r)

done_part : (r j : ℕ) (t : Bool) (ms : List HomeMessage)
    → in_asks r j (cond t (Done ∷ []) [] ++ ms) ≡ in_asks r j ms
done_part r j true ms = refl
done_part r j false ms = refl

home_part : (p : Picture) (f : Phase) (r j : ℕ) → in_asks r j (to_home_in p f j)
    ≡ cond (eqb j r) (asks_of (has_from j p.queue) (p.requests j)) 0
home_part p Idle r j = ask_part r j (has_from j p.queue) (p.requests j)
home_part p (ReadOpen q sent) r j = ask_part r j (has_from j p.queue) (p.requests j)
home_part p (WriteOpen up q place k c flight) r j = ask_part r j (has_from j p.queue) (p.requests j)
home_part p (ReadDone q) r j =
    done_part r j (eqb j q) (ask_in (has_from j p.queue) (p.requests j))
    ∙ ask_part r j (has_from j p.queue) (p.requests j)
home_part p (WriteDone q) r j =
    done_part r j (eqb j q) (ask_in (has_from j p.queue) (p.requests j))
    ∙ ask_part r j (has_from j p.queue) (p.requests j)

-- the open transaction of r, by where its buffer is
abbrev forward_of : ℕ → Phase → ℕ
forward_of r Idle = 0
forward_of r (ReadOpen q sent) = one_if (not sent && eqb q r)
forward_of r (WriteOpen up q place k c flight) = one_if (is_in_forward place && eqb q r)
forward_of r other = 0

abbrev response_of : ℕ → Phase → ℕ
response_of r Idle = 0
response_of r (ReadOpen q sent) = one_if (sent && eqb q r)
response_of r (WriteOpen up q place k c flight) = one_if (is_in_data place && eqb q r)
response_of r other = 0

one_forward : (up : Bool) (q k r i : ℕ) → (up ≡ true → i ≡ q)
    → in_forwards r i (write_forward up q k ∷ []) ≡ one_if (eqb q r)
one_forward true q k r i at = subst (λ z. one_if (eqb z r) + 0 ≡ one_if (eqb q r)) (sym (at refl)) (omega arith)
one_forward false q k r i at = omega arith

module _ {C : Type 0} (n h : ℕ) (home : h < n) (p : Picture) (m : C) (r : ℕ) (node : r < n) where
  asks_total : (f : Phase) → pairs (λ j i. in_asks r j (cond (eqb i h) (to_home_in p f j) [])) n
      ≡ asks_of (has_from r p.queue) (p.requests r)
  asks_total f =
      pairs_one (λ j i. in_asks r j (cond (eqb i h) (to_home_in p f j) [])) n r h node home
      (λ j i o. elim (eqb_tells i h) [
        | inl e ↦ rw e.0 (home_part p f r j
            ∙ (let t : eqb j r ≡ false = grind (arith, nat_tests, o) in rw t refl))
        | inr e ↦ rw e.0 refl
      ])
      (λ j i o. let t : eqb i h ≡ false = grind (arith, nat_tests, o) in rw t refl)
      ∙ (let t : eqb h h ≡ true = grind (arith, nat_tests) in
      let u : eqb r r ≡ true = grind (arith, nat_tests) in
      rw t (home_part p f r r ∙ rw u refl))

  module _ (f : Phase) (w : WellFormed n p f) where
    owner_below : p.owner < n
    owner_below = w.directory.shares_below p.owner w.directory.owner_shares

  no_forwards : pairs (λ j i. in_forwards r i (cond (eqb j h) [] [])) n ≡ 0
  no_forwards = pairs_none (λ j i. in_forwards r i (cond (eqb j h) [] [])) n
      (λ j i. elim (eqb j h) as (λ t. in_forwards r i (cond t [] []) ≡ 0) [ true ↦ refl | false ↦ refl ])

  forwards_total : (f : Phase) → WellFormed n p f
      → pairs (λ j i. in_forwards r i (cond (eqb j h) (forwards_in p f i) [])) n ≡ forward_of r f
  forwards_total Idle w = no_forwards
  forwards_total (ReadOpen q sent) w =
      pairs_one (λ j i. in_forwards r i
      (cond (eqb j h) (cond (eqb i p.owner && not sent) (FwdRead q ∷ []) []) [])) n h p.owner home
      (owner_below (ReadOpen q sent) w)
      (λ j i o. let t : eqb j h ≡ false = grind (arith, nat_tests, o) in rw t refl)
      (λ j i o. let t : eqb i p.owner ≡ false = grind (arith, nat_tests, o) in rw t
      (elim (eqb j h) as (λ z. in_forwards r i (cond z [] []) ≡ 0) [ true ↦ refl | false ↦ refl ]))
      ∙ (let t : eqb h h ≡ true = grind (arith, nat_tests) in
      let u : eqb p.owner p.owner ≡ true = grind (arith, nat_tests) in
      rw (t, u) (elim sent as (λ z. in_forwards r p.owner (cond (not z) (FwdRead q ∷ []) [])
      ≡ one_if (not z && eqb q r)) [ true ↦ refl | false ↦ omega arith ]))
  forwards_total (WriteOpen up q place k c flight) w =
      let b = target p up q in
      let below : b < n = elim up as (λ z. cond z q p.owner < n) [
        | true ↦ w.phase.0.node
        | false ↦ owner_below (WriteOpen up q place k c flight) w
      ] in
      pairs_one (λ j i. in_forwards r i (cond (eqb j h) (cond (has_inval (flight i)) (Inval q ∷ [])
      (cond (eqb i b && is_in_forward place) (write_forward up q k ∷ []) [])) [])) n h b home below
      (λ j i o. let t : eqb j h ≡ false = grind (arith, nat_tests, o) in rw t refl)
      (λ j i o. let t : eqb i b ≡ false = grind (arith, nat_tests, o) in
      rw t (nothing_else (eqb j h) (has_inval (flight i)) q i))
      ∙ (let t : eqb h h ≡ true = grind (arith, nat_tests) in
      let u : eqb b b ≡ true = grind (arith, nat_tests) in
      let none : has_inval (flight b) ≡ false = not_inval (flight b) refl in
      rw (t, u, none) (elim (is_in_forward place)
      as (λ z. in_forwards r b (cond z (write_forward up q k ∷ []) []) ≡ one_if (z && eqb q r)) [
        | true ↦ one_forward up q k r b (λ e. ap (λ z. cond z q p.owner) e)
        | false ↦ refl
      ]))
    where
      nothing_else : (z y : Bool) (q i : ℕ)
          → in_forwards r i (cond z (cond y (Inval q ∷ []) []) []) ≡ 0
      nothing_else true true q i = refl
      nothing_else true false q i = refl
      nothing_else false y q i = refl

      not_inval : (g : Flight) → flight (target p up q) ≡ g → has_inval g ≡ false
      not_inval InvalFlight is = absurd (w.phase.0.out_other (target p up q) (ap is_out is) refl)
      not_inval other is = refl
  forwards_total (ReadDone q) w = no_forwards
  forwards_total (WriteDone q) w = no_forwards

  no_responses : pairs (λ j i. in_responses {C = C} r i []) n ≡ 0
  no_responses = pairs_none (λ j i. in_responses {C = C} r i []) n (λ j i. refl)

  responses_total : (f : Phase) → WellFormed n p f
      → pairs (λ j i. in_responses r i (responses_in m p f j i)) n ≡ response_of r f
  responses_total Idle w = no_responses
  responses_total (ReadOpen q sent) w =
      pairs_one (λ j i. in_responses r i
      (cond (eqb i q) (cond (eqb j p.owner && sent) (Data 0 m ∷ []) []) [])) n p.owner q
      (owner_below (ReadOpen q sent) w) w.phase.node
      (λ j i o. let t : eqb j p.owner ≡ false = grind (arith, nat_tests, o) in rw t
      (elim (eqb i q) as (λ z. in_responses {C = C} r i (cond z [] []) ≡ 0) [ true ↦ refl | false ↦ refl ]))
      (λ j i o. let t : eqb i q ≡ false = grind (arith, nat_tests, o) in rw t refl)
      ∙ (let t : eqb q q ≡ true = grind (arith, nat_tests) in
      let u : eqb p.owner p.owner ≡ true = grind (arith, nat_tests) in
      rw (t, u) (elim sent as (λ z. in_responses r q (cond z (Data 0 m ∷ []) [])
      ≡ one_if (z && eqb q r)) [ true ↦ omega arith | false ↦ refl ]))
  responses_total (WriteOpen up q place k c flight) w =
      pairs_one (λ j i. in_responses r i (cond (eqb i q) (cond (has_ack (flight j)) (Ack ∷ [])
      (cond (eqb j p.owner && is_in_data place) (Data k m ∷ []) [])) [])) n p.owner q
      (owner_below (WriteOpen up q place k c flight) w) w.phase.0.node
      (λ j i o. let t : eqb j p.owner ≡ false = grind (arith, nat_tests, o) in
      rw t (nothing_else (eqb i q) (has_ack (flight j)) i))
      (λ j i o. let t : eqb i q ≡ false = grind (arith, nat_tests, o) in rw t refl)
      ∙ (let t : eqb q q ≡ true = grind (arith, nat_tests) in
      let u : eqb p.owner p.owner ≡ true = grind (arith, nat_tests) in
      rw (t, u) (at_owner up refl (flight p.owner) refl))
    where
      nothing_else : (z y : Bool) (i : ℕ)
          → in_responses {C = C} r i (cond z (cond y (Ack ∷ []) []) []) ≡ 0
      nothing_else true true i = refl
      nothing_else true false i = refl
      nothing_else false y i = refl

      by_place : (z : Bool) → in_responses r q (cond z (Data k m ∷ []) []) ≡ one_if (z && eqb q r)
      by_place true = omega arith
      by_place false = refl

      at_owner : (u : Bool) → up ≡ u → (g : Flight) → flight p.owner ≡ g
          → in_responses r q (cond (has_ack g) (Ack ∷ []) (cond (is_in_data place) (Data k m ∷ []) []))
          ≡ one_if (is_in_data place && eqb q r)
      at_owner true e AckFlight is = (let none = w.phase.0.up_grant e in rw none refl)
      at_owner false e AckFlight is = absurd (w.phase.0.out_other p.owner (ap is_out is)
          (ap (λ z. cond z q p.owner) (sym e)))
      at_owner u e InvalFlight is = by_place (is_in_data place)
      at_owner u e NoFlight is = by_place (is_in_data place)
  responses_total (ReadDone q) w = no_responses
  responses_total (WriteDone q) w = no_responses

  -- what has been asked, and waits or is on its way
  asked_total : (f : Phase) → WellFormed n p f
      → asks_of (has_from r p.queue) (p.requests r) + asked_by r p.queue ≡ one_if (is_some (p.requests r))
  asked_total f w =
      let one = queue_one r p.queue w.directory.once in
      ap (λ z. asks_of (has_from r p.queue) (p.requests r) + z) one
      ∙ both (p.requests r) (has_from r p.queue)
      (asked_of p.requests p.queue r w.directory.queue_asks)
    where
      both : (o : Option Need) (t : Bool) → (t ≡ true → is_some o ≡ true)
          → asks_of t o + one_if t ≡ one_if (is_some o)
      both None true some = absurd (let bad = some refl in cc)
      both None false some = refl
      both (Some need) true some = refl
      both (Some need) false some = refl

  abbrev Waits : Option (Wait C) → ℕ → ℕ → Type 0
  Waits o asked begun = (asked + begun) + one_if (is_answered o) ≡ one_if (not (is_none o))

  only_asked : (o : Option Need) → Waits (wait_for o) (one_if (is_some o)) 0
  only_asked None = refl
  only_asked (Some need) = refl

  waits_total : (f : Phase) → WellFormed n p f
      → Waits (wait_in m p f r) (one_if (is_some (p.requests r))) (forward_of r f + response_of r f)
  waits_total Idle w = only_asked (p.requests r)
  waits_total (ReadOpen q sent) w = elim (eqb_tells r q) [
    | inl e ↦ (let none : p.requests r ≡ None = subst (λ z. p.requests z ≡ None) (sym e.1) w.phase.no_request in
        let t : eqb q r ≡ true = grind (arith, nat_tests, e.1) in
        rw (e.0, t, none) (elim sent as (λ z. (0 + (one_if (not z && true) + one_if (z && true))) + 0 ≡ 1)
        [ true ↦ refl | false ↦ refl ]))
    | inr e ↦ (let t : eqb q r ≡ false = grind (arith, nat_tests, e.1) in
        rw (e.0, t) (elim sent as (λ z. Waits (wait_for (p.requests r)) (one_if (is_some (p.requests r)))
        (one_if (not z && false) + one_if (z && false))) [
          | true ↦ only_asked (p.requests r)
          | false ↦ only_asked (p.requests r)
        ]))
  ]
  waits_total (WriteOpen up q place k c flight) w = elim (eqb_tells r q) [
    | inl e ↦ (let none : p.requests r ≡ None = subst (λ z. p.requests z ≡ None) (sym e.1) w.phase.0.no_request in
        let t : eqb q r ≡ true = grind (arith, nat_tests, e.1) in
        rw (e.0, t, none) (by_place up place))
    | inr e ↦ (let t : eqb q r ≡ false = grind (arith, nat_tests, e.1) in
        rw (e.0, t) (no_place place))
  ]
    where
      by_place : (u : Bool) (a : Place)
          → (0 + (one_if (is_in_forward a && true) + one_if (is_in_data a && true)))
          + one_if (not (is_unanswered (answer_in m u a k))) ≡ 1
      by_place u InForward = refl
      by_place u InData = refl
      by_place true InWait = refl
      by_place false InWait = refl

      no_place : (a : Place) → Waits (wait_for (p.requests r)) (one_if (is_some (p.requests r)))
          (one_if (is_in_forward a && false) + one_if (is_in_data a && false))
      no_place InForward = only_asked (p.requests r)
      no_place other = only_asked (p.requests r)
  waits_total (ReadDone q) w = only_asked (p.requests r)
  waits_total (WriteDone q) w = only_asked (p.requests r)

-- 4. Of a core

pub one_place : {C : Type 0} (s : Setting C) (k : Core C) (r b : ℕ) → s.home b < s.nodes → r < s.nodes
    → HasPicture s.flag s.nodes (s.home b) (view k b)
    → buffer_places s k r b ≡ one_if (not (is_none (k.wait r b)))
one_place s k r b home node has =
    let n = s.nodes in
    let h = s.home b in
    let p = has.0 in
    let f = has.1 in
    let shows = has.2 in
    let w = has.3 in
    let m = k.memory b in
    let classes = all_classes k n r b in
    let asks = pairs_same (λ j i. in_asks r j ((view k b).to_home j i))
    (λ j i. in_asks r j (cond (eqb i h) (to_home_in p f j) [])) n
    (λ j i. ap (in_asks r j) (shows.to_home j i)) ∙ asks_total n h home p m r node f in
    let forwards = pairs_same (λ j i. in_forwards r i ((view k b).forwards j i))
    (λ j i. in_forwards r i (cond (eqb j h) (forwards_in p f i) [])) n
    (λ j i. ap (in_forwards r i) (shows.forwards j i)) ∙ forwards_total n h home p m r node f w in
    let responses = pairs_same (λ j i. in_responses r i ((view k b).responses j i))
    (λ j i. in_responses r i (responses_in m p f j i)) n
    (λ j i. ap (in_responses r i) (shows.responses j i)) ∙ responses_total n h home p m r node f w in
    let asked = asked_total n h home p m r node f w in
    let queue : asked_by r (k.waiting b) ≡ asked_by r p.queue = ap (asked_by r) shows.queue in
    let all = waits_total n h home p m r node f w in
    let answered : one_if (is_answered (k.wait r b)) ≡ one_if (is_answered (wait_in m p f r)) =
    ap (λ o. one_if (is_answered o)) (shows.waits r) in
    let waiting : one_if (not (is_none (k.wait r b))) ≡ one_if (not (is_none (wait_in m p f r))) =
    ap (λ o. one_if (not (is_none o))) (shows.waits r) in
    omega (arith, classes, asks, forwards, responses, asked, queue, all, answered, waiting)
