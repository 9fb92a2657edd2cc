-- Every event keeps the invariant.
use Rattle.std.proofs.Common.{◌≡◌, ◌≢◌, ℕ, zero, suc, ◌+◌, ◌<◌, ◌≤◌, ltb, length, Bool, true, false, not, cond, eqb, Option, Some, None, List, [], ◌∷◌, ◌++◌, ◌&&◌, ◌⊎◌, inl, inr, sym, refl, ap, ◌∙◌, subst, arith, append-nil}
use Rattle.std.proofs.lemmas.Bool.Decides.{nat_tests, eqb_tells, leb_tells}
use Rattle.coherence.specs.Messages.{Need, Message, ToHome, Forward, Response, HomeMessage, Ask, Done, ForwardMessage, ResponseMessage, Wait, can_write, is_none, meets}
use Rattle.coherence.specs.Table.{Stays, Effect, effect_or, count, sum_below, has_from, home_row, row}
use Rattle.coherence.specs.Machine.{Wire, Core, Setting, Proper, Event, Store, Want, Take, update2, send_all, those_to, waiting_at, local, apply, row_of, take_in, store_in, waits, may_want, want_in, step, steps, opening, after}
use Rattle.coherence.proofs.View.{View, if_to_home, if_forward, if_response, part, sent_part, view, at_node, view_after}
use Rattle.coherence.proofs.Picture.{Idle, Picture, Once, is_some, HasPicture}
use Rattle.coherence.proofs.Counts.{count_same, count_less, count_none, count_fewer}
use Rattle.coherence.proofs.Frame.{Like, part_append, at_own, at_own2, at_other, at_other2, view_own, view_other}
use Rattle.coherence.proofs.Likes.{like_pictured}
use Rattle.coherence.proofs.Keeps.{NoNewWait, Away, some_of, forward_away, response_away, home_keeps}
use Rattle.coherence.proofs.Asks.{asking_view, ask_pictured, asking, asked_of, asked_waits}
use Rattle.coherence.proofs.Forwards.{forward_goes}
use Rattle.coherence.proofs.Responses.{response_goes}
use Rattle.coherence.proofs.Home.{at_home, home_goes, GoesAtHome}
use Rattle.coherence.proofs.Store.{store_view, store_pictured}
use Rattle.coherence.proofs.Room.{has_room, at_most, queue_counted}

-- no message of the block is in flight, and no request waits
pub record Silent {C : Type 0} (v : View C) : Type 0 where
  pub queue : v.queue ≡ []
  pub to_home : (j i : ℕ) → v.to_home j i ≡ []
  pub forwards : (j i : ℕ) → v.forwards j i ≡ []
  pub responses : (j i : ℕ) → v.responses j i ≡ []

pub front_part : {C M : Type 0} (of : Message C → List M) (l : List (Wire C)) (w : Wire C)
    (rest : List (Wire C)) → l ≡ w ∷ rest → part of w.block l ≡ of w.body ++ part of w.block rest
front_part of l w rest e = ap (part of w.block) e ∙ (grind (arith, nat_tests))

-- a part that isn't the message's own
same_part : {M : Type 0} (f : ℕ → ℕ → List M) (j i : ℕ) (rest : List M) (x y : ℕ) → f j i ≡ rest
    → update2 f j i rest x y ≡ f x y
unfolding update2
same_part f j i rest x y e =
    (elim (eqb x j && eqb y i) as (λ t. eqb x j && eqb y i ≡ t → cond t rest (f x y) ≡ f x y) [
      | true ↦ (λ t. let a : j ≡ x = grind (arith, nat_tests) in let b : i
          ≡ y = grind (arith, nat_tests) in sym e ∙ ap (λ z. f z i) a ∙ ap (f x) b)
      | false ↦ (λ t. refl)
    ]) refl

send_like : {M : Type 0} (f g : ℕ → ℕ → List M) (i : ℕ) (ps : List (ℕ × M)) (x y : ℕ) → f x y
    ≡ g x y → send_all f i ps x y ≡ send_all g i ps x y
unfolding send_all
send_like f g i ps x y e = ap (λ z. cond (eqb x i) (z ++ those_to y ps) z) e

parts_like : {C : Type 0} (v : View C) (i : ℕ) (a b : ℕ → ℕ → List HomeMessage)
    (c d : ℕ → ℕ → List ForwardMessage) (f g : ℕ → ℕ → List (ResponseMessage C)) (e : Effect C)
    → ((x y : ℕ) → a x y ≡ b x y) → ((x y : ℕ) → c x y ≡ d x y) → ((x y : ℕ) → f x y ≡ g x y)
    → Like (view_after v i a c f e) (view_after v i b d g e)
parts_like v i a b c d f g e p q r = record {
  owner = refl;
  sharers = refl;
  busy = refl;
  queue = refl;
  state = λ x. refl;
  copy = λ x. refl;
  wait = λ x. refl;
  memory = refl;
  tally = refl;
  to_home = λ x y. send_like a b i (sent_part if_to_home e.sends) x y (p x y);
  forwards = λ x y. send_like c d i (sent_part if_forward e.sends) x y (q x y);
  responses = λ x y. send_like f g i (sent_part if_response e.sends) x y (r x y);
}

module _ {C : Type 0} (s : Setting C) where
  abbrev pub seen : Core C → ℕ → View C
  seen k b = view k b

  abbrev pub pictured : View C → ℕ → Type 0
  pictured v b = HasPicture s.flag s.nodes (s.home b) v

  -- the invariant of all blocks
  pub record Holds (k : Core C) : Type 0 where
    pub pictures : (b : ℕ) → pictured (seen k b) b
    pub counted : (i : ℕ) → k.occupancy i ≡ waiting_at s.home k.waiting s.blocks i
    pub few_waits : (i : ℕ) → waits s k i ≤ s.most
    pub beyond : (b : ℕ) → s.blocks ≤ b → Silent (seen k b)

  silent_like : (u v : View C) → Like u v → Silent v → Silent u
  silent_like u v l q = record {
    queue = l.queue ∙ q.queue;
    to_home = λ j i. l.to_home j i ∙ q.to_home j i;
    forwards = λ j i. l.forwards j i ∙ q.forwards j i;
    responses = λ j i. l.responses j i ∙ q.responses j i;
  }

  module _ (k : Core C) (holds : Holds k) where
    -- a message is about a block
    block_by : (w : Wire C) (j i : ℕ) (rest : List (Wire C)) → k.list j i ≡ w ∷ rest
        → Silent (seen k w.block) → ⊥
    block_by w j i rest e q = by_class w.body refl
      where
        by_class : (m : Message C) → w.body ≡ m → ⊥
        by_class (ToHome m) is = let a = sym (q.to_home j i)
            ∙ front_part if_to_home (k.list j i) w rest e
            ∙ ap (λ z. if_to_home z ++ part if_to_home w.block rest) is in cc
        by_class (Forward m) is = let a = sym (q.forwards j i)
            ∙ front_part if_forward (k.list j i) w rest e
            ∙ ap (λ z. if_forward z ++ part if_forward w.block rest) is in cc
        by_class (Response m) is = let a = sym (q.responses j i)
            ∙ front_part if_response (k.list j i) w rest e
            ∙ ap (λ z. if_response z ++ part if_response w.block rest) is in cc

    below : (w : Wire C) (j i : ℕ) (rest : List (Wire C)) → k.list j i ≡ w ∷ rest
        → w.block < s.blocks
    below w j i rest e = elim (leb_tells s.blocks w.block) [
      | inl p ↦ absurd (block_by w j i rest e (holds.beyond w.block p.1))
      | inr p ↦ omega arith
    ]

module _ {C : Type 0} (s : Setting C) (proper : Proper s) (k : Core C) (holds : Holds s k) where
  abbrev has_wait : ℕ → ℕ → Bool
  has_wait x b = not (is_none (k.wait x b))

  -- the requests for block b that wait at node i
  abbrev here : ℕ → ℕ → List (ℕ × Need)
  here i b = cond (eqb (s.home b) i) (k.waiting b) []

  once_at : (i b : ℕ) → Once (here i b)
  once_at i b =
      let h = holds.pictures b in
      (elim (eqb (s.home b) i) as (λ t. Once (cond t (k.waiting b) [])) [
        | true ↦ subst Once (sym h.2.queue) h.3.directory.once
        | false ↦ tt
      ])

  asked_here : (b x : ℕ) → is_some ((holds.pictures b).0.requests x) ≡ true → (x < s.nodes)
      × (has_wait x b ≡ true)
  asked_here b x some =
      let h = holds.pictures b in
      let o = asked_waits (k.memory b) h.0 h.1 x some in
      let e = h.2.waits x in (
        h.3.directory.requests_below x some,
        (elim (k.wait x b)
            as (λ z. k.wait x b ≡ z → has_wait x b ≡ true) [
              | None ↦ (λ z. absurd (o (sym e ∙ z)))
              | Some w ↦ (λ z. ap (λ y. not (is_none y)) z)
            ]) refl,
      )

  among : (i b x : ℕ) → has_from x (here i b) ≡ true → (x < s.nodes) × (has_wait x b ≡ true)
  among i b x =
      let p = holds.pictures b in
      (elim (eqb (s.home b) i) as (λ t. has_from x (cond t (k.waiting b) []) ≡ true
      → (x < s.nodes) × (has_wait x b ≡ true)) [
        | true ↦ (λ e. asked_here b x (asked_of p.0.requests p.0.queue x p.3.directory.queue_asks
            (ap (has_from x) (sym p.2.queue) ∙ e)))
        | false ↦ (λ e. absurd cc)
      ])

  pub few_requests : (i : ℕ) → (k.occupancy i ≡ waiting_at s.home k.waiting s.blocks i)
      × (k.occupancy i ≤ 32)
  few_requests i =
      let all = holds.counted i in
      let few = at_most has_wait s.nodes s.blocks s.most proper.room holds.few_waits (here i)
      (once_at i) (among i) in
      (all, subst (λ z. z ≤ 32) (sym all) few)

  module _ (i j : ℕ) (w : Wire C) (rest : List (Wire C)) (front : k.list j i ≡ w ∷ rest) where
    abbrev b : ℕ
    b = w.block

    abbrev v : View C
    v = seen s k w.block

    abbrev room : Bool
    room = ltb (k.occupancy i) 32

    block_test : ltb w.block s.blocks ≡ true
    block_test = let l = below s k holds w j i rest front in grind (arith, nat_tests)

    -- a request finds room
    roomy : (need : Need) → w.body ≡ ToHome (Ask need) → room ≡ true
    roomy need is =
        let h = holds.pictures w.block in
        let f : v.to_home j i ≡ Ask need ∷ part if_to_home w.block rest =
        front_part if_to_home (k.list j i) w rest front
        ∙ ap (λ z. if_to_home z ++ part if_to_home w.block rest) is in
        let o = at_home s.flag s.nodes (s.home w.block) v h.0 h.1 j i (Ask need) _ h.2 f in
        let a = asking h.0 h.1 j need _ o.1 in
        let got = asked_here w.block j (ap is_some a.2) in
        let out : has_from j (here i w.block) ≡ false =
        (elim (eqb (s.home w.block) i)
        as (λ t. has_from j (cond t (k.waiting w.block) []) ≡ false) [
          | true ↦ ap (has_from j) h.2.queue ∙ a.1
          | false ↦ refl
        ]) in
        let all = holds.counted i in
        let l = has_room has_wait s.nodes s.blocks s.most proper.room holds.few_waits (here i)
        (once_at i) (among i) w.block j need got.0 (below s k holds w j i rest front) got.1 out in
        let few : k.occupancy i < 32 = omega (arith, all, l) in
        grind (arith, nat_tests)

    abbrev after_take : Effect C → View C
    after_take e = view_after v i (update2 v.to_home j i (part if_to_home w.block rest))
        (update2 v.forwards j i (part if_forward w.block rest))
        (update2 v.responses j i (part if_response w.block rest)) e

    abbrev TakeGoes : Message C → Type 0
    TakeGoes m = (e : Effect C) × (row s.flag s.nodes (s.home w.block) i j room (k.waiting w.block)
        (local k i w.block) m ≡ Some e)
        × pictured s (after_take e) w.block × (e.queueing ≢ Stays → i ≡ s.home w.block)
        × NoNewWait (local k i w.block) e

    to_home_stays : if_to_home w.body ≡ [] → (e : Effect C) → (x y : ℕ)
        → update2 v.to_home j i (part if_to_home w.block rest) x y ≡ v.to_home x y
    to_home_stays n e x y = same_part v.to_home j i (part if_to_home w.block rest) x y
        (front_part if_to_home (k.list j i) w rest front
        ∙ ap (λ z. z ++ part if_to_home w.block rest) n)

    forwards_stay : if_forward w.body ≡ [] → (e : Effect C) → (x y : ℕ)
        → update2 v.forwards j i (part if_forward w.block rest) x y ≡ v.forwards x y
    forwards_stay n e x y = same_part v.forwards j i (part if_forward w.block rest) x y
        (front_part if_forward (k.list j i) w rest front
        ∙ ap (λ z. z ++ part if_forward w.block rest) n)

    responses_stay : if_response w.body ≡ [] → (e : Effect C) → (x y : ℕ)
        → update2 v.responses j i (part if_response w.block rest) x y ≡ v.responses x y
    responses_stay n e x y = same_part v.responses j i (part if_response w.block rest) x y
        (front_part if_response (k.list j i) w rest front
        ∙ ap (λ z. z ++ part if_response w.block rest) n)

    forward_takes : (m : ForwardMessage) → w.body ≡ Forward m → TakeGoes (Forward m)
    forward_takes m is =
        let f : v.forwards j i ≡ m ∷ part if_forward w.block rest =
        front_part if_forward (k.list j i) w rest front
        ∙ ap (λ z. if_forward z ++ part if_forward w.block rest) is in
        let got = forward_goes s.flag s.nodes (s.home w.block) v j i m
        (part if_forward w.block rest) (holds.pictures w.block) f in
        let l = parts_like v i _ v.to_home _ (update2 v.forwards j i (part if_forward w.block rest))
        _ v.responses got.0 (to_home_stays (ap if_to_home is) got.0) (λ x y. refl)
        (responses_stay (ap if_response is) got.0) in
        let away = some_of (Away (at_node v i)) _ got.0 got.1
        (forward_away s.flag s.nodes (s.home w.block) j (at_node v i) m) in (
          got.0,
          got.1,
          like_pictured s.flag s.nodes (s.home w.block) _ _ l got.2,
          (λ o. absurd (o away.1)),
          away.0,
        )

    response_takes : (m : ResponseMessage C) → w.body ≡ Response m → TakeGoes (Response m)
    response_takes m is =
        let f : v.responses j i ≡ m ∷ part if_response w.block rest =
        front_part if_response (k.list j i) w rest front
        ∙ ap (λ z. if_response z ++ part if_response w.block rest) is in
        let got = response_goes s.flag s.nodes (s.home w.block) v j i m
        (part if_response w.block rest) proper.nodes (holds.pictures w.block) f in
        let l = parts_like v i _ v.to_home _ v.forwards _
        (update2 v.responses j i (part if_response w.block rest)) got.0
        (to_home_stays (ap if_to_home is) got.0) (forwards_stay (ap if_forward is) got.0)
        (λ x y. refl) in
        let away = some_of (Away (at_node v i)) _ got.0 got.1
        (response_away (s.home w.block) (at_node v i) m) in (
          got.0,
          got.1,
          like_pictured s.flag s.nodes (s.home w.block) _ _ l got.2,
          (λ o. absurd (o away.1)),
          away.0,
        )

    home_row_if : (h : ℕ) (e : Effect C) (m : HomeMessage) → i ≡ h → j < s.nodes
        → home_row s.nodes j room (k.waiting w.block) (local k h w.block) m ≡ Some e
        → row s.flag s.nodes h i j room (k.waiting w.block) (local k i w.block) (ToHome m) ≡ Some e
    home_row_if h e m is node row_is =
        let t : (eqb h h && ltb j s.nodes) ≡ true = grind (arith, nat_tests) in
        subst (λ z. row s.flag s.nodes h z j room (k.waiting w.block)
        (local k z w.block) (ToHome m) ≡ Some e) (sym is)
        (ap (λ z. cond z (home_row s.nodes j room (k.waiting w.block)
        (local k h w.block) m) None) t ∙ row_is)

    home_by : (m : HomeMessage) → w.body ≡ ToHome m → (i ≡ s.home w.block)
        × GoesAtHome s.flag s.nodes (s.home w.block) v j (part if_to_home w.block rest) room m
    home_by Done is =
        home_goes s.flag s.nodes (s.home w.block) v j i true Done (part if_to_home w.block rest)
        refl (holds.pictures w.block) (front_part if_to_home (k.list j i) w rest front
        ∙ ap (λ z. if_to_home z ++ part if_to_home w.block rest) is)
    home_by (Ask need) is =
        home_goes s.flag s.nodes (s.home w.block) v j i room (Ask need)
        (part if_to_home w.block rest) (roomy need is) (holds.pictures w.block)
        (front_part if_to_home (k.list j i) w rest front
        ∙ ap (λ z. if_to_home z ++ part if_to_home w.block rest) is)

    home_takes : (m : HomeMessage) → w.body ≡ ToHome m → TakeGoes (ToHome m)
    home_takes m is =
        let got = home_by m is in
        let at = got.0 in
        let e : Effect C = got.1.1.0 in
        let l = parts_like v i _ (update2 v.to_home j i (part if_to_home w.block rest)) _ v.forwards
        _ v.responses e
        (λ x y. refl) (forwards_stay (ap if_forward is) e) (responses_stay (ap if_response is) e) in
        let picture : pictured s (view_after v i
        (update2 v.to_home j i (part if_to_home w.block rest)) v.forwards v.responses e) w.block =
        subst (λ z. pictured s (view_after v z
        (update2 v.to_home j z (part if_to_home w.block rest)) v.forwards v.responses e)
        w.block) (sym at) got.1.1.2 in
        let same : NoNewWait (local k (s.home w.block) w.block) e =
        some_of (NoNewWait (local k (s.home w.block) w.block)) _ e got.1.1.1
        (home_keeps (local k (s.home w.block) w.block) s.nodes j room (k.waiting w.block) m) in (
          e,
          home_row_if (s.home w.block) e m at got.1.0 got.1.1.1,
          like_pictured s.flag s.nodes (s.home w.block) _ _ l picture,
          (λ o. at),
          subst (λ z. NoNewWait (local k z w.block) e) (sym at) same,
        )

    by_class : (m : Message C) → w.body ≡ m → TakeGoes m
    by_class (ToHome m) is = home_takes m is
    by_class (Forward m) is = forward_takes m is
    by_class (Response m) is = response_takes m is

    takes : TakeGoes w.body
    takes = by_class w.body refl

    row_is : row_of s k i j w ≡ Some takes.0
    row_is = ap
        (λ z. cond z (row s.flag s.nodes (s.home w.block) i j room (k.waiting w.block)
        (local k i w.block) w.body) None) block_test ∙ takes.1

    -- the message has its row
    pub has_row : (e : Effect C) × (row_of s k i j w ≡ Some e)
    has_row = (takes.0, row_is)

    abbrev next : Core C
    next = apply k j i w.block rest takes.0

    take_pictures : (d : ℕ) → pictured s (seen s next d) d
    take_pictures d = elim (eqb_tells d w.block) [
      | inl e ↦ subst (λ z. pictured s (seen s next z) z) (sym e.1)
          (like_pictured s.flag s.nodes (s.home w.block) _ _
          (view_own k j i w.block rest takes.0) takes.2)
      | inr o ↦ like_pictured s.flag s.nodes (s.home d) _ _
          (view_other k j i w rest takes.0 front d o.1) (holds.pictures d)
    ]

    take_counted : (x : ℕ) → next.occupancy x ≡ waiting_at s.home next.waiting s.blocks x
    take_counted = queue_counted s.home k.waiting k.occupancy s.blocks i w.block
        (below s k holds w j i rest front) holds.counted takes.0.queueing takes.3

    no_more_waits : (x d : ℕ) → not (is_none (update2 k.wait i w.block takes.0.after.wait x d))
        ≡ true → not (is_none (k.wait x d)) ≡ true
    unfolding update2
    no_more_waits x d e =
        (elim (eqb x i && eqb d w.block) as (λ t. eqb x i && eqb d w.block ≡ t
        → not (is_none (cond t takes.0.after.wait (k.wait x d))) ≡ true
        → not (is_none (k.wait x d)) ≡ true) [
          | true ↦ (λ t f. let xi : i ≡ x = grind (arith, nat_tests) in let db : w.block
              ≡ d = grind (arith, nat_tests) in
              subst (λ z. not (is_none (k.wait z d)) ≡ true) xi
              (subst (λ z. not (is_none (k.wait i z)) ≡ true) db
              (by_wait (k.wait i w.block) refl f)))
          | false ↦ (λ t f. f)
        ]) refl e
      where
        by_wait : (o : Option (Wait C)) → k.wait i w.block ≡ o → not (is_none takes.0.after.wait)
            ≡ true → not (is_none (k.wait i w.block)) ≡ true
        by_wait None e f = absurd (let a = takes.4 (ap is_none e) in let c : not true
            ≡ true = ap not (sym a) ∙ f in cc)
        by_wait (Some y) e f = ap (λ z. not (is_none z)) e

    take_few : (x : ℕ) → waits s next x ≤ s.most
    take_few x =
        let more = count_fewer (λ d. not (is_none (next.wait x d)))
        (λ d. not (is_none (k.wait x d))) s.blocks (no_more_waits x) in
        let t = holds.few_waits x in omega arith

    take_beyond : (d : ℕ) → s.blocks ≤ d → Silent (seen s next d)
    take_beyond d far =
        let l = below s k holds w j i rest front in
        let other : d ≢ w.block = (λ e. omega arith) in
        silent_like s _ _ (view_other k j i w rest takes.0 front d other) (holds.beyond d far)

    pub take_holds : Holds s (apply k j i w.block rest
        (effect_or (local k i w.block) (row_of s k i j w)))
    take_holds =
        subst (λ z. Holds s (apply k j i w.block rest (effect_or (local k i w.block) z)))
        (sym row_is) (record {
          pictures = take_pictures;
          counted = take_counted;
          few_waits = take_few;
          beyond = take_beyond;
        })

module _ {C : Type 0} (s : Setting C) (proper : Proper s) where
  take_all : (k : Core C) (i j : ℕ) (l : List (Wire C)) → Holds s k → k.list j i ≡ l
      → Holds s (take_in s k i j l)
  take_all k i j [] holds e = holds
  take_all k i j (w ∷ rest) holds e = take_holds s proper k holds i j w rest e

  store_other : (k : Core C) (i b : ℕ) (write : C → C) (d : ℕ) → d ≢ b
      → Like (view (store_in s k i b write) d) (view k d)
  store_other k i b write d o = record {
    owner = refl;
    sharers = refl;
    busy = refl;
    queue = refl;
    state = λ x. refl;
    copy = λ x. at_other2 k.copy i b (write (k.copy i b)) x d o;
    wait = λ x. refl;
    to_home = λ x y. refl;
    forwards = λ x y. refl;
    responses = λ x y. refl;
    memory = at_other k.memory b (write (k.memory b)) d o;
    tally = refl;
  }

  store_own : (k : Core C) (i b : ℕ) (write : C → C)
      → Like (view (store_in s k i b write) b) (store_view (view k b) i write)
  store_own k i b write = record {
    owner = refl;
    sharers = refl;
    busy = refl;
    queue = refl;
    state = λ x. refl;
    copy = λ x. at_own2 k.copy i b (write (k.copy i b)) x;
    wait = λ x. refl;
    to_home = λ x y. refl;
    forwards = λ x y. refl;
    responses = λ x y. refl;
    memory = at_own k.memory b (write (k.memory b));
    tally = refl;
  }

  store_all : (k : Core C) (i b : ℕ) (write : C → C) → Holds s k → (t : Bool)
      → can_write (k.state i b) ≡ t → Holds s (cond t (store_in s k i b write) k)
  store_all k i b write holds false e = holds
  store_all k i b write holds true e = record {
    pictures = λ d. elim (eqb_tells d b) [
      | inl q ↦ subst (λ z. pictured s (seen s (store_in s k i b write) z) z) (sym q.1)
          (let h = holds.pictures b in like_pictured s.flag s.nodes (s.home b) _ _
          (store_own k i b write)
          (store_pictured s.flag s.nodes (s.home b) (seen s k b) h.0 h.1 h.2 h.3 i write e))
      | inr o ↦ like_pictured s.flag s.nodes (s.home d) _ _
          (store_other k i b write d o.1) (holds.pictures d)
    ];
    counted = holds.counted;
    few_waits = holds.few_waits;
    beyond = λ d far. record {
      queue = (holds.beyond d far).queue;
      to_home = (holds.beyond d far).to_home;
      forwards = (holds.beyond d far).forwards;
      responses = (holds.beyond d far).responses;
    };
  }

  -- one message goes to the end of a list
  sent_other : {M : Type 0} (of : Message C → List M) (l : ℕ → ℕ → List (Wire C)) (i h d : ℕ)
      (w : Wire C) (x y : ℕ) → of w.body ≡ [] ⊎ (d ≢ w.block)
      → part of d (update2 l i h (l i h ++ w ∷ []) x y) ≡ part of d (l x y)
  unfolding update2
  sent_other of l i h d w x y o =
      let a = part_append of d (l i h) (w ∷ []) in
      let z : part of d (w ∷ []) ≡ [] = (let nil = append-nil (of w.body) in
      elim o [ inl p ↦ grind (arith, nat_tests) | inr q ↦ grind (arith, nat_tests) ]) in
      (elim (eqb x i && eqb y h) as (λ t. eqb x i && eqb y h ≡ t
      → part of d (cond t (l i h ++ w ∷ []) (l x y)) ≡ part of d (l x y)) [
        | true ↦ (λ t. let c : i ≡ x = grind (arith, nat_tests) in let e : h
            ≡ y = grind (arith, nat_tests) in
            a ∙ ap (λ u. part of d (l i h) ++ u) z ∙ append-nil (part of d (l i h))
            ∙ ap (λ u. part of d (l u h)) c ∙ ap (λ u. part of d (l x u)) e)
        | false ↦ (λ t. refl)
      ]) refl

  sent_own : (l : ℕ → ℕ → List (Wire C)) (i h b : ℕ) (m : HomeMessage) (x y : ℕ)
      → part if_to_home b (update2 l i h (l i h ++ record { block = b; body = ToHome m } ∷ []) x y)
      ≡ update2 (λ z u. part if_to_home b (l z u)) i h (part if_to_home b (l i h) ++ m ∷ []) x y
  unfolding update2
  sent_own l i h b m x y =
      let a = part_append {C = C} if_to_home b (l i h) (record { block = b; body = ToHome m } ∷ [])
      in
      let z : part {C = C} if_to_home b (record { block = b; body = ToHome m } ∷ [])
      ≡ m ∷ [] = grind (arith, nat_tests) in
      (elim (eqb x i && eqb y h) as
      (λ t. part {C = C} if_to_home b (cond t (l i h ++ record { block = b; body = ToHome m } ∷ [])
      (l x y)) ≡ cond t (part if_to_home b (l i h) ++ m ∷ []) (part if_to_home b (l x y))) [
        | true ↦ (a ∙ ap (λ u. part {C = C} if_to_home b (l i h) ++ u) z)
        | false ↦ refl
      ])

  want_other : (k : Core C) (i b : ℕ) (need : Need) (d : ℕ) → d ≢ b
      → Like (view (want_in s k i b need) d) (view k d)
  want_other k i b need d o = let w : Wire C = record { block = b; body = ToHome (Ask need) } in
      record {
        owner = refl;
        sharers = refl;
        busy = refl;
        queue = refl;
        state = λ x. at_other2 k.state i b _ x d o;
        copy = λ x. refl;
        wait = λ x. at_other2 k.wait i b _ x d o;
        to_home = λ x y. sent_other if_to_home k.list i (s.home b) d w x y (inr o);
        forwards = λ x y. sent_other if_forward k.list i (s.home b) d w x y (inl refl);
        responses = λ x y. sent_other if_response k.list i (s.home b) d w x y (inl refl);
        memory = refl;
        tally = at_other k.tally b _ d o;
      }

  want_own : (k : Core C) (i b : ℕ) (need : Need) → Like (view (want_in s k i b need) b)
      (asking_view (view k b) s.nodes (s.home b) i need)
  want_own k i b need = let w : Wire C = record { block = b; body = ToHome (Ask need) } in record {
    owner = refl;
    sharers = refl;
    busy = refl;
    queue = refl;
    state = λ x. at_own2 k.state i b _ x;
    copy = λ x. refl;
    wait = λ x. at_own2 k.wait i b _ x;
    to_home = λ x y. sent_own k.list i (s.home b) b (Ask need) x y;
    forwards = λ x y. sent_other if_forward k.list i (s.home b) b w x y (inl refl);
    responses = λ x y. sent_other if_response k.list i (s.home b) b w x y (inl refl);
    memory = refl;
    tally = at_own k.tally b _;
  }

  module _ (k : Core C) (i b : ℕ) (need : Need) (holds : Holds s k)
      (may : may_want s k i b need ≡ true) where
    node : i < s.nodes
    node = grind (arith, nat_tests)

    block : b < s.blocks
    block = grind (arith, nat_tests)

    free : k.wait i b ≡ None
    free = grind (arith, nat_tests)

    few : waits s k i < s.most
    few = grind (arith, nat_tests)

    unmet : meets need (k.state i b) ≡ false
    unmet = grind (arith, nat_tests)

    want_few : (x : ℕ) → waits s (want_in s k i b need) x ≤ s.most
    unfolding update2
    want_few x =
        let new : ℕ → ℕ → Bool = λ y d. not (is_none ((want_in s k i b need).wait y d)) in
        let old : ℕ → ℕ → Bool = λ y d. not (is_none (k.wait y d)) in
        elim (eqb_tells x i) [
          | inl e ↦ (let c = count_less (new i) (old i) s.blocks b block (grind (arith, nat_tests))
              (ap (λ z. not (is_none z)) free) (λ d o. grind (arith, nat_tests)) in
              let f = few in subst (λ z. count (new z) s.blocks ≤ s.most) (sym e.1) (omega arith))
          | inr o ↦ (let c = count_same (new x) (old x) s.blocks (λ d l. grind (arith, nat_tests))
              in let t = holds.few_waits x in omega arith)
        ]

    want_holds : Holds s (want_in s k i b need)
    want_holds = record {
      pictures = λ d. elim (eqb_tells d b) [
        | inl q ↦ subst (λ z. pictured s (seen s (want_in s k i b need) z) z) (sym q.1)
            (let h = holds.pictures b in like_pictured s.flag s.nodes (s.home b) _ _
            (want_own k i b need)
            (ask_pictured s.flag s.nodes (s.home b) (seen s k b) h.0 h.1 i need h.2 h.3 node free
            unmet))
        | inr o ↦ like_pictured s.flag s.nodes (s.home d) _ _
            (want_other k i b need d o.1) (holds.pictures d)
      ];
      counted = holds.counted;
      few_waits = want_few;
      beyond = λ d far. silent_like s _ _ (want_other k i b need d
          (λ e. let l = block in omega arith)) (holds.beyond d far);
    }

  want_all : (k : Core C) (i b : ℕ) (need : Need) → Holds s k → (t : Bool) → may_want s k i b need
      ≡ t → Holds s (cond t (want_in s k i b need) k)
  want_all k i b need holds false e = holds
  want_all k i b need holds true e = want_holds k i b need holds e

  pub step_holds : (k : Core C) (e : Event C) → Holds s k → Holds s (step s k e)
  step_holds k (Store i b write) holds = store_all k i b write holds (can_write (k.state i b)) refl
  step_holds k (Want i b need) holds = want_all k i b need holds (may_want s k i b need) refl
  step_holds k (Take i j) holds = take_all k i j (k.list j i) holds refl

  steps_hold : (es : List (Event C)) (k : Core C) → Holds s k → Holds s (steps s k es)
  steps_hold [] k holds = holds
  steps_hold (e ∷ es) k holds = steps_hold es (step s k e) (step_holds k e holds)

  zeros : (n : ℕ) → sum_below (λ x. 0) n ≡ 0
  zeros zero = refl
  zeros (suc n) = let e = zeros n in omega arith

  none_waiting : (i n : ℕ) → waiting_at s.home (λ b. []) n i ≡ 0
  none_waiting i zero = refl
  none_waiting i (suc n) =
      let e = none_waiting i n in
      (elim (eqb (s.home n) i) as (λ t. length {A = ℕ × Need} (cond t [] [])
      + waiting_at s.home (λ b. []) n i ≡ 0) [ true ↦ omega (arith, e) | false ↦ omega (arith, e) ])

  opening_holds : Holds s (opening s)
  opening_holds = record {
    pictures = λ d.
        let p : Picture = record {
          owner = s.home d;
          sharers = λ x. eqb x (s.home d);
          sole = true;
          requests = λ x. None;
          queue = [];
        } in
        let hd = proper.homes d in (
          p,
          Idle,
          record {
            owner = refl;
            sharers = refl;
            busy = refl;
            queue = refl;
            reads = λ x. grind (arith, nat_tests);
            writes = λ x. grind (arith, nat_tests);
            copies = λ x. refl;
            waits = λ x. refl;
            to_home = λ x y. grind (arith, nat_tests);
            forwards = λ x y. grind (arith, nat_tests);
            responses = λ x y. refl;
            takes = (let z = zeros s.nodes in omega arith);
            sends = (let z = zeros s.nodes in omega arith);
            cost = tt;
          },
          record {
            directory = record {
              owner_shares = grind (arith, nat_tests);
              shares_below = λ x e. grind (arith, nat_tests);
              requests_below = λ x e. absurd cc;
              sole_is = λ e x a. grind (arith, nat_tests);
              queue_asks = tt;
              once = tt;
            };
            asks = record { reads = λ x e. absurd cc; writes = λ x e. absurd cc };
            phase = refl;
          },
        );
    counted = λ i. sym (none_waiting i s.blocks);
    few_waits = λ i. (let e = count_none (λ b. false) s.blocks (λ x l. refl) in omega arith);
    beyond = λ b far. record {
      queue = refl;
      to_home = λ j i. refl;
      forwards = λ j i. refl;
      responses = λ j i. refl;
    };
  }

  pub list_holds : (es : List (Event C)) → Holds s (after s es)
  list_holds es = steps_hold es (opening s) opening_holds
