-- A want and a store are events of the core of blocks.
use Rattle.std.proofs.Common.{◌≡◌, ℕ, zero, suc, ◌+◌, ◌*◌, ◌<◌, ◌≤◌, Bool, true, false, not, cond, eqb, List, [], ◌∷◌, ◌++◌, length, refl, sym, ap, ◌∙◌, subst, inl, inr, Option, Some, None, arith, append-nil}
use Rattle.std.specs.Prelude.{is_some}
use Rattle.std.proofs.lemmas.Bool.Decides.{eqb_tells, nat_tests}
use Rattle.dsm_protocol.proofs.Names.{Shape, blocks, home, first_line, State, Exclusive, Shared, Invalid, Pending, can_write, Buffer, Width, size_of, Need, Message, Wait, count_of, post, meets, state_in_wait, request, first_wait, Miss, want_row, count, World, with_sends, after_miss, Contents, contents, need_of, wait_of, wire_of, wires_of, setting_of, StandsFor, most_waits, IsLaid, IsRoomy, AreSound, HasNoBye, NoByes, Sound, size, pending, Leads, store_bytes, store_in}
use Rattle.home_directory.specs.dsm_messages.declared.messages.Need.TheVariants as want
use Rattle.coherence.specs.Messages as m
use Rattle.coherence.specs.Machine as k
use Rattle.dsm_protocol.specs.Abstraction.{state_of}
use Rattle.message_queues.specs.node_model.miss_handlers.Effects.{block_facts as facts}
use Rattle.dsm_protocol.proofs.Bytes.{store_contents, store_length}
use Rattle.dsm_protocol.proofs.Fits.{wires_append}
use Rattle.dsm_protocol.proofs.Simulation.{at_place}
use Rattle.dsm_protocol.proofs.SoundRows.{sound_append, no_bye_append}
use Rattle.dsm_protocol.proofs.Taking.{steps_more, home_is}

meets_same : (n : Need) (s : State) → meets n s ≡ m.meets (need_of n) (state_of s)
meets_same want.Read Exclusive = refl
meets_same want.Read Shared = refl
meets_same want.Read Invalid = refl
meets_same want.Read Pending = refl
meets_same want.Write Exclusive = refl
meets_same want.Write other = refl

wait_same : (s : State) → m.while_asked (state_of s) ≡ state_of (state_in_wait s)
wait_same Exclusive = refl
wait_same other = refl

request_is : (n : Need) (b : ℕ) (buf : Buffer) → wire_of (request n b buf)
    ≡ record { block = b; body = m.ToHome (m.Ask (need_of n)) } ∷ []
request_is want.Read b buf = refl
request_is want.Write b buf = refl

request_sound : (l : Shape) (n : Need) (b : ℕ) (buf : Buffer) → IsRoomy buf
    → AreSound l (request n b buf ∷ [])
request_sound l want.Read b buf r = (r, tt)
request_sound l want.Write b buf r = (r, tt)

request_no_bye : (n : Need) (b : ℕ) (buf : Buffer) → HasNoBye (request n b buf ∷ [])
request_no_bye want.Read b buf = (refl, tt)
request_no_bye want.Write b buf = (refl, tt)

count_is : (f g : ℕ → Bool) (n : ℕ) → ((b : ℕ) → b < n → f b ≡ g b) → count_of f n ≡ count g n
count_is f g zero h = refl
count_is f g (suc n) h = let e = count_is f g n (λ b l. h b (omega arith)) in let a =
    h n (omega arith) in grind (arith, nat_tests)

some_is : (o : Option Wait) → is_some o ≡ not (m.is_none (wait_of o))
some_is None = refl
some_is (Some w) = refl

pub pending_is : (l : Shape) (first : ℕ → Contents) (w : World) (c : k.Core Contents) (i : ℕ)
    → StandsFor l w c → i < l.nodes → pending l w i ≡ k.waits (setting_of l first) c i
pending_is l first w c i st node =
    count_is (λ b. is_some (w.wait i b)) (λ b. not (m.is_none (c.wait i b))) (blocks l)
    (λ b below. some_is (w.wait i b) ∙ ap (λ z. not (m.is_none z)) (sym (st.wait i b node below)))

lists : (f : ℕ → ℕ → List (k.Wire Contents)) (c : ℕ → ℕ → List Message) (i h b : ℕ)
    (message : Message) (x : k.Wire Contents) (y z : ℕ) → wire_of message ≡ x ∷ [] → f y z
    ≡ wires_of (c y z)
    → k.update2 f i h (f i h ++ x ∷ []) y z ≡ wires_of (with_sends c i (post h message ∷ []) y z)
unfolding k.update2
lists f c i h b message x y z is e = elim (eqb_tells y i) [
  | inl p ↦ elim (eqb_tells z h) [
    | inl q ↦ (let q2 : eqb h z ≡ true = (let q3 = q.1 in grind (arith, nat_tests)) in
        rw (p.0, q.0)
        (rw q2 (ap (λ u. u ++ x ∷ []) (ap (λ u. f u h) (sym p.1) ∙ ap (f y) (sym q.1) ∙ e)
        ∙ sym (wires_append (c y z) (message ∷ []) ∙ ap (λ u. wires_of (c y z) ++ (u ++ [])) is))))
    | inr q ↦ (let q2 : eqb h z ≡ false = (let q3 = q.1 in grind (arith, nat_tests)) in
        rw (p.0, q.0) (rw q2 (e ∙ ap wires_of (sym (append-nil (c y z))))))
  ]
  | inr p ↦ rw p.0 e
]

module _ (l : Shape) (laid : IsLaid l) (first : ℕ → Contents) (es : List (k.Event Contents))
    (w : World) (sound : Sound l w) (st : Leads l first es w) (i b : ℕ) (node : i < l.nodes)
    (block : b < blocks l) where
  abbrev s : k.Setting Contents
  s = setting_of l first

  abbrev c : k.Core Contents
  c = k.after s es

  abbrev miss_of : List ℕ → Need → Buffer → Miss
  miss_of bs need buf = record {
    block = record {
      state = state_in_wait (w.state i b);
      bytes = bs;
      wait = Some (first_wait need);
    };
    post = post (home l b) (request need b buf);
  }

  module _ (bs : List ℕ) (need : Need) (buf : Buffer) (idle : w.wait i b ≡ None)
      (few : pending l w i < most_waits l.nodes) (unmet : meets need (w.state i b) ≡ false)
      (roomy : IsRoomy buf)
    where
      pub may_ask : k.may_want s c i b (need_of need) ≡ true
      may_ask =
          let a = pending_is l first w c i st node in
          let free : m.is_none (c.wait i b) ≡ true =
          ap m.is_none (st.wait i b node block ∙ ap wait_of idle) in
          let u : m.meets (need_of need) (c.state i b)
          ≡ false = ap (m.meets (need_of need)) (st.state i b node block)
          ∙ sym (meets_same need (w.state i b)) ∙ unmet in
          let f : k.waits s c i < most_waits l.nodes = omega arith in grind (arith, nat_tests)

      want_stands : StandsFor l (after_miss w i b (miss_of bs need buf))
          (k.want_in s c i b (need_of need))
      want_stands =
          let h = home_is l b block in
          record {
            owner = st.owner;
            sharers = st.sharers;
            busy = st.busy;
            waiting = st.waiting;
            occupancy = st.occupancy;
            state = λ x d bx bd. at_place state_of c.state w.state i b _ (state_in_wait (w.state i b))
                (ap m.while_asked (st.state i b node block) ∙ wait_same (w.state i b)) x d
                (st.state x d bx bd);
            copy = st.copy;
            wait = λ x d bx bd. at_place wait_of c.wait w.wait i b _ (Some (first_wait need)) refl x d
                (st.wait x d bx bd);
            list = λ x y bx by. subst (λ z. k.update2 c.list i z
                (c.list i z ++ record { block = b; body = m.ToHome (m.Ask (need_of need)) } ∷ []) x y
                ≡ wires_of (with_sends w.list i (post (home l b) (request need b buf) ∷ []) x y))
                (sym h)
                (lists c.list w.list i (home l b) b (request need b buf) _ x y (request_is need b buf)
                (st.list x y bx by));
          }

      want_sound : Sound l (after_miss w i b (miss_of bs need buf))
      want_sound = record {
        messages = λ x y bx by. elim (eqb_tells x i) [
          | inl p ↦ rw p.0 (sound_append l (w.list x y) _ (sound.messages x y bx by)
              (elim (eqb (home l b) y) as (λ t. AreSound l (cond t (request need b buf ∷ []) []))
              [ true ↦ request_sound l need b buf roomy | false ↦ tt ]))
          | inr p ↦ rw p.0 (sound.messages x y bx by)
        ];
        requests = sound.requests;
        bytes = sound.bytes;
        waits = λ x d bx bd. elim (eqb_tells x i) [
          | inl p ↦ elim (eqb_tells d b) [
            | inl q ↦
                rw (p.0, q.0) (λ v n z e a. absurd (let g : first_wait need
                ≡ v = cc in let h = ap (λ (u : Wait). u.answer) g ∙ a in cc))
            | inr q ↦
                rw (p.0, q.0) (sound.waits i d node bd)
          ]
          | inr p ↦ rw p.0 (sound.waits x d bx bd)
        ];
      }

      want_no_byes : NoByes l w → NoByes l (after_miss w i b (miss_of bs need buf))
      want_no_byes silent x y bx by = elim (eqb_tells x i) [
        | inl p ↦ rw p.0 (no_bye_append l (w.list x y) _ (silent x y bx by)
            (elim (eqb (home l b) y) as (λ t. HasNoBye (cond t (request need b buf ∷ []) []))
            [ true ↦ request_no_bye need b buf | false ↦ tt ]))
        | inr p ↦ rw p.0 (silent x y bx by)
      ]

      want_by : Leads l first (es ++ k.Want i b (need_of need) ∷ [])
          (after_miss w i b (miss_of bs need buf)) × Sound l (after_miss w i b (miss_of bs need buf))
          × (NoByes l w → NoByes l (after_miss w i b (miss_of bs need buf)))
      want_by = (
        subst (StandsFor l (after_miss w i b (miss_of bs need buf)))
            (sym (steps_more s es (k.Want i b (need_of need)) (k.opening s)
            ∙ ap (λ z. cond z (k.want_in s c i b (need_of need)) c) may_ask)) want_stands,
        want_sound,
        want_no_byes,
      )

  -- a want of a block that doesn't meet the need
  pub want_leads : (bs : List ℕ) (need : Need) (buf : Buffer) (miss : Miss) → w.wait i b ≡ None
      → pending l w i < most_waits l.nodes → IsRoomy buf → want_row (facts l b)
      (record { state = w.state i b; bytes = bs; wait = w.wait i b }) b need buf ≡ Some miss
      → Leads l first (es ++ k.Want i b (need_of need) ∷ []) (after_miss w i b miss)
      × Sound l (after_miss w i b miss) × (NoByes l w → NoByes l (after_miss w i b miss))
  want_leads bs need buf miss idle few roomy row = by_test (meets need (w.state i b)) refl row
    where
      by_test : (t : Bool) → meets need (w.state i b) ≡ t → cond t None (Some (miss_of bs need buf))
          ≡ Some miss → Leads l first (es ++ k.Want i b (need_of need) ∷ []) (after_miss w i b miss)
          × Sound l (after_miss w i b miss) × (NoByes l w → NoByes l (after_miss w i b miss))
      by_test true e r = absurd cc
      by_test false e r = let z : miss_of bs need buf ≡ miss = cc in
          subst (λ (y : Miss). Leads l first (es ++ k.Want i b (need_of need) ∷ [])
          (after_miss w i b y) × Sound l (after_miss w i b y)
          × (NoByes l w → NoByes l (after_miss w i b y))) z (want_by bs need buf idle few e roomy)

  -- a want of a block that meets the need changes nothing
  pub want_met : (need : Need) → meets need (w.state i b) ≡ true
      → Leads l first (es ++ k.Want i b (need_of need) ∷ []) w
  want_met need met =
      let u : m.meets (need_of need) (c.state i b)
      ≡ true = ap (m.meets (need_of need)) (st.state i b node block)
      ∙ sym (meets_same need (w.state i b)) ∙ met in
      let no : k.may_want s c i b (need_of need) ≡ false = grind (arith, nat_tests) in
      subst (StandsFor l w) (sym (steps_more s es (k.Want i b (need_of need)) (k.opening s)
      ∙ ap (λ z. cond z (k.want_in s c i b (need_of need)) c) no)) st

  -- a store to a block that the node may write; `bytes` are the copies afterwards
  module _ (x : Width) (a value : ℕ) (bytes : ℕ → ℕ → List ℕ) (can : can_write (w.state i b) ≡ true)
      (inside : a + size_of x ≤ 64 * first_line l b + size l b)
      (own : bytes i b ≡ store_bytes x a value (64 * first_line l b) (w.bytes i b))
      (others : (y d : ℕ) → y < l.nodes → d < blocks l → (y ≡ i → d ≡ b → ⊥) → bytes y d
      ≡ w.bytes y d) where
    abbrev after_store : World
    after_store = record w { bytes = bytes }

    store_copy : (y d : ℕ) → y < l.nodes → d < blocks l
        → k.update2 c.copy i b (store_in l x a value b (c.copy i b)) y d ≡ contents (bytes y d)
    unfolding k.update2
    store_copy y d by bd = elim (eqb_tells y i) [
      | inl p ↦ elim (eqb_tells d b) [
        | inl q ↦ rw (p.0, q.0) (ap (store_bytes x a value (64 * first_line l b))
            (st.copy i b node block) ∙ store_contents x a value (64 * first_line l b) (w.bytes i b)
            (let e = sound.bytes i b node block in omega arith)
            ∙ ap contents (sym own) ∙ ap (λ z. contents (bytes z b)) (sym p.1)
            ∙ ap (λ z. contents (bytes y z)) (sym q.1))
        | inr q ↦ rw (p.0, q.0) (st.copy y d by bd
            ∙ ap contents (sym (others y d by bd (λ e f. q.1 f))))
      ]
      | inr p ↦ rw p.0 (st.copy y d by bd ∙ ap contents (sym (others y d by bd (λ e f. p.1 e))))
    ]

    can_same : (z : State) → can_write z ≡ m.can_write (state_of z)
    can_same Exclusive = refl
    can_same other = refl

    may_store : m.can_write (c.state i b) ≡ true
    may_store = ap m.can_write (st.state i b node block) ∙ sym (can_same (w.state i b)) ∙ can

    pub store_leads : Leads l first (es ++ k.Store i b (store_in l x a value b) ∷ []) after_store
        × Sound l after_store
    store_leads = (
      subst (StandsFor l after_store) (sym
          (steps_more s es (k.Store i b (store_in l x a value b)) (k.opening s)
          ∙ ap (λ z. cond z (k.store_in s c i b (store_in l x a value b)) c) may_store)) (record {
            owner = st.owner;
            sharers = st.sharers;
            busy = st.busy;
            waiting = st.waiting;
            occupancy = st.occupancy;
            state = st.state;
            copy = store_copy;
            wait = st.wait;
            list = st.list;
          }),
      record {
        messages = sound.messages;
        requests = sound.requests;
        waits = sound.waits;
        bytes = λ y d by bd. elim (eqb_tells y i) [
          | inl p ↦ elim (eqb_tells d b) [
            | inl q ↦ ap (λ z. length (bytes z d)) p.1 ∙ ap (λ z. length (bytes i z)) q.1
                ∙ ap length own ∙ store_length x a value (64 * first_line l b) (w.bytes i b)
                ∙ sound.bytes i b node block ∙ ap (size l) (sym q.1)
            | inr q ↦ ap length (others y d by bd (λ e f. q.1 f)) ∙ sound.bytes y d by bd
          ]
          | inr p ↦ ap length (others y d by bd (λ e f. p.1 e)) ∙ sound.bytes y d by bd
        ];
      },
    )
