-- The protocol's side of a composition with nodes that run code: what holds of the nodes and lists,
-- and what each event leaves.
use Rattle.std.proofs.Common.{◌≡◌, ◌≢◌, ℕ, ◌+◌, ◌-◌, ◌*◌, ◌/◌, ◌%◌, ◌^◌, ◌<◌, ◌≤◌, Bool, true, false, not, cond, eqb, leb, ltb, ◌&&◌, ◌||◌, ◌⊎◌, List, [], ◌∷◌, ◌++◌, length, get_or, drop, append-nil, length-append, refl, sym, ap, ◌∙◌, subst, inl, inr, Option, Some, None, arith}
use Rattle.std.proofs.lemmas.Bool.Decides.{eqb_tells, nat_tests}
use Rattle.dsm_protocol.proofs.Names.{Width, size_of, is_aligned, stored, Shape, IsValid, blocks, home, first_line, block_of, changed, Buffer, State, Exclusive, Shared, can_read, can_write, bytes_from, flags, Need, Message, Read, Write, FwdRead, FwdWrite, Inval, Data, Grant, Ack, Done, Bye, Post, Wait, meets, state_in_wait, request, first_wait, Miss, want_row, post, Row, AtHome, AtNode, taker_in, is_bye, update, World, local_block, messages_to, after_miss, page, Contents, contents, need_of, wait_of, wire_of, wires_of, setting_of, most_waits, IsLaid, IsRoomy, IsSound, AreSound, size, row_of, after_row, sends_in, pending, address_of, memory_at, byte_in, store_in, HoldsBy, Holds, Opens, after_store, SameBut, wanted, AfterWant, NoneIs, AreByes, AfterTake, after_bye, after_byes, AreSettled, has_message}
use Rattle.home_directory.specs.dsm_messages.declared.messages.Need.TheVariants as want
use Rattle.message_queues.specs.node_model.miss_handlers.Effects.{block_facts as facts}
use Rattle.coherence.specs.Messages as m
use Rattle.coherence.specs.Machine as k
use Rattle.coherence.specs.Claims as claims
use Rattle.coherence.proofs.Theorem.{all_coherent, all_one_writer, all_rows, all_moves, all_settles, all_takers, all_few_waits, all_waiters}
use Rattle.dsm_protocol.proofs.Bytes.{store_get, contents_get}
use Rattle.dsm_protocol.proofs.Openings.{LineLaws, contents_in, world_opens, get_from, len_from}
use Rattle.dsm_protocol.proofs.Alike.{Alike, alike_stands, alike_sound}
use Rattle.dsm_protocol.proofs.Promised.{proper, reads_memory, one_writer, flagged_lines, some_waits, write_same}
use Rattle.dsm_protocol.proofs.Stores.{fits_line, stored_at, misses}
use Rattle.dsm_protocol.proofs.Fits.{wires_append}
use Rattle.dsm_protocol.proofs.SoundRows.{SoundPosts, IsAbout, sound_append}
use Rattle.dsm_protocol.proofs.Taking.{IsRowOf, steps_more, take_leads}
use Rattle.dsm_protocol.proofs.Wanting.{pending_is, may_ask, want_leads, store_leads}
use Rattle.dsm_protocol.proofs.RowFacts.{RowFacts, row_facts}

-- 1. Memory, and places

-- what a list of events leaves of memory, by its last
want_memory : (s : k.Setting Contents) (es : List (k.Event Contents)) (i b : ℕ) (need : m.Need)
    → (k.after s (es ++ k.Want i b need ∷ [])).memory ≡ (k.after s es).memory
want_memory s es i b need =
    let c = k.after s es in
    ap (λ (z : k.Core Contents). z.memory) (steps_more s es (k.Want i b need) (k.opening s))
    ∙ (elim (k.may_want s c i b need)
    as (λ t. (cond t (k.want_in s c i b need) c).memory ≡ c.memory) [ true ↦ refl | false ↦ refl ])

take_memory : (s : k.Setting Contents) (es : List (k.Event Contents)) (i j : ℕ)
    → (k.after s (es ++ k.Take i j ∷ [])).memory ≡ (k.after s es).memory
take_memory s es i j =
    let c = k.after s es in
    ap (λ (z : k.Core Contents). z.memory) (steps_more s es (k.Take i j) (k.opening s))
    ∙ go c (c.list j i)
  where
    go : (c : k.Core Contents) (ws : List (k.Wire Contents)) → (k.take_in s c i j ws).memory
        ≡ c.memory
    go c [] = refl
    go c (x ∷ xs) = refl

store_memory : (s : k.Setting Contents) (es : List (k.Event Contents)) (i b : ℕ)
    (write : Contents → Contents) → m.can_write ((k.after s es).state i b) ≡ true → (d : ℕ)
    → (k.after s (es ++ k.Store i b write ∷ [])).memory d
    ≡ cond (eqb d b) (write ((k.after s es).memory b)) ((k.after s es).memory d)
unfolding update
store_memory s es i b write can d =
    let c = k.after s es in
    ap (λ (z : k.Core Contents). z.memory d) (steps_more s es (k.Store i b write) (k.opening s))
    ∙ ap (λ t. (cond t (k.store_in s c i b write) c).memory d) can

-- a place changed
place_own : {A : Type 0} (c : ℕ → ℕ → A) (i b : ℕ) (v : A) → changed c i (changed (c i) b v) i b ≡ v
place_own c i b v =
    let p : eqb i i ≡ true = grind (arith, nat_tests) in
    let q : eqb b b ≡ true = grind (arith, nat_tests) in rw (p, q) refl

place_other : {A : Type 0} (c : ℕ → ℕ → A) (i b : ℕ) (v : A)
    → SameBut i b c (changed c i (changed (c i) b v))
place_other c i b v x d o = elim (eqb_tells x i) [
  | inl p ↦ elim (eqb_tells d b) [
    | inl q ↦ absurd (o p.1 q.1)
    | inr q ↦ rw (p.0, q.0) (ap (λ z. c z d) (sym p.1))
  ]
  | inr p ↦ rw p.0 refl
]

place_node : {A : Type 0} (c : ℕ → ℕ → A) (i b : ℕ) (v : A) (d : ℕ) → d ≢ b
    → changed c i (changed (c i) b v) i d ≡ c i d
place_node c i b v d o = place_other c i b v i d (λ e f. o f)

writes_in_wait : (s : State) → can_write s ≡ true → can_write (state_in_wait s) ≡ true
writes_in_wait Exclusive e = refl
writes_in_wait other e = absurd cc

reads_in_wait : (s : State) → can_read s ≡ true → can_read (state_in_wait s) ≡ true
reads_in_wait Exclusive e = refl
reads_in_wait Shared e = refl
reads_in_wait other e = absurd cc

writes_read : (s : m.State) → m.can_write s ≡ true → m.can_read s ≡ true
writes_read m.Exclusive e = refl
writes_read other e = absurd cc

-- 2. Byes stand for nothing

bye_wire : (message : Message) → is_bye message ≡ true → wire_of message ≡ []
bye_wire Bye e = refl
bye_wire other e = absurd cc

only_byes : (ms : List Message) → has_message ms ≡ false → wires_of ms ≡ []
only_byes [] e = refl
only_byes (x ∷ xs) e = (elim (is_bye x)
    as (λ t. is_bye x ≡ t → (not t || has_message xs) ≡ false → wire_of x ++ wires_of xs ≡ []) [
      | true ↦ (λ t f. ap (λ z. z ++ wires_of xs) (bye_wire x t) ∙ only_byes xs f)
      | false ↦ (λ t f. absurd cc)
    ]) refl e

done_only : (ms : List Message) → ((b : ℕ) → claims.AreDones b (wires_of ms)) → AreSettled ms
done_only [] f = tt
done_only (Done b ∷ ms) f = (refl, done_only ms (λ d. (f d).1))
done_only (Bye ∷ ms) f = (refl, done_only ms f)
done_only (Read b buf ∷ ms) f = absurd (let z = (f b).0 refl in cc)
done_only (Write b buf ∷ ms) f = absurd (let z = (f b).0 refl in cc)
done_only (FwdRead b r buf ∷ ms) f = absurd (let z = (f b).0 refl in cc)
done_only (FwdWrite b r n buf ∷ ms) f = absurd (let z = (f b).0 refl in cc)
done_only (Inval b r ∷ ms) f = absurd (let z = (f b).0 refl in cc)
done_only (Data b n buf ∷ ms) f = absurd (let z = (f b).0 refl in cc)
done_only (Grant b n buf ∷ ms) f = absurd (let z = (f b).0 refl in cc)
done_only (Ack b ∷ ms) f = absurd (let z = (f b).0 refl in cc)

byes_to : (y : ℕ) (byes : List Post) → AreByes byes → wires_of (messages_to y byes) ≡ []
byes_to y [] a = refl
byes_to y (p ∷ ps) a = (elim (eqb p.to y)
    as (λ t. wires_of (cond t (p.message ∷ messages_to y ps) (messages_to y ps)) ≡ []) [
      | true ↦ ap (λ z. z ++ wires_of (messages_to y ps)) (bye_wire p.message a.0)
          ∙ byes_to y ps a.1
      | false ↦ byes_to y ps a.1
    ])

bye_sound : (l : Shape) (message : Message) → is_bye message ≡ true → IsSound l message
bye_sound l Bye e = tt
bye_sound l (Read b buf) e = absurd cc
bye_sound l (Write b buf) e = absurd cc
bye_sound l (FwdRead b r buf) e = absurd cc
bye_sound l (FwdWrite b r n buf) e = absurd cc
bye_sound l (Inval b r) e = tt
bye_sound l (Data b n buf) e = absurd cc
bye_sound l (Grant b n buf) e = absurd cc
bye_sound l other e = tt

sound_byes : (l : Shape) (y : ℕ) (byes : List Post) → AreByes byes → AreSound l (messages_to y byes)
sound_byes l y [] a = tt
sound_byes l y (p ∷ ps) a = (elim (eqb p.to y)
    as (λ t. AreSound l (cond t (p.message ∷ messages_to y ps) (messages_to y ps))) [
      | true ↦ (bye_sound l p.message a.0, sound_byes l y ps a.1)
      | false ↦ sound_byes l y ps a.1
    ])

no_byes : (l : Shape) (posts : List Post) → SoundPosts l posts → NoneIs is_bye posts
no_byes l [] s = tt
no_byes l (p ∷ ps) s = (s.0.1, no_byes l ps s.1)

-- 3. Waits

need_write : (n : Need) → need_of n ≡ m.Write → n ≡ want.Write
need_write want.Write e = refl
need_write want.Read e = absurd cc

wants_write : (o : Option Wait) (y : m.Wait Contents) → wait_of o ≡ Some y → y.need ≡ m.Write
    → wanted o ≡ Some want.Write
wants_write None y e n = absurd cc
wants_write (Some x) y e n = ap (λ z. Some z) (need_write x.need (ap (λ o. need_in o) e ∙ n))
  where
    need_in : Option (m.Wait Contents) → m.Need
    need_in None = m.Read
    need_in (Some z) = z.need

still_wanted : (o : Option Wait) (need : Need) → wanted o ≡ Some need → o ≡ None → ⊥
still_wanted None need e gone = absurd cc
still_wanted (Some x) need e gone = absurd cc

module _ (laws : LineLaws) (l : Shape) (valid : IsValid l) (laid : IsLaid l) where
  -- an address of a block is inside it
  inside : (a b : ℕ) → block_of l (a / 64) ≡ Some b → (b < blocks l) × (address_of l b ≤ a)
      × (a - address_of l b < size l b)
  inside a b at =
      let f = laws.found l b (a / 64) valid at in
      let e = (laws.ends l b (a / 64)).0 f.1 in
      let low = e.0 in let high = e.1 in (f.0, omega arith, omega arith)

  byte_is : (memory : ℕ → Contents) (a b : ℕ) → block_of l (a / 64) ≡ Some b
      → memory_at l memory a ≡ get_or (memory b) (a - address_of l b) 0
  byte_is memory a b at = ap (byte_in l memory a) at

  -- the start
  pub opens : (first : ℕ → ℕ) (w : World) → Opens l first w
      → HoldsBy l (contents_in l first) [] w first
  opens first w o =
      let got = world_opens l first w laid o in
      record {
        sound = got.1;
        leads = got.0;
        same = λ a b at.
            let z = inside a b at in
            let n = a - address_of l b in
            let low = z.1 in
            let high = z.2 in
            let len = len_from first (address_of l b) (size l b) in
            sym (byte_is (contents_in l first) a b at
            ∙ contents_get (bytes_from first (address_of l b) (size l b)) n (omega arith)
            ∙ get_from first (address_of l b) (size l b) n high ∙ ap first (omega arith));
      }

  -- only nodes and blocks of the layout, and addresses of blocks, are seen
  pub like : (w v : World) (memory : ℕ → ℕ) → Alike l w v → (h : Holds l w memory)
      → HoldsBy l h.first h.events v memory
  like w v memory alike h = record {
    sound = alike_sound l w v alike h.by.sound;
    leads = alike_stands l laid w v _ alike h.by.leads;
    same = h.by.same;
  }

  module _ (w : World) (memory : ℕ → ℕ) (h : Holds l w memory) where
    abbrev s : k.Setting Contents
    s = setting_of l h.first

    abbrev c : k.Core Contents
    c = k.after s h.events

    p : k.Proper s
    p = proper l laid h.first

    -- a readable byte is the memory's
    pub coherent : (i a b : ℕ) → i < l.nodes → block_of l (a / 64) ≡ Some b
        → can_read (w.state i b) ≡ true → get_or (w.bytes i b) (a - address_of l b) 0 ≡ memory a
    coherent i a b bi at can =
        let z = inside a b at in
        reads_memory l laid h.first h.events w h.by.sound h.by.leads
        (all_coherent Contents s p h.events) i b (a - address_of l b) bi z.0 can z.2
        ∙ sym (h.by.same a b at ∙ byte_is c.memory a b at)

    -- a block that is writable at a node is readable at no other
    pub alone : (i x b : ℕ) → i < l.nodes → x < l.nodes → b < blocks l
        → can_write (w.state i b) ≡ true → can_read (w.state x b) ≡ true → x ≡ i
    alone = one_writer l laid h.first h.events w h.by.sound h.by.leads
        (all_one_writer Contents s p h.events)

    -- a block that isn't readable is flagged
    pub flagged : (i b : ℕ) → i < l.nodes → b < blocks l → can_read (w.state i b) ≡ false
        → w.bytes i b ≡ flags (size l b)
    flagged = flagged_lines l laid h.first h.events w h.by.sound h.by.leads
        (all_coherent Contents s p h.events)

    -- a store to a block that the node may write
    module _ (i b : ℕ) (x : Width) (a v : ℕ) (bi : i < l.nodes) (aligned : is_aligned x a ≡ true)
        (at : block_of l (a / 64) ≡ Some b) (can : can_write (w.state i b) ≡ true) where
      abbrev write : Contents → Contents
      write = store_in l x a v b

      may_store : m.can_write (c.state i b) ≡ true
      may_store = ap m.can_write (h.by.leads.state i b bi (inside a b at).0)
          ∙ write_same (w.state i b) ∙ can

      memory_is : c.memory b ≡ contents (w.bytes i b)
      memory_is =
          let reads : m.can_read (c.state i b) ≡ true = writes_read (c.state i b) may_store in
          sym ((all_coherent Contents s p h.events).reads i b reads)
          ∙ h.by.leads.copy i b bi (inside a b at).0

      abbrev hit : ℕ → Bool
      hit y = leb a y && ltb y (a + size_of x)

      stored_same : (y d : ℕ) → block_of l (y / 64) ≡ Some d → stored x memory a v y
          ≡ get_or (cond (eqb d b) (write (c.memory b)) (c.memory d)) (y - address_of l d) 0
      stored_same y d there = elim (eqb_tells d b) [
        | inl q ↦ rw q.0
            (let here : block_of l (y / 64) ≡ Some b = there ∙ ap (λ z. Some z) q.1 in
            let z = inside y b here in
            let n = y - address_of l b in
            let low = z.1 in
            let high = z.2 in
            let len = h.by.sound.bytes i b bi z.0 in
            let more = length-append (w.bytes i b) (drop (length (w.bytes i b)) (flags page)) in
            let full : length (c.memory b) ≡ length (contents (w.bytes i b)) = ap length memory_is
            in
            let y_is : address_of l b + n ≡ y = omega arith in
            let own : get_or (c.memory b) n 0 ≡ memory y = sym (h.by.same y b here
            ∙ byte_is c.memory y b here) in
            stored_at x memory a v y
            ∙ ap (λ u. cond (hit y) (v / 2 ^ (8 * (y - a)) % 2 ^ 8) u) (sym own)
            ∙ ap (λ u. cond (hit u) (v / 2 ^ (8 * (u - a)) % 2 ^ 8) (get_or (c.memory b) n 0))
            (sym y_is) ∙ sym (store_get x a v (address_of l b) (c.memory b) n (omega arith))
            ∙ ap (λ u. get_or (write (c.memory b)) (y - address_of l u) 0) (sym q.1))
        | inr q ↦ rw q.0 (stored_at x memory a v y
            ∙ ap (λ t. cond t (v / 2 ^ (8 * (y - a)) % 2 ^ 8) (memory y))
            (misses l x a aligned b y d at there q.1)
            ∙ h.by.same y d there ∙ byte_is c.memory y d there)
      ]

      fit : a + size_of x ≤ 64 * first_line l b + size l b
      fit =
          let f = laws.found l b (a / 64) valid at in
          let e = (laws.ends l b (a / 64)).0 f.1 in
          let low = e.0 in let high = e.1 in let g = fits_line x a aligned in omega arith

      pub stores : HoldsBy l h.first (h.events ++ k.Store i b write ∷ [])
          (after_store l w i b x a v) (stored x memory a v)
      stores =
          let got = store_leads l laid h.first h.events w h.by.sound h.by.leads i b bi
          (inside a b at).0 x a v (after_store l w i b x a v).bytes can fit
          (place_own w.bytes i b (write (w.bytes i b)))
          (λ y d by bd o. place_other w.bytes i b (write (w.bytes i b)) y d o) in
          record {
            sound = got.1;
            leads = got.0;
            same = λ y d there. stored_same y d there
                ∙ sym (byte_is (k.after s (h.events ++ k.Store i b write ∷ [])).memory y d there
                ∙ ap (λ z. get_or z (y - address_of l d) 0)
                (store_memory s h.events i b write may_store d));
          }

    -- a node wants a block that doesn't meet its need
    pub wants : (i b : ℕ) (need : Need) (buf : Buffer) → i < l.nodes → b < blocks l
        → w.wait i b ≡ None → pending l w i < most_waits l.nodes
        → meets need (w.state i b) ≡ false → IsRoomy buf
        → (miss : Miss) × (want_row (facts l b) (local_block w i b) b need buf ≡ Some miss)
        × HoldsBy l h.first (h.events ++ k.Want i b (need_of need) ∷ []) (after_miss w i b miss)
        memory × AfterWant i b need w (after_miss w i b miss)
        × (k.may_want s c i b (need_of need) ≡ true)
    wants i b need buf bi bb idle few unmet roomy =
        let state = state_in_wait (w.state i b) in
        let miss : Miss = record {
          block = record { state = state; bytes = w.bytes i b; wait = Some (first_wait need) };
          post = post (home l b) (request need b buf);
        } in
        let row : want_row (facts l b) (local_block w i b) b need buf
        ≡ Some miss = ap (λ t. cond t None (Some miss)) unmet in
        let got = want_leads l laid h.first h.events w h.by.sound h.by.leads i b bi bb
        (w.bytes i b) need buf miss idle few roomy row in (
          miss,
          row,
          record {
            sound = got.1;
            leads = got.0;
            same = λ a d at. h.by.same a d at ∙ ap (λ (z : ℕ → Contents). memory_at l z a)
                (sym (want_memory s h.events i b (need_of need)));
          },
          record {
            own = ap wanted (place_own w.wait i b (Some (first_wait need)));
            waits = place_other w.wait i b (Some (first_wait need));
            states = place_other w.state i b state;
            bytes = λ x d. refl;
            reads = λ d r. elim (eqb_tells d b) [
              | inl q ↦ ap (λ z. can_read (changed w.state i (changed (w.state i) b state) i z)) q.1
                  ∙ ap can_read (place_own w.state i b state)
                  ∙ reads_in_wait (w.state i b) (ap (λ z. can_read (w.state i z)) (sym q.1) ∙ r)
              | inr q ↦ ap can_read (place_node w.state i b state d q.1) ∙ r
            ];
            writes = λ d r. elim (eqb_tells d b) [
              | inl q ↦ ap (λ z. can_write (changed w.state i (changed (w.state i) b state) i z))
                  q.1 ∙ ap can_write (place_own w.state i b state)
                  ∙ writes_in_wait (w.state i b) (ap (λ z. can_write (w.state i z)) (sym q.1) ∙ r)
              | inr q ↦ ap can_write (place_node w.state i b state d q.1) ∙ r
            ];
          },
          may_ask l laid h.first h.events w h.by.sound h.by.leads i b bi bb (w.bytes i b) need buf idle
              few unmet roomy,
        )

    -- a node that may write a block doesn't wait for it
    no_writer_waits : (i b : ℕ) → i < l.nodes → b < blocks l → can_write (w.state i b) ≡ true
        → w.wait i b ≡ None
    no_writer_waits i b bi bb can = go (w.wait i b) refl
      where
        go : (o : Option Wait) → w.wait i b ≡ o → w.wait i b ≡ None
        go None e = e
        go (Some x) e =
            let waits = h.by.leads.wait i b bi bb ∙ ap wait_of e in
            let may_not = all_waiters Contents s p h.events i b _ waits in
            let may = ap m.can_write (h.by.leads.state i b bi bb)
            ∙ write_same (w.state i b) ∙ can in
            let bad : false ≡ true = sym may_not ∙ may in cc

    -- a block is taken away for another node
    taken_for : (i j b r : ℕ) (fm : m.ForwardMessage) (ws : List (k.Wire Contents)) → b < blocks l
        → c.list j i ≡ record { block = b; body = m.Forward fm } ∷ ws → claims.taker fm ≡ Some r
        → (r < l.nodes) × (r ≢ i) × (wanted (w.wait r b) ≡ Some want.Write)
    taken_for i j b r fm ws bb front named =
        let t = all_takers Contents s p h.events i j b r fm ws front named in
        (t.0, t.1, wants_write (w.wait r b) t.2 (sym (h.by.leads.wait r b t.0 bb) ∙ t.3) t.4)

    taken_by : (i j b r : ℕ) (message : Message) (rest : List Message) → b < blocks l
        → IsAbout l b message → c.list j i ≡ wires_of (message ∷ rest) → taker_in message ≡ Some r
        → (r < l.nodes) × (r ≢ i) × (wanted (w.wait r b) ≡ Some want.Write)
    taken_by i j b r (FwdWrite d q n buf) rest bb about front named =
        taken_for i j b r (m.FwdWrite q n) (wires_of rest) bb
        (front ∙ ap (λ z. record { block = z; body = m.Forward (m.FwdWrite q n) } ∷ wires_of rest)
        about) named
    taken_by i j b r (Inval d q) rest bb about front named =
        taken_for i j b r (m.Inval q) (wires_of rest) bb
        (front ∙ ap (λ z. record { block = z; body = m.Forward (m.Inval q) } ∷ wires_of rest)
        about) named
    taken_by i j b r other rest bb about front named = absurd cc

    after_take : (i j : ℕ) (message : Message) (rest : List Message) → i < l.nodes → j < l.nodes
        → w.list j i ≡ message ∷ rest → (row : Row) → RowFacts l w i message row
        → SoundPosts l (sends_in row) → AfterTake l i message row w (after_row w j i rest row)
    after_take i j message rest bi bj front (AtHome b row) f posts = record {
      block = f.0;
      waits = λ x d o. refl;
      states = λ x d o. refl;
      bytes = λ x d o. refl;
      own = λ d. inl refl;
      grants = λ d need e gone. absurd (still_wanted (w.wait i d) need e gone);
      reads = λ d r. inl r;
      writes = λ d r. inl r;
      taker = λ t. absurd cc;
      says = no_byes l row.sends posts;
      calm = λ e. f.1;
    }
    after_take i j message rest bi bj front (AtNode b row) f posts =
        let wait = row.block.wait in
        let state = row.block.state in
        let waits : ℕ → ℕ → Option Wait = changed w.wait i (changed (w.wait i) b wait) in
        let states : ℕ → ℕ → State = changed w.state i (changed (w.state i) b state) in
        let wait_is : waits i b ≡ wait = place_own w.wait i b wait in
        let state_is : states i b ≡ state = place_own w.state i b state in
        record {
          block = f.0;
          waits = place_other w.wait i b wait;
          states = place_other w.state i b state;
          bytes = place_other w.bytes i b row.block.bytes;
          own = λ d. elim (eqb_tells d b) [
            | inl q ↦ subst (λ z. (wanted (waits i z) ≡ wanted (w.wait i z)) ⊎ (waits i z ≡ None))
                (sym q.1) (elim f.2.own [
                  | inl e ↦ inl (ap wanted wait_is ∙ e)
                  | inr e ↦ inr (wait_is ∙ e)
                ])
            | inr q ↦ inl (ap wanted (place_node w.wait i b wait d q.1))
          ];
          grants = λ d need e gone. elim (eqb_tells d b) [
            | inl q ↦ ap (λ z. meets need (states i z)) q.1 ∙ ap (meets need) state_is
                ∙ f.2.grants need (ap (λ z. wanted (w.wait i z)) (sym q.1) ∙ e)
                (sym wait_is ∙ ap (waits i) (sym q.1) ∙ gone)
            | inr q ↦ absurd (still_wanted (w.wait i d) need e
                (sym (place_node w.wait i b wait d q.1) ∙ gone))
          ];
          reads = λ d r. elim (eqb_tells d b) [
            | inl q ↦ elim (f.2.reads (ap (λ z. can_read (w.state i z)) (sym q.1) ∙ r)) [
              | inl e ↦ inl (ap (λ z. can_read (states i z)) q.1 ∙ ap can_read state_is ∙ e)
              | inr e ↦ inr (e, q.1)
            ]
            | inr q ↦ inl (ap can_read (place_node w.state i b state d q.1) ∙ r)
          ];
          writes = λ d r. elim (eqb_tells d b) [
            | inl q ↦ (let r' : can_write (w.state i b) ≡ true =
                ap (λ z. can_write (w.state i z)) (sym q.1) ∙ r in
                elim (f.2.writes r' (no_writer_waits i b bi f.0 r')) [
                  | inl e ↦ inl (ap (λ z. can_write (states i z)) q.1 ∙ ap can_write state_is ∙ e)
                  | inr e ↦ inr e
                ])
            | inr q ↦ inl (ap can_write (place_node w.state i b state d q.1) ∙ r)
          ];
          taker = λ t.
              let r = f.2.taker t in
              let z = taken_by i j b r.0 message rest f.0 f.1
              (h.by.leads.list j i bj bi ∙ ap wires_of front) r.1 in
              (r.0, r.1, z.0, z.1, z.2);
          says = no_byes l row.sends posts;
          calm = λ e. f.2.calm e;
        }

    -- a node takes the first message of a list, which isn't a Bye
    pub takes : (i j : ℕ) (message : Message) (rest : List Message) → i < l.nodes → j < l.nodes
        → w.list j i ≡ message ∷ rest → is_bye message ≡ false
        → (row : Row) × (row_of l w i j message ≡ Some row)
        × HoldsBy l h.first (h.events ++ k.Take i j ∷ []) (after_row w j i rest row) memory
        × AfterTake l i message row w (after_row w j i rest row)
        × IsRowOf l h.first h.events i j rest (sends_in row)
    takes i j message rest bi bj front plain =
        let got = take_leads l laid h.first h.events w i j message rest
        (all_rows Contents s p h.events) h.by.leads h.by.sound bi bj front plain in
        let row = got.0 in (
          row,
          got.1,
          record {
            sound = got.3;
            leads = got.2;
            same = λ a d at. h.by.same a d at ∙ ap (λ (z : ℕ → Contents). memory_at l z a)
                (sym (take_memory s h.events i j));
          },
          after_take i j message rest bi bj front row (row_facts l w i j row message got.1) got.4,
          got.5,
        )

    -- or it is a Bye
    pub takes_bye : (i j : ℕ) (message : Message) (rest : List Message) → w.list j i
        ≡ message ∷ rest → is_bye message ≡ true
        → HoldsBy l h.first h.events (after_bye w j i rest) memory
    takes_bye i j message rest front bye =
        let at : (x y : ℕ) → (eqb x j && eqb y i) ≡ true → w.list x y ≡ message ∷ rest =
        λ x y t. (let e : x ≡ j = grind (arith, nat_tests) in
        let f : y ≡ i = grind (arith, nat_tests) in
        ap (λ z. w.list z y) e ∙ ap (w.list j) f ∙ front) in
        record {
          sound = record {
            messages = λ x y bx by. (elim (eqb x j && eqb y i)
                as (λ t. (eqb x j && eqb y i) ≡ t → AreSound l (cond t rest (w.list x y))) [
                  | true ↦ (λ t. let z : AreSound l (message ∷ rest) = subst (AreSound l) (at x y t)
                      (h.by.sound.messages x y bx by) in z.1)
                  | false ↦ (λ t. h.by.sound.messages x y bx by)
                ]) refl;
            requests = h.by.sound.requests;
            bytes = h.by.sound.bytes;
            waits = h.by.sound.waits;
          };
          leads = record {
            owner = h.by.leads.owner;
            sharers = h.by.leads.sharers;
            busy = h.by.leads.busy;
            waiting = h.by.leads.waiting;
            occupancy = h.by.leads.occupancy;
            state = h.by.leads.state;
            copy = h.by.leads.copy;
            wait = h.by.leads.wait;
            list = λ x y bx by. (elim (eqb x j && eqb y i)
                as (λ t. (eqb x j && eqb y i) ≡ t → c.list x y
                ≡ wires_of (cond t rest (w.list x y))) [
                  | true ↦ (λ t. h.by.leads.list x y bx by ∙ ap wires_of (at x y t)
                      ∙ ap (λ z. z ++ wires_of rest) (bye_wire message bye))
                  | false ↦ (λ t. h.by.leads.list x y bx by)
                ]) refl;
          };
          same = h.by.same;
        }

    -- a node says Byes
    pub says_byes : (i : ℕ) (byes : List Post) → AreByes byes
        → HoldsBy l h.first h.events (after_byes w i byes) memory
    says_byes i byes are = record {
      sound = record {
        messages = λ x y bx by. (elim (eqb x i) as (λ t. AreSound l
            (cond t (w.list x y ++ messages_to y byes) (w.list x y))) [
              | true ↦ sound_append l (w.list x y) (messages_to y byes)
                  (h.by.sound.messages x y bx by) (sound_byes l y byes are)
              | false ↦ h.by.sound.messages x y bx by
            ]);
        requests = h.by.sound.requests;
        bytes = h.by.sound.bytes;
        waits = h.by.sound.waits;
      };
      leads = record {
        owner = h.by.leads.owner;
        sharers = h.by.leads.sharers;
        busy = h.by.leads.busy;
        waiting = h.by.leads.waiting;
        occupancy = h.by.leads.occupancy;
        state = h.by.leads.state;
        copy = h.by.leads.copy;
        wait = h.by.leads.wait;
        list = λ x y bx by. (elim (eqb x i) as (λ t. c.list x y
            ≡ wires_of (cond t (w.list x y ++ messages_to y byes) (w.list x y))) [
              | true ↦ h.by.leads.list x y bx by
                  ∙ sym (wires_append (w.list x y) (messages_to y byes)
                  ∙ ap (λ z. wires_of (w.list x y) ++ z) (byes_to y byes are)
                  ∙ append-nil (wires_of (w.list x y)))
              | false ↦ h.by.leads.list x y bx by
            ]);
      };
      same = h.by.same;
    }

    -- where a node waits, some list holds a message that isn't a Bye
    pub moves : (i b : ℕ) → i < l.nodes → b < blocks l → w.wait i b ≢ None
        → (x : ℕ) × (y : ℕ) × (x < l.nodes) × (y < l.nodes)
        × (has_message (w.list x y) ≡ true)
    moves i b bi bb waits =
        let e : c.wait i b ≢ None =
        (λ z. some_waits (w.wait i b) waits (sym (h.by.leads.wait i b bi bb) ∙ z)) in
        let got = all_moves Contents s p h.events i b e in
        let x = got.0 in
        let y = got.1 in
        let full : has_message (w.list x y) ≡ true = (elim (has_message (w.list x y))
        as (λ t. has_message (w.list x y) ≡ t → t ≡ true) [
          | true ↦ (λ t. refl)
          | false ↦ (λ t. absurd (got.4 (h.by.leads.list x y got.2 got.3
              ∙ only_byes (w.list x y) t)))
        ]) refl in
        (x, y, got.2, got.3, full)

    -- where no node waits, each message is a Done or a Bye
    pub settled : ((i b : ℕ) → i < l.nodes → b < blocks l → w.wait i b ≡ None) → (x y : ℕ)
        → x < l.nodes → y < l.nodes → AreSettled (w.list x y)
    settled idle x y bx by = done_only (w.list x y)
        (λ b. subst (claims.AreDones b) (h.by.leads.list x y bx by)
        (all_settles Contents s p h.events b
        (λ i bi bb. h.by.leads.wait i b bi bb ∙ ap wait_of (idle i b bi bb)) x y))

    -- a node waits for few blocks
    pub few_waits : (i : ℕ) → i < l.nodes → pending l w i ≤ most_waits l.nodes
    few_waits i bi = subst (λ z. z ≤ most_waits l.nodes)
        (sym (pending_is l h.first w c i h.by.leads bi)) (all_few_waits Contents s p h.events i)
