-- A lane's word, by what the lane and its node store.
use Rattle.std.proofs.Common.{◌≡◌, ◌≢◌, ℕ, zero, suc, ◌+◌, ◌<◌, ◌≤◌, ◌++◌, ◌&&◌, not, Bool, true, false, cond, eqb, List, [], ◌∷◌, length, Option, Some, None, refl, sym, ap, ◌∙◌, inl, inr, arith}
use Rattle.std.specs.Prelude.{is_some}
use Rattle.std.proofs.Math.Path.{fun_ext}
use Rattle.std.proofs.lemmas.Bool.Decides.{eqb_tells, nat_tests}
use Rattle.block_layout.specs.Layout.{Shape, block_of}
use Rattle.block_layout.specs.Update.{changed}
use Rattle.home_directory.specs.dsm_messages.declared.messages.Need.{Need}
use Rattle.home_directory.specs.dsm_messages.declared.messages.Post.{Post}
use Rattle.home_directory.specs.declared.wait.Wait.{Wait}
use Rattle.home_directory.specs.Effects.{entry_at, entries_of, members}
use Rattle.home_directory.specs.Home.{count_of}
use Rattle.home_directory.specs.Table.{Miss, want_row}
use Rattle.node_machine.specs.miss_handlers.Effects.{block_facts}
use Rattle.buf_pool.specs.Pool.{empty_buffer}
use Rattle.rv32_program.specs.Program.{line_of}
use Rattle.rv32_step.specs.OneMemory.{Access, Nothing, Reads, Writes, WritesIf, Exchanges}
use Rattle.node_machine.specs.node_words.declared.exec_state.ExecState.{ExecState}
use Rattle.node_machine.specs.node_words.declared.lane.ProcessorState as kept
use Rattle.node_machine.specs.node_words.declared.serve.Served.{Served}
use Rattle.node_machine.specs.node_words.Address.{word_address}
use Rattle.node_machine.specs.node_words.node_memory.Shelf.{local_of}
use Rattle.node_machine.specs.node_words.Kept.{lane_of, phase_by}
use Rattle.lane_model.specs.node_model.Node.{Node, Work, Want, Phase, Running, Resumed, Waiting, Ended, can_execute, word_outcome}
use Rattle.lane_model.specs.node_model.Turns.{Turn, after_word, block_at, byes_to, each_block_once, is_ended, wants_of, want_in, with_miss}
use Rattle.node_machine.specs.declared.protocol_state.ProtocolState.{ProtocolState}
use Rattle.node_machine.specs.NodeState.{layout_of, entries_in}
use Rattle.lane_model.specs.Nodes.{LanePart, Shared, LaneNode, as_node, shared_by, all_lanes}
use Rattle.lane_model.specs.Turns.{Asked, ask, ask_all, blocks_of, has_ended, have_ended, held_by, holder_after, lost, part_after, reserved_after, still, with_byes, word_asked, word_before, word_turn}
use Rattle.lane_machine.specs.declared.lane_protocol.LaneProtocol.{LaneProtocol}
use Rattle.lane_machine.specs.declared.stored.StoredLane.{StoredLane}
use Rattle.lane_machine.specs.declared.stored.StoredShared.{StoredShared}
use Rattle.lane_machine.specs.Waits.{wait_among, place_among, waits_in, awaits_of}
use Rattle.lane_machine.specs.Places.{reserved_in}
use Rattle.lane_machine.specs.Words.{stored_by, reserved_after as reserved_then}
use Rattle.lane_machine.specs.Stored.{ended_in, lane_turn, part_of, seen_at, served, shared_of, word_asks, work_in, work_of, HasLane}
use Rattle.lane_machine.specs.ProtocolStates.{asked_by}

-- 1. Lanes that have ended

count_below : (p : ℕ → Bool) (m : ℕ) → count_of p m ≤ m
count_below p zero = omega arith
count_below p (suc m) = let r = count_below p m in go (p m) r
  where
    go : (t : Bool) → count_of p m ≤ m → cond t (count_of p m + 1) (count_of p m) ≤ suc m
    go true r = omega (arith, r)
    go false r = omega (arith, r)

shift : (x y : ℕ) → eqb x y ≡ eqb (x + 1) (suc y)
shift x y = grind (arith, nat_tests)

too_few : (x y : ℕ) → x ≤ y → false ≡ eqb x (suc y)
too_few x y l = grind (arith, nat_tests)

pub all_count : (p : ℕ → Bool) (m : ℕ) → all_lanes p m ≡ eqb (count_of p m) m
all_count p zero = refl
all_count p (suc m) = let r = all_count p m in let b = count_below p m in go (p m) r b
  where
    go : (t : Bool) → all_lanes p m ≡ eqb (count_of p m) m → count_of p m ≤ m
        → (t && all_lanes p m) ≡ eqb (cond t (count_of p m + 1) (count_of p m)) (suc m)
    go true r b = r ∙ shift (count_of p m) m
    go false r b = too_few (count_of p m) m b

pub count_same : (p q : ℕ → Bool) (m : ℕ) → ((j : ℕ) → j < m → q j ≡ p j) → count_of q m ≡ count_of p m
count_same p q zero h = refl
count_same p q (suc m) h =
    let r = count_same p q m (λ j l. h j (omega (arith, l))) in
    (λ t. cond (h m (omega arith) t) (r t + 1) (r t))

-- one more may have ended
pub count_one : (p q : ℕ → Bool) (k m : ℕ) → k < m → p k ≡ false → ((j : ℕ) → (j ≡ k → ⊥) → q j ≡ p j)
    → count_of q m ≡ cond (q k) (count_of p m + 1) (count_of p m)
count_one p q k zero l e h = absurd (omega (arith, l))
count_one p q k (suc m) l e h = elim (eqb_tells k m) [
  | inl at ↦ (let same = count_same p q m (λ j below. h j (λ is. let f = at.1 in omega (arith, below, is, f))) in
      let zero_here : count_of p (suc m) ≡ count_of p m = ap (λ t. cond t (count_of p m + 1) (count_of p m)) (ap p (sym at.1) ∙ e) in
      (λ t. cond (ap q (sym at.1) t) (same t + 1) (same t))
      ∙ ap (λ x. cond (q k) (x + 1) x) (sym zero_here))
  | inr apart ↦ (let f = apart.1 in
      let r = count_one p q k m (lower k m l f) e h in
      let same = h m (λ is. f (sym is)) in
      (λ t. cond (same t) (r t + 1) (r t)) ∙ swap (p m) (q k) (count_of p m))
]
  where
    lower : (k m : ℕ) → k < suc m → k ≢ m → k < m
    lower k m l f = grind (arith, nat_tests)

    swap : (s t : Bool) (x : ℕ) → cond s (cond t (x + 1) x + 1) (cond t (x + 1) x) ≡ cond t (cond s (x + 1) x + 1) (cond s (x + 1) x)
    swap true true x = refl
    swap true false x = refl
    swap false true x = refl
    swap false false x = refl

pub going_on : (p : Phase) → can_execute p ≡ true → is_ended p ≡ false
going_on Running e = refl
going_on Resumed e = refl
going_on (Waiting r) e = refl
going_on (Ended x) e = absurd (let f : false ≡ true = e in cc)

-- 2. Reservations

pub lost_is : (l : Shape) (a : Access) (r : Option ℕ) → lost l a r ≡ reserved_then l (stored_by a) r
lost_is l Nothing r = refl
lost_is l (Reads k a v) r = refl
lost_is l (Writes w a v) r = refl
lost_is l (WritesIf a v true) r = refl
lost_is l (WritesIf a v false) r = refl
lost_is l (Exchanges a o n) r = refl

miss_reserved : (l : Shape) (b : ℕ) (need : Need) (t : Turn) (o : Option Miss)
    → (with_miss l b need t o).node.local.reservation ≡ t.node.local.reservation
miss_reserved l b need t None = refl
miss_reserved l b need t (Some m) = refl

ask_reserved : (l : Shape) (need : Need) (o : Option ℕ) (t : Asked)
    → (ask l need o t).turn.node.local.reservation ≡ t.turn.node.local.reservation
ask_reserved l need None t = refl
ask_reserved l need (Some b) t = go (is_some (t.turn.node.wait b))
  where
    go : (s : Bool) → (cond s t.turn (want_in l t.turn need (Some b))).node.local.reservation ≡ t.turn.node.local.reservation
    go true = refl
    go false = miss_reserved l b need t.turn (want_row (block_facts l b) (block_at l t.turn.node b) b need (empty_buffer 4096))

ask_all_reserved : (l : Shape) (ws : List Want) (t : Asked)
    → (ask_all l ws t).turn.node.local.reservation ≡ t.turn.node.local.reservation
ask_all_reserved l [] t = refl
ask_all_reserved l (w ∷ ws) t = ask_all_reserved l ws (ask l w.need (block_of l (line_of w.at)) t)
    ∙ ask_reserved l w.need (block_of l (line_of w.at)) t

pub asks_reserved : (work : Work) (n : Node)
    → (word_asks work n).turn.node.local.reservation ≡ (word_outcome work n).local.reservation
asks_reserved work n = ask_all_reserved work.layout (each_block_once work.layout (wants_of (word_outcome work n).move))
    (record { turn = after_word work n; again = false })

-- 3. The turn

-- the node as a lane sees it
abbrev pub as_of : LanePart → Shared → (k : ℕ) → Node
as_of p s k = as_node (record { lanes = λ j. p; shared = s }) k

-- what isn't of blocks
abbrev pub stored_node : StoredLane → StoredShared → Node
stored_node l f = as_of (part_of l) (shared_of f) l.number

byes_with : (nodes : ℕ) (x : LaneNode) (posts : List Post) (p : Option ℕ) (t : Bool)
    → with_byes nodes (lane_turn x posts p) t ≡ lane_turn x (cond t (posts ++ byes_to nodes) posts) p
byes_with nodes x posts p true = refl
byes_with nodes x posts p false = refl

module _ (l l' : StoredLane) (f f' : StoredShared) (x : LaneNode) (h : HasLane l f x)
    (lane' : kept.ProcessorState) (b' : ExecState) (d' : ProtocolState) (ps' : List LaneProtocol) (done : Served) (again : Bool) (posts : List Post)
    (stored : Option ℕ) where
  abbrev pub work : Work
  work = work_in f.state.body.value l.state.image.now l.state.budget

  abbrev pub k : ℕ
  k = l.number

  abbrev pub before : Node
  before = seen_at (stored_node l f) k l.lane l.state.at f.state.body.value f.state.protocol f.places.items

  before_is : as_node x k ≡ before
  before_is = λ t. as_of (h.lane t) (h.shared t) k

  abbrev pub after : Node
  after = served (seen_at (stored_node l f) k lane' done.at b' d' ps') l.state.budget done

  pub turn_is : word_asks work before ≡ asked_by after posts done.output again
      → awaits_of l'.awaits ≡ still (wait_among (waits_in ps'))
      (blocks_of work.layout (each_block_once work.layout (wants_of (word_outcome work before).move)))
      → stored ≡ stored_by (word_outcome work before).access
      → ((b : ℕ) → is_some (wait_among (waits_in ps') b) ≡ true → place_among (waits_in ps') b
      ≡ cond (is_some (wait_among (waits_in f.places.items) b)) (place_among (waits_in f.places.items) b) k)
      → ((j : ℕ) → (j ≡ k → ⊥) → reserved_in ps' j ≡ reserved_in f.places.items j)
      → ((j : ℕ) → reserved_in f'.places.items j
      ≡ cond (eqb j k) (reserved_in ps' j) (reserved_then (layout_of f.state.body.value) stored (reserved_in ps' j)))
      → waits_in f'.places.items ≡ waits_in ps' → part_of l' ≡ record {
        lane = lane_of lane' (word_address done.at);
        executed = l.state.executed + 1;
        phase = phase_by l.state.budget (l.state.executed + 1) done.following;
        awaits = awaits_of l'.awaits;
        again = again;
      }
      → f'.state.body.value ≡ b' → f'.state.protocol ≡ d' → d'.directory.me ≡ f.state.protocol.directory.me → f'.state.byes ≡ f.state.byes
      → f'.state.stamp ≡ f.state.stamp + 1 → f'.state.journal.items ≡ f.state.journal.items → f'.state.output.items ≡ after.output
      → (word_before (work_of l f) x k) ≡ lane_turn (record { lanes = changed x.lanes k (part_of l'); shared = shared_of f' }) posts done.output
  turn_is asks awaits stored_is holders others reserved waits part body protocol me byes stamp journal output =
      let r = word_outcome work (as_node x k) in
      let whole : word_asked (work_of l f) x k ≡ asked_by after posts done.output again =
      ap (word_asks work) before_is ∙ asks in
      let own : r.local.reservation ≡ reserved_in ps' k =
      sym (asks_reserved work (as_node x k)) ∙ ap (λ (a : Asked). a.turn.node.local.reservation) whole in
      let access : stored ≡ stored_by r.access = stored_is ∙ ap (λ (n : Node). stored_by (word_outcome work n).access) (sym before_is) in
      let res : reserved_after (work_of l f) x k ≡ reserved_in f'.places.items = fun_ext (λ j. elim (eqb_tells j k) [
        | inl q ↦ (let a : reserved_after (work_of l f) x k j ≡ r.local.reservation = rw q.0 refl in
            let c : reserved_in f'.places.items j ≡ reserved_in ps' j = reserved j ∙ ap (λ t. cond t (reserved_in ps' j) (reserved_then (layout_of f.state.body.value) stored (reserved_in ps' j))) q.0 in
            a ∙ own ∙ ap (reserved_in ps') (sym q.1) ∙ sym c)
        | inr q ↦ (let a : reserved_after (work_of l f) x k j ≡ lost work.layout r.access (x.shared.reservation j) = rw q.0 refl in
            let c : reserved_in f'.places.items j ≡ reserved_then (layout_of f.state.body.value) stored (reserved_in ps' j) =
            reserved j ∙ ap (λ t. cond t (reserved_in ps' j) (reserved_then (layout_of f.state.body.value) stored (reserved_in ps' j))) q.0 in
            a ∙ lost_is work.layout r.access (x.shared.reservation j)
            ∙ (λ t. reserved_then work.layout (sym access t) ((h.shared t).reservation j))
            ∙ ap (reserved_then work.layout stored) (sym (others j q.1)) ∙ sym c)
      ]) in
      let hold : held_by (wait_among (waits_in ps')) (holder_after x k) ≡ (shared_of f').holder = fun_ext (λ b.
      go (wait_among (waits_in ps')) (holder_after x k) b (is_some (wait_among (waits_in ps') b)) refl
      (λ there. (λ t. cond (is_some ((h.shared t).wait b)) ((h.shared t).holder b) k)
      ∙ sym (holders b there
      ∙ held_was (is_some (wait_among (waits_in f.places.items) b)) (place_among (waits_in f.places.items) b) k))
      ∙ (λ t. held_by (wait_among (sym waits t)) (place_among (sym waits t)) b)) in
      let asked_part : part_after (work_of l f) x k ≡ part_of l' =
      (λ t. record {
        lane = (whole t).turn.node.lane;
        executed = (whole t).turn.node.executed;
        phase = (whole t).turn.node.phase;
        awaits = still (whole t).turn.node.wait (blocks_of work.layout (each_block_once work.layout (wants_of (word_outcome work (before_is t)).move)));
        again = (whole t).again;
      }) ∙ (λ t. record {
        lane = after.lane;
        executed = after.executed;
        phase = after.phase;
        awaits = sym awaits t;
        again = again;
      }) ∙ sym part in
      let sh : shared_by after (reserved_after (work_of l f) x k) (held_by (wait_among (waits_in ps')) (holder_after x k)) ≡ shared_of f' =
      λ t. record (shared_by after (res t) (hold t)) {
        me = (sym me ∙ ap (λ (z : ProtocolState). z.directory.me) (sym protocol)) t;
        copy = (local_of (sym body t).local).copy;
        state = (local_of (sym body t).local).state;
        entry = entries_in (sym protocol t).directory.layout (sym protocol t).directory.me (entry_at (sym protocol t).directory.entries);
        waiting = (entries_of (sym protocol t).directory).waiting;
        occupancy = (entries_of (sym protocol t).directory).occupancy;
        wait = wait_among (sym waits t);
        byes = members (sym byes t);
        stamp = sym stamp t;
        journal = sym journal t;
        output = sym output t;
        counts = (sym body t).counts;
      } in
      (λ t. lane_turn (record {
        lanes = changed x.lanes k (part_after (work_of l f) x k);
        shared = shared_by (whole t).turn.node (reserved_after (work_of l f) x k) (held_by (whole t).turn.node.wait (holder_after x k));
      }) (whole t).turn.sends (whole t).turn.printed)
      ∙ (λ t. lane_turn (record { lanes = changed x.lanes k (asked_part t); shared = sh t }) posts done.output)
    where
      held_was : (t : Bool) (p k : ℕ) → cond t p k ≡ cond t (cond t p 0) k
      held_was true p k = refl
      held_was false p k = refl

      go : (w : ℕ → Option Wait) (g : ℕ → ℕ) (b : ℕ) (t : Bool) → is_some (w b) ≡ t
          → (is_some (w b) ≡ true → g b ≡ place_among (waits_in ps') b)
          → cond (is_some (w b)) (g b) 0 ≡ cond (is_some (w b)) (place_among (waits_in ps') b) 0
      go w g b true e s = ap (λ z. cond (is_some (w b)) z 0) (s e)
      go w g b false e s = ap (λ t. cond t (g b) 0) e ∙ sym (ap (λ t. cond t (place_among (waits_in ps') b) 0) e)

  -- with the Byes of a node whose lanes have all ended
  pub ending_is : (y : LaneNode) → k < length f.places.items → f.ended < length f.places.items
      → is_ended (x.lanes k).phase ≡ false → y ≡ record { lanes = changed x.lanes k (part_of l'); shared = shared_of f' }
      → word_before (work_of l f) x k ≡ lane_turn y posts done.output
      → f'.ended ≡ cond (is_ended (part_of l').phase) (f.ended + 1) f.ended
      → (word_turn (work_of l f) x k ≡ lane_turn y
      (cond (eqb f'.ended (length f.places.items)) (posts ++ byes_to work.layout.nodes) posts) done.output)
      × (f'.ended ≡ ended_in y (length f.places.items))
  ending_is y low lower going is turn ended =
      let m = length f.places.items in
      let apart : (j : ℕ) → (j ≡ k → ⊥) → has_ended y j ≡ has_ended x j =
      λ j a. ap (λ (z : LaneNode). has_ended z j) is ∙ (elim (eqb_tells j k) [
        | inl q ↦ absurd (a q.1)
        | inr q ↦ rw q.0 refl
      ]) in
      let mine : has_ended y k ≡ is_ended (part_of l').phase =
      ap (λ (z : LaneNode). has_ended z k) is ∙ (let t : eqb k k ≡ true = grind (arith, nat_tests) in rw t refl) in
      let count : f'.ended ≡ ended_in y m =
      ended ∙ (λ t. cond (sym mine t) (h.ended t + 1) (h.ended t)) ∙ sym (count_one (has_ended x) (has_ended y) k m low going apart) in
      let was : have_ended (work_of l f) x ≡ false =
      all_count (has_ended x) m ∙ ap (λ c. eqb c m) (sym h.ended) ∙ (let o = lower in grind (arith, nat_tests)) in
      let now : have_ended (work_of l f) y ≡ eqb f'.ended m = all_count (has_ended y) m ∙ ap (λ c. eqb c m) (sym count) in (
        (λ t. with_byes work.layout.nodes (turn t) (have_ended (work_of l f) (turn t).node && not (have_ended (work_of l f) x)))
            ∙ (λ t. with_byes work.layout.nodes (lane_turn y posts done.output) (now t && not (was t)))
            ∙ ap (with_byes work.layout.nodes (lane_turn y posts done.output)) (and_true (eqb f'.ended m))
            ∙ byes_with work.layout.nodes y posts done.output (eqb f'.ended m),
        count,
      )
    where
      and_true : (t : Bool) → (t && true) ≡ t
      and_true true = refl
      and_true false = refl
