-- What becomes of a node's reservation: what each word does with it, and which messages end it.
use Rattle.std.proofs.Common.{◌≡◌, ◌≢◌, ℕ, ◌*◌, ◌/◌, ◌%◌, ◌⊎◌, cond, eqb, Bool, true, false, List, [], ◌∷◌, ◌++◌, Option, Some, None, refl, sym, ap, ◌∙◌, subst, inl, inr}
use Rattle.std.specs.Prelude.{not, ◌&&◌, ◌==◌, pos}
use Rattle.std.proofs.lemmas.Bool.Decides.{eqb_tells}
use Rattle.rewriting_law.proofs.Names.{width_of, is_aligned, Width, Word, LoadKind, Program, line_of, offset_address, Shape, block_of, has_line, holds, cleared, Need, Wire, Miss, NodeRow, Row, AtHome, AtNode, row_of, taker_in, is_bye, Demand, Sets, Continues, Jumps, Branches, Loads, Stores, Calls, Traps, Reserves, StoresIf, Updates, CallStep, Ends, Returns, Puts, amo, load_value, reg, demand_of, call_step, Access, WritesIf, Break, PlanEntry, RtWord, Native, MissR, MissW, Poll, Call, Xjalr, Prepare, Batch, ImageWord, fetch, World, Work, Node, ProcessorState, NodeMemory, Want, WordOutcome, Region, Memory, StateOf, Spill, Elsewhere, region_of, load, store, reserving, store_if, byte_at, native, miss_r_by, miss_w_by, prepare_by, make_call, place_address, execute, execute_read, execute_at, is_mapped_state, is_readable_state, is_fixed_state, is_writable_state, word_outcome, batch, batch_by, one_refuses, unmet, need_of_run, Turn, block_at, holding, with_miss, want_in, want_all, wants_of, after_word, after_wants, word_turn, is_ended, by_row_or, handled, journaled, after_message, take_turn, each_block_once, Core, Event, Exec, Take, take_first, event_step, order_by, break_by, picks_of_take, IsConditional, IsLostBy}
use Rattle.rv32_decode.specs.declared.LoadKind.TheVariants.{Word as WordLoad}
use Rattle.dsm_protocol.proofs.RowFacts.{row_facts}
use Rattle.rewriting_law.proofs.templates.RegisterLemmas.{equal}
use Rattle.rewriting_law.proofs.runs.Turns.{byes_node}
use Rattle.rewriting_law.proofs.runs.TurnTies.{resumed_blocks}
use Rattle.rewriting_law.proofs.runs.Alone.{bye_noted}
use Rattle.rewriting_law.proofs.progress.Closing.{handled_by_row}

-- 1. Words

abbrev is_conditional : Access → Bool
is_conditional (WritesIf a value stores) = true
is_conditional access = false

abbrev address_in : Access → ℕ
address_in (WritesIf a value stores) = a
address_in access = 0

abbrev stored_in : Access → Bool
stored_in (WritesIf a value stores) = stores
stored_in access = false

-- what a word does with the reservation of its node: it keeps it, or it reserves an address, or it
-- is a conditional store
record Handles (n : NodeMemory) (r : WordOutcome) : Type 0 where
  conditional : (a value : ℕ) (stores : Bool) → r.access ≡ WritesIf a value stores
      → (stores ≡ holds n.reservation a) × (r.local.reservation ≡ None)
  leaves : (r.local.reservation ≡ n.reservation) ⊎ ((a : ℕ) × (r.local.reservation ≡ Some a))
      ⊎ ((a : ℕ) × (value : ℕ) × (stores : Bool) × (r.access ≡ WritesIf a value stores))

other_access : (access : Access) (a value : ℕ) (stores : Bool) → is_conditional access ≡ false
    → access ≡ WritesIf a value stores → ⊥
other_access access a value stores plain e =
    let bad : false ≡ true = sym plain ∙ ap is_conditional e in cc

module _ (program : Program) (n : NodeMemory) where
  keeps : (r : WordOutcome) → is_conditional r.access ≡ false → r.local.reservation ≡ n.reservation
      → Handles n r
  keeps r plain same = record {
    conditional = λ a value stores e. absurd (other_access r.access a value stores plain e);
    leaves = inl same;
  }

  either : (b : Bool) (x y : WordOutcome) → Handles n x → Handles n y → Handles n (cond b x y)
  either true x y f g = f
  either false x y f g = g

  loads : (l : ProcessorState) (k : LoadKind) (r a : ℕ) (region : Region)
      → Handles n (load program l n k r a region)
  loads l k r a Memory = keeps _ refl refl
  loads l k r a other = keeps _ refl refl

  reserves : (l : ProcessorState) (r a : ℕ) (region : Region)
      → Handles n (reserving a (load program l n WordLoad r a region))
  reserves l r a region = record {
    conditional = λ x value stores e. absurd (plain region x value stores e);
    leaves = inr (inl (a, refl));
  }
    where
      plain : (region : Region) (x value : ℕ) (stores : Bool)
          → (reserving a (load program l n WordLoad r a region)).access ≡ WritesIf x value stores
          → ⊥
      plain Memory x value stores e = other_access _ x value stores refl e
      plain (StateOf line) x value stores e = other_access _ x value stores refl e
      plain (Spill j) x value stores e = other_access _ x value stores refl e
      plain Elsewhere x value stores e = other_access _ x value stores refl e

  store_keeps : (l : ProcessorState) (w : Width) (a value : ℕ) (region : Region)
      → (is_conditional (store program l n w a value region).access ≡ false)
      × ((store program l n w a value region).local.reservation ≡ n.reservation)
  store_keeps l w a value Memory = (refl, refl)
  store_keeps l w a value other = (refl, refl)

  stores_if : (l : ProcessorState) (r a value : ℕ) (b : Bool) → holds n.reservation a ≡ b
      → Handles n (store_if program l n r a value b)
  stores_if l r a value true is = record {
    conditional = λ x v b e. (
      sym (ap stored_in e) ∙ sym is ∙ ap (holds n.reservation) (ap address_in e),
      refl,
    );
    leaves = inr (inr (a, value, true, refl));
  }
  stores_if l r a value false is = record {
    conditional = λ x v b e. (
      sym (ap stored_in e) ∙ sym is ∙ ap (holds n.reservation) (ap address_in e),
      refl,
    );
    leaves = inr (inr (a, value, false, refl));
  }

  -- a native instruction
  natives : (place at : ℕ) (l : ProcessorState) (d : Demand) → Handles n (native program place at l n d)
  natives place at l (Sets r value) = keeps _ refl refl
  natives place at l Continues = keeps _ refl refl
  natives place at l (Jumps r target) =
      either (target % 4 == 0) _ _ (keeps _ refl refl) (keeps _ refl refl)
  natives place at l (Branches target) =
      either (target % 4 == 0) _ _ (keeps _ refl refl) (keeps _ refl refl)
  natives place at l (Loads k r a) =
      either (is_aligned (width_of k) a) _ _ (loads l k r a (region_of a)) (keeps _ refl refl)
  natives place at l (Stores w a value) =
      let kept = store_keeps l w a value (region_of a) in
      either (is_aligned w a) _ _ (keeps _ kept.0 kept.1) (keeps _ refl refl)
  natives place at l Calls = keeps _ refl refl
  natives place at l (Traps e) = keeps _ refl refl
  natives place at l (Reserves r a) =
      either (is_aligned Word a) _ _ (reserves l r a (region_of a)) (keeps _ refl refl)
  natives place at l (StoresIf r a value) =
      either (is_aligned Word a) _ _ (stores_if l r a value (holds n.reservation a) refl)
      (keeps _ refl refl)
  natives place at l (Updates o r a value) =
      let old = load_value WordLoad (byte_at program l n) a in
      either (is_aligned Word a) _ _
      (keeps _ refl (store_keeps l Word a (amo o old value) (region_of a)).1) (keeps _ refl refl)

  -- the words of the runtime
  reads_missing : (state place : ℕ) (l : ProcessorState) (a : ℕ) → Handles n (miss_r_by state place l n a)
  reads_missing state place l a =
      either (is_mapped_state state) _ _
      (either (is_readable_state state) _ _ (keeps _ refl refl) (keeps _ refl refl))
      (keeps _ refl refl)

  writes_missing : (state place : ℕ) (l : ProcessorState) (a : ℕ) → Handles n (miss_w_by state place l n a)
  writes_missing state place l a =
      either (is_fixed_state state) _ _ (keeps _ refl refl)
      (either (is_writable_state state) _ _ (keeps _ refl refl) (keeps _ refl refl))

  prepares : (state place : ℕ) (l : ProcessorState) (a : ℕ) → Handles n (prepare_by state place l n a)
  prepares state place l a =
      either (is_fixed_state state) _ _ (keeps _ refl refl)
      (either (holds n.reservation a && not (is_writable_state state)) _ _ (keeps _ refl refl)
      (keeps _ refl refl))

  calls : (l : ProcessorState) (step : CallStep) → Handles n (make_call program l n step)
  calls l (Ends code) = keeps _ refl refl
  calls l (Returns value) = keeps _ refl refl
  calls l (Puts a) =
      let state = n.state (line_of a) in
      either (is_mapped_state state) _ _
      (either (is_readable_state state) _ _ (keeps _ refl refl) (keeps _ refl refl))
      (keeps _ refl refl)

  batches : (l : ProcessorState) (need : Need) (low high : ℕ) → Handles n (batch l n need low high)
  batches l need low high =
      either (one_refuses n need low high) _ _ (keeps _ refl refl)
      (wants (unmet n need low ++ unmet n need high))
    where
      wants : (ws : List Want) → Handles n (batch_by l n need low high ws)
      wants [] = keeps _ refl refl
      wants (w ∷ ws) = keeps _ refl refl

  executes : (place at : ℕ) (l : ProcessorState) (word : RtWord)
      → Handles n (execute program place at word l n)
  executes place at l (Native i) = natives place at l (demand_of i l.registers at)
  executes place at l (MissR w rs1 imm) =
      let a = offset_address (reg l.registers rs1) imm in
      either (is_aligned w a) _ _ (reads_missing (n.state (line_of a)) place l a)
      (keeps _ refl refl)
  executes place at l (MissW w rs1 imm) =
      let a = offset_address (reg l.registers rs1) imm in
      either (is_aligned w a) _ _ (writes_missing (n.state (line_of a)) place l a)
      (keeps _ refl refl)
  executes place at l Poll = keeps _ refl refl
  executes place at l Call = calls l (call_step l.registers l.written)
  executes place at l (Xjalr rd rs1 imm) =
      either (offset_address (reg l.registers rs1) imm / 2 * 2 % 4 == 0) _ _ (keeps _ refl refl)
      (keeps _ refl refl)
  executes place at l (Batch stored low high) =
      batches l (need_of_run stored) (reg l.registers low) (reg l.registers high)
  executes place at l (Prepare rs1) =
      let a = offset_address (reg l.registers rs1) (pos 0) in
      either (is_aligned Word a) _ _ (prepares (n.state (line_of a)) place l a) (keeps _ refl refl)
  executes place at l other = keeps _ refl refl

  at_word : (l : ProcessorState) (o : Option ImageWord) → Handles n (execute_at program o l n)
  at_word l None = keeps _ refl refl
  at_word l (Some w) = go w.what
    where
      go : (o : Option RtWord) → Handles n (execute_read program w.place o l n)
      go None = keeps _ refl refl
      go (Some word) = executes (place_address w.place) l.at l word

handles : (work : Work) (n : Node) → Handles n.local (word_outcome work n)
handles work n = at_word work.program n.local n.lane (fetch work.image n.lane.at)

pub stores : (work : Work) (n : Node) (a value : ℕ) (stores : Bool)
    → (word_outcome work n).access ≡ WritesIf a value stores → IsConditional work n a value stores
stores work n a value stored e =
    let does = (handles work n).conditional a value stored e in
    record { access = e; reserved = does.0; ended = does.1 }

-- 2. A word's turn

module _ (layout : Shape) where
  miss_keeps : (t : Turn) (need : Need) (b : ℕ) (o : Option Miss)
      → (with_miss layout b need t o).node.local.reservation ≡ t.node.local.reservation
  miss_keeps t need b None = refl
  miss_keeps t need b (Some miss) = refl

  want_keeps : (t : Turn) (need : Need) (o : Option ℕ)
      → (want_in layout t need o).node.local.reservation ≡ t.node.local.reservation
  want_keeps t need None = refl
  want_keeps t need (Some b) = miss_keeps t need b _

  wants_keep : (ws : List Want) (t : Turn)
      → (want_all layout t ws).node.local.reservation ≡ t.node.local.reservation
  wants_keep [] t = refl
  wants_keep (w ∷ ws) t =
      let o = block_of layout (line_of w.at) in
      wants_keep ws (want_in layout t w.need o) ∙ want_keeps t w.need o

module _ (work : Work) (plan : List PlanEntry) (c : Core) (i a : ℕ)
    (had : (c.nodes i).local.reservation ≡ Some a) where
  abbrev layout : Shape
  layout = work.layout

  word_leaves : (word_turn work (c.nodes i)).node.local.reservation
      ≡ (word_outcome work (c.nodes i)).local.reservation
  word_leaves =
      let n = c.nodes i in
      let t = after_wants work n in
      ap (λ (x : Node). x.local.reservation) (byes_node layout.nodes t (is_ended t.node.phase))
      ∙ wants_keep layout (each_block_once layout (wants_of (word_outcome work n).move))
      (after_word work n)

  by_word : (word_turn work (c.nodes i)).node.local.reservation ≢ Some a
      → IsLostBy work plan c i (Exec i)
  by_word gone = (
    refl,
    elim (handles work (c.nodes i)).leaves [
      | inl same ↦ absurd (gone (word_leaves ∙ same ∙ had))
      | inr (inl r) ↦ inr r
      | inr (inr s) ↦ inl (s.0, s.1, s.2, stores work (c.nodes i) s.0 s.1 s.2 s.3)
    ],
  )

  -- 3. A message

  module _ (j : ℕ) (wire : Wire) (ws : List Wire) (front : c.list j i ≡ wire ∷ ws) where
    abbrev n : Node
    n = c.nodes i

    abbrev n1 : Node
    n1 = journaled n j wire

    abbrev t1 : Turn
    t1 = handled layout n1 j wire.message

    abbrev u : Turn
    u = take_turn work n j wire

    message_leaves : u.node.local.reservation ≡ t1.node.local.reservation
    message_leaves =
        ap (λ (x : Node). x.local.reservation)
        (byes_node layout.nodes (after_message work n j wire)
        (is_ended (after_message work n j wire).node.phase && not (is_ended n.phase)))
        ∙ ap (λ (x : NodeMemory). x.reservation)
        (resumed_blocks c i work t1.node t1.node.phase).local

    -- the node's parts, as those of each node
    abbrev world : World
    world = record {
      entry = λ x. n.entry;
      waiting = λ x. n.waiting;
      occupancy = λ x. n.occupancy;
      state = λ x b. (block_at layout n b).state;
      bytes = λ x b. (block_at layout n b).bytes;
      wait = λ x. n.wait;
      list = λ x y. [];
    }

    abbrev Breaks : Type 0
    Breaks = (r : ℕ) × (picks_of_take work c i j (c.list j i) ≡ Break i r ∷ [])

    -- the row takes the reserved block away
    breaks : (b : ℕ) (row : NodeRow)
        → row_of layout n.me (holding layout n) j wire.message ≡ Some (AtNode b row)
        → row.clears ≡ true → has_line layout b (line_of a) ≡ true → Breaks
    breaks b row is clears lies =
        let facts = row_facts layout world n.me j (AtNode b row) wire.message is in
        let taker = facts.2.taker clears in (
          taker.0,
          ap (picks_of_take work c i j) front
              ∙ ap (λ o. break_by layout i (order_by (taker_in wire.message) o)
              n.local.reservation) is
              ∙ ap (λ o. break_by layout i (order_by o (Some (AtNode b row))) n.local.reservation)
              taker.1 ∙ ap (λ z. break_by layout i
              (cond z (Some (record { block = b; requester = taker.0 })) None)
              n.local.reservation) clears
              ∙ ap (break_by layout i (Some (record { block = b; requester = taker.0 }))) had
              ∙ ap (λ z. cond z (Break i taker.0 ∷ []) []) lies,
        )

    by_clearing : (b : ℕ) (row : NodeRow)
        → row_of layout n.me (holding layout n) j wire.message ≡ Some (AtNode b row)
        → row.clears ≡ true → (t : Bool) → has_line layout b (line_of a) ≡ t
        → cleared layout b (Some a) ≢ Some a → Breaks
    by_clearing b row is clears true lies gone = breaks b row is clears lies
    by_clearing b row is clears false lies gone =
        absurd (gone (ap (λ z. cond z None (Some a)) lies))

    by_node_row : (b : ℕ) (row : NodeRow)
        → row_of layout n.me (holding layout n) j wire.message ≡ Some (AtNode b row)
        → (t : Bool) → row.clears ≡ t
        → (by_row_or layout n1 (Some (AtNode b row))).node.local.reservation ≢ Some a → Breaks
    by_node_row b row is true clears gone =
        by_clearing b row is clears (has_line layout b (line_of a)) refl (λ e. gone
        (ap (λ z. cond z (cleared layout b n.local.reservation) n.local.reservation) clears
        ∙ ap (cleared layout b) had ∙ e))
    by_node_row b row is false clears gone =
        absurd (gone (ap (λ z. cond z (cleared layout b n.local.reservation) n.local.reservation)
        clears ∙ had))

    by_row : (o : Option Row) → row_of layout n.me (holding layout n) j wire.message ≡ o
        → (by_row_or layout n1 o).node.local.reservation ≢ Some a → Breaks
    by_row None is gone = absurd (gone had)
    by_row (Some (AtHome b row)) is gone = absurd (gone had)
    by_row (Some (AtNode b row)) is gone = by_node_row b row is row.clears refl gone

    by_message : (b : Bool) → is_bye wire.message ≡ b → u.node.local.reservation ≢ Some a → Breaks
    by_message true bye gone =
        absurd (gone (message_leaves
        ∙ ap (λ (x : Turn). x.node.local.reservation) (bye_noted layout n1 j wire.message bye)
        ∙ had))
    by_message false plain gone =
        by_row (row_of layout n.me (holding layout n) j wire.message) refl (λ e. gone
        (message_leaves
        ∙ ap (λ (x : Turn). x.node.local.reservation)
        (handled_by_row layout n1 j wire.message plain) ∙ e))

  by_take : (j : ℕ) → ((event_step work c (Take i j)).nodes i).local.reservation ≢ Some a
      → IsLostBy work plan c i (Take i j)
  by_take j gone = (refl, go (c.list j i) refl gone)
    where
      go : (xs : List Wire) → c.list j i ≡ xs
          → ((take_first work c i j xs).nodes i).local.reservation ≢ Some a
          → (r : ℕ) × (picks_of_take work c i j (c.list j i) ≡ Break i r ∷ [])
      go [] e gone = absurd (gone had)
      go (wire ∷ ws) e gone =
          by_message j wire ws e (is_bye wire.message) refl (λ same. gone
          (ap (λ z. (cond z (take_turn work (c.nodes i) j wire).node (c.nodes i)).local.reservation)
          (equal i i refl) ∙ same))

  -- 4. An event

  still_there : (k j : ℕ) (xs : List Wire) → eqb i k ≡ false
      → ((take_first work c k j xs).nodes i).local.reservation ≡ Some a
  still_there k j [] other = had
  still_there k j (wire ∷ ws) other =
      ap (λ z. (cond z (take_turn work (c.nodes k) j wire).node (c.nodes i)).local.reservation)
      other ∙ had

  pub lost : (e : Event) → ((event_step work c e).nodes i).local.reservation ≢ Some a
      → IsLostBy work plan c i e
  lost (Exec k) gone = elim (eqb_tells i k) [
    | inl q ↦ subst (λ z. IsLostBy work plan c i (Exec z)) q.1 (by_word (λ e. gone
        (ap (λ z. (cond z (word_turn work (c.nodes k)).node (c.nodes i)).local.reservation) q.0
        ∙ ap (λ z. (word_turn work (c.nodes z)).node.local.reservation) (sym q.1) ∙ e)))
    | inr q ↦ absurd (gone
        (ap (λ z. (cond z (word_turn work (c.nodes k)).node (c.nodes i)).local.reservation) q.0
        ∙ had))
  ]
  lost (Take k j) gone = elim (eqb_tells i k) [
    | inl q ↦ subst (λ z. IsLostBy work plan c i (Take z j)) q.1 (by_take j
        (subst (λ z. ((event_step work c (Take z j)).nodes i).local.reservation ≢ Some a)
        (sym q.1) gone))
    | inr q ↦ absurd (gone (still_there k j (c.list j k) q.0))
  ]
