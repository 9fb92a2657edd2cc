-- A node's turn in a core, beside what it changes of the node's blocks and of the lists.
use Rattle.std.proofs.Common.{◌≡◌, ℕ, true, false, cond, eqb, List, [], ◌∷◌, ◌++◌, Option, Some, None, refl, sym, ap, ◌∙◌, subst, append-nil}
use Rattle.std.specs.Prelude.{unwrap_or, ◌&&◌}
use Rattle.rewriting_law.proofs.Names.{Shape, block_of, first_line, changed, empty_buffer, state_with, Need, Message, Bye, Post, Wire, Wait, LocalBlock, Miss, want_row, block_facts, Row, AtHome, AtNode, row_of, line_of, PlanEntry, local_block, messages_to, with_sends, Work, Node, NodeMemory, Want, Phase, word_outcome, word_step, Turn, silent, block_at, holding, with_state, with_miss, want_in, want_all, after_word, by_row_or, handled, resumed, Core, wires_to, with_turn, messages_of}
use Rattle.dsm_protocol.specs.World.{with_list as without_first}
use Rattle.dsm_protocol.proofs.ByAddress.{bytes_in}
use Rattle.rewriting_law.proofs.one_memory.Sharing.{with_local, is_same, local_here}
use Rattle.rewriting_law.proofs.protocol_side.ProtocolSide.{Handled}
use Rattle.rewriting_law.proofs.runs.Turns.{resumed_is}
use Rattle.rewriting_law.proofs.protocol_side.Spending.{Counts, no_counts}
use Rattle.rewriting_law.proofs.protocol_side.Directory.{Rest, world_of, missed, miss_in, took, directory}
use Rattle.rewriting_law.proofs.protocol_side.Blocks.{row_own}
use Rattle.rewriting_law.proofs.one_memory.Wants.{block_wanted, ask, ask_all}

-- 1. Lists of messages, without their stamps

sent : (stamp k : ℕ) (ps : List Post) → messages_of (wires_to stamp k ps) ≡ messages_to k ps
sent stamp k [] = refl
sent stamp k (p ∷ ps) = (elim (eqb p.to k)
    as (λ t. messages_of (cond t
    (record { stamp = stamp; message = p.message } ∷ wires_to stamp k ps) (wires_to stamp k ps))
    ≡ cond t (p.message ∷ messages_to k ps) (messages_to k ps)) [
      | true ↦ ap (λ ms. p.message ∷ ms) (sent stamp k ps)
      | false ↦ sent stamp k ps
    ])

sent_behind : (stamp k : ℕ) (ps more : List Post) → messages_of (wires_to stamp k (ps ++ more))
    ≡ messages_of (wires_to stamp k ps) ++ messages_to k more
sent_behind stamp k [] more = sent stamp k more
sent_behind stamp k (p ∷ ps) more = (elim (eqb p.to k)
    as (λ t. messages_of (cond t
    (record { stamp = stamp; message = p.message } ∷ wires_to stamp k (ps ++ more))
    (wires_to stamp k (ps ++ more))) ≡ messages_of (cond t
    (record { stamp = stamp; message = p.message } ∷ wires_to stamp k ps) (wires_to stamp k ps))
    ++ messages_to k more) [
      | true ↦ ap (λ ms. p.message ∷ ms) (sent_behind stamp k ps more)
      | false ↦ sent_behind stamp k ps more
    ])

-- more is sent
sent_more : (stamp k : ℕ) (ps more : List Post) (ws : List Wire)
    → messages_of (ws ++ wires_to stamp k (ps ++ more))
    ≡ messages_of (ws ++ wires_to stamp k ps) ++ messages_to k more
sent_more stamp k ps more [] = sent_behind stamp k ps more
sent_more stamp k ps more (w ∷ ws) = ap (λ ms. w.message ∷ ms) (sent_more stamp k ps more ws)

-- 2. A core without stamps

-- where so much was wanted and taken so far
abbrev pub rest_at : Counts → Core → Rest
rest_at counts c = record {
  entry = λ i. (c.nodes i).entry;
  waiting = λ i. (c.nodes i).waiting;
  occupancy = λ i. (c.nodes i).occupancy;
  wait = λ i. (c.nodes i).wait;
  list = λ j i. messages_of (c.list j i);
  counts = counts;
}

abbrev pub rest_of : Core → Rest
rest_of c = rest_at no_counts c

abbrev pub locals_of : Core → ℕ → NodeMemory
locals_of c i = (c.nodes i).local

-- the same at each node, whatever was counted
pub record SameRest (old new : Rest) : Type 0 where
  pub entry : (i : ℕ) → new.entry i ≡ old.entry i
  pub waiting : (i : ℕ) → new.waiting i ≡ old.waiting i
  pub occupancy : (i : ℕ) → new.occupancy i ≡ old.occupancy i
  pub wait : (i : ℕ) → new.wait i ≡ old.wait i
  pub list : (j i : ℕ) → new.list j i ≡ old.list j i

-- node i's turn leaves this of its part, and of the rest
pub record IsTurn (c : Core) (i : ℕ) (t : Turn) (u : Handled Rest) : Type 0 where
  pub local : t.node.local ≡ u.local
  pub rest : SameRest u.rest (rest_of (with_turn c i t))

module _ (c : Core) (i : ℕ) where
  -- the node's own
  pub own_wait : (t : Turn) (u : Handled Rest) → IsTurn c i t u → t.node.wait ≡ u.rest.wait i
  own_wait t u h = ap (λ (n : Node). n.wait) (sym (row_own c.nodes i t.node)) ∙ h.rest.wait i

  -- the nodes' parts after the turn
  pub local_after : (t : Turn) (u : Handled Rest) → IsTurn c i t u → (x : ℕ)
      → locals_of (with_turn c i t) x ≡ with_local (locals_of c) i u.local x
  local_after t u h x = (elim (eqb x i)
      as (λ z. (cond z t.node (c.nodes x)).local ≡ cond z u.local (c.nodes x).local) [
        | true ↦ h.local
        | false ↦ refl
      ])

  -- what a node has of blocks is as before
  pub record SameParts (old new : Node) : Type 0 where
    pub local : new.local ≡ old.local
    pub entry : new.entry ≡ old.entry
    pub waiting : new.waiting ≡ old.waiting
    pub occupancy : new.occupancy ≡ old.occupancy
    pub wait : new.wait ≡ old.wait

  -- and so is its stamp
  pub record SameBlocks (old new : Node) : Type 0 where
    pub local : new.local ≡ old.local
    pub entry : new.entry ≡ old.entry
    pub waiting : new.waiting ≡ old.waiting
    pub occupancy : new.occupancy ≡ old.occupancy
    pub wait : new.wait ≡ old.wait
    pub stamp : new.stamp ≡ old.stamp

  pub other_node : (t : Turn) (n : Node) (u : Handled Rest) → SameBlocks t.node n → IsTurn c i t u
      → IsTurn c i (record t { node = n }) u
  other_node t n u same h = record {
    local = same.local ∙ h.local;
    rest = record {
      entry = λ x. (elim (eqb x i)
          as (λ z. (cond z n (c.nodes x)).entry ≡ (cond z t.node (c.nodes x)).entry) [
            | true ↦ same.entry
            | false ↦ refl
          ]) ∙ h.rest.entry x;
      waiting = λ x. (elim (eqb x i)
          as (λ z. (cond z n (c.nodes x)).waiting ≡ (cond z t.node (c.nodes x)).waiting) [
            | true ↦ same.waiting
            | false ↦ refl
          ]) ∙ h.rest.waiting x;
      occupancy = λ x. (elim (eqb x i)
          as (λ z. (cond z n (c.nodes x)).occupancy ≡ (cond z t.node (c.nodes x)).occupancy) [
            | true ↦ same.occupancy
            | false ↦ refl
          ]) ∙ h.rest.occupancy x;
      wait = λ x. (elim (eqb x i)
          as (λ z. (cond z n (c.nodes x)).wait ≡ (cond z t.node (c.nodes x)).wait) [
            | true ↦ same.wait
            | false ↦ refl
          ]) ∙ h.rest.wait x;
      list = λ j k. ap (λ s. messages_of
          (cond (eqb j i) (c.list j k ++ wires_to s k t.sends) (c.list j k))) same.stamp
          ∙ h.rest.list j k;
    };
  }

  -- the turn sends more
  pub list_more : (t : Turn) (more : List Post) (list : ℕ → ℕ → List Message)
      → ((j k : ℕ) → messages_of
      (cond (eqb j i) (c.list j k ++ wires_to t.node.stamp k t.sends) (c.list j k)) ≡ list j k)
      → (j k : ℕ) → messages_of
      (cond (eqb j i) (c.list j k ++ wires_to t.node.stamp k (t.sends ++ more)) (c.list j k))
      ≡ with_sends list i more j k
  list_more t more list h j k = (elim (eqb j i)
      as (λ z. messages_of (cond z (c.list j k ++ wires_to t.node.stamp k t.sends) (c.list j k))
      ≡ list j k → messages_of
      (cond z (c.list j k ++ wires_to t.node.stamp k (t.sends ++ more)) (c.list j k))
      ≡ cond z (list j k ++ messages_to k more) (list j k)) [
        | true ↦ (λ e. sent_more t.node.stamp k t.sends more (c.list j k)
            ∙ ap (λ ms. ms ++ messages_to k more) e)
        | false ↦ (λ e. e)
      ]) (h j k)

  pub sends_more : (t : Turn) (u : Handled Rest) (more : List Post) → IsTurn c i t u
      → IsTurn c i (record t { sends = t.sends ++ more }) (record u {
        rest = record u.rest { list = with_sends u.rest.list i more };
      })
  sends_more t u more h = record {
    local = h.local;
    rest = record {
      entry = h.rest.entry;
      waiting = h.rest.waiting;
      occupancy = h.rest.occupancy;
      wait = h.rest.wait;
      list = list_more t more u.rest.list h.rest.list;
    };
  }

  -- one of a node's fields, where its turn leaves the field as it was
  field_still : {A : Type 0} (field : Node → A) (n : Node) → field n ≡ field (c.nodes i) → (x : ℕ)
      → field (changed c.nodes i n x) ≡ field (c.nodes x)
  field_still field n same x = (elim (eqb x i)
      as (λ z. eqb x i ≡ z → field (cond z n (c.nodes x)) ≡ field (c.nodes x)) [
        | true ↦ (λ e. same ∙ ap (λ k. field (c.nodes k)) (sym (is_same x i e)))
        | false ↦ (λ e. refl)
      ]) refl

  -- and where it changes it
  field_changed : {A : Type 0} (field : Node → A) (n : Node) (value : A) → field n ≡ value
      → (x : ℕ) → field (changed c.nodes i n x) ≡ changed (λ k. field (c.nodes k)) i value x
  field_changed field n value is x = (elim (eqb x i)
      as (λ z. field (cond z n (c.nodes x)) ≡ cond z value (field (c.nodes x))) [
        | true ↦ is
        | false ↦ refl
      ])

  list_still : (stamp j k : ℕ) → messages_of
      (cond (eqb j i) (c.list j k ++ wires_to stamp k []) (c.list j k)) ≡ messages_of (c.list j k)
  list_still stamp j k = (elim (eqb j i)
      as (λ z. messages_of (cond z (c.list j k ++ []) (c.list j k)) ≡ messages_of (c.list j k)) [
        | true ↦ ap messages_of (append-nil (c.list j k))
        | false ↦ refl
      ])

  list_sent : (stamp : ℕ) (ps : List Post) (j k : ℕ) → messages_of
      (cond (eqb j i) (c.list j k ++ wires_to stamp k ps) (c.list j k))
      ≡ with_sends (λ x y. messages_of (c.list x y)) i ps j k
  list_sent stamp ps j k = (elim (eqb j i)
      as (λ z. messages_of (cond z (c.list j k ++ wires_to stamp k ps) (c.list j k))
      ≡ cond z (messages_of (c.list j k) ++ messages_to k ps) (messages_of (c.list j k))) [
        | true ↦ sent_more stamp k [] ps (c.list j k)
            ∙ ap (λ ws. messages_of ws ++ messages_to k ps) (append-nil (c.list j k))
        | false ↦ refl
      ])

  -- 3. A word, and its wants

  pub word_turned : (work : Work) (counts : Counts) → IsTurn c i (after_word work (c.nodes i))
      (record { local = (word_outcome work (c.nodes i)).local; rest = rest_at counts c })
  word_turned work counts =
      let n = word_step work (c.nodes i) in
      record {
        local = refl;
        rest = record {
          entry = field_still (λ (x : Node). x.entry) n refl;
          waiting = field_still (λ (x : Node). x.waiting) n refl;
          occupancy = field_still (λ (x : Node). x.occupancy) n refl;
          wait = field_still (λ (x : Node). x.wait) n refl;
          list = list_still n.stamp;
        };
      }

  module _ (layout : Shape) where
    abbrev pub block_by : ℕ → NodeMemory → (ℕ → Option Wait) → LocalBlock
    block_by b n wait = record {
      state = state_with (n.state (first_line layout b));
      bytes = bytes_in layout n.copy b;
      wait = wait b;
    }

    miss_turned : (t : Turn) (u : Handled Rest) (b : ℕ) (need : Need) (miss : Option Miss)
        → IsTurn c i t u
        → IsTurn c i (with_miss layout b need t miss) (missed layout u.local u.rest i b miss)
    miss_turned t u b need None h = h
    miss_turned t u b need (Some miss) h =
        let s = miss.block.state in
        let n = (with_miss layout b need t (Some miss)).node in
        record {
          local = ap (λ (x : NodeMemory). record x { state = with_state layout b s x.state }) h.local;
          rest = record {
            entry = λ x. (elim (eqb x i)
                as (λ z. (cond z n (c.nodes x)).entry ≡ (cond z t.node (c.nodes x)).entry) [
                  | true ↦ refl
                  | false ↦ refl
                ]) ∙ h.rest.entry x;
            waiting = λ x. (elim (eqb x i)
                as (λ z. (cond z n (c.nodes x)).waiting ≡ (cond z t.node (c.nodes x)).waiting) [
                  | true ↦ refl
                  | false ↦ refl
                ]) ∙ h.rest.waiting x;
            occupancy = λ x. (elim (eqb x i)
                as (λ z. (cond z n (c.nodes x)).occupancy ≡ (cond z t.node (c.nodes x)).occupancy) [
                  | true ↦ refl
                  | false ↦ refl
                ]) ∙ h.rest.occupancy x;
            wait = λ x. (elim (eqb x i)
                as (λ z. (cond z t.node (c.nodes x)).wait ≡ u.rest.wait x
                → (cond z n (c.nodes x)).wait
                ≡ cond z (changed (u.rest.wait i) b miss.block.wait) (u.rest.wait x)) [
                  | true ↦ (λ e. ap (λ f. changed f b miss.block.wait) (own_wait t u h))
                  | false ↦ (λ e. e)
                ]) (h.rest.wait x);
            list = list_more t (miss.post ∷ []) u.rest.list h.rest.list;
          };
        }

    pub want_turned : (locals : ℕ → NodeMemory) (t : Turn) (u : Handled Rest) (b : ℕ) (need : Need)
        → IsTurn c i t u → IsTurn c i (want_in layout t need (Some b))
        ((directory layout).want (with_local locals i u.local) u.rest i b need)
    want_turned locals t u b need h =
        let here = local_here locals i u.local in
        let others = with_local locals i u.local in
        let same : block_at layout t.node b ≡ local_block (world_of layout others u.rest) i b =
        ap (λ n. block_by b n t.node.wait) (h.local ∙ sym here)
        ∙ ap (λ f. block_by b (others i) f) (own_wait t u h) in
        let miss : want_row (block_facts layout b) (block_at layout t.node b) b need
        (empty_buffer 4096) ≡ miss_in layout (world_of layout others u.rest) i b need =
        ap (λ l. want_row (block_facts layout b) l b need (empty_buffer 4096)) same in
        subst (λ o. IsTurn c i (with_miss layout b need t
        (want_row (block_facts layout b) (block_at layout t.node b) b need (empty_buffer 4096)))
        (missed layout (others i) u.rest i b o)) miss
        (subst (λ n. IsTurn c i (want_in layout t need (Some b)) (missed layout n u.rest i b
        (want_row (block_facts layout b) (block_at layout t.node b) b need (empty_buffer 4096))))
        (sym here)
        (miss_turned t u b need (want_row (block_facts layout b) (block_at layout t.node b) b need
        (empty_buffer 4096)) h))

    -- each want is of a block
    abbrev pub AllFound : List Want → Type 0
    AllFound [] = Unit {0}
    AllFound (w ∷ ws) = ((b : ℕ) × (block_of layout (line_of w.at) ≡ Some b)) × AllFound ws

    pub wants_turned : (work : Work) (plan : List PlanEntry) (locals : ℕ → NodeMemory)
        (ws : List Want) (t : Turn) (u : Handled Rest) → AllFound ws → IsTurn c i t u
        → IsTurn c i (want_all layout t ws)
        (ask_all layout work plan (directory layout) locals i u ws)
    wants_turned work plan locals [] t u found h = h
    wants_turned work plan locals (w ∷ ws) t u found h =
        let b = found.0.0 in
        let is : block_of layout (line_of w.at)
        ≡ Some (block_wanted layout work plan (directory layout) w) =
        found.0.1 ∙ ap (λ o. Some (unwrap_or o 0)) (sym found.0.1) in
        let next = ask layout work plan (directory layout) locals i u w in
        wants_turned work plan locals ws (want_in layout t w.need (block_of layout (line_of w.at)))
        next found.1 (subst (λ o. IsTurn c i (want_in layout t w.need o) next) (sym is)
        (want_turned locals t u (block_wanted layout work plan (directory layout) w) w.need h))

  -- 4. A message

  -- the core without the message is c; `before` are its lists, of which node i took the first of
  -- that from j
  module _ (layout : Shape) (counts : Counts) (before : ℕ → ℕ → List Wire) (j : ℕ)
      (wires : List Wire)
      (lists : (x y : ℕ) → c.list x y ≡ cond (eqb x j && eqb y i) wires (before x y)) where
    abbrev rest_before : Rest
    rest_before = record {
      entry = λ x. (c.nodes x).entry;
      waiting = λ x. (c.nodes x).waiting;
      occupancy = λ x. (c.nodes x).occupancy;
      wait = λ x. (c.nodes x).wait;
      list = λ x y. messages_of (before x y);
      counts = counts;
    }

    list_taken : (x y : ℕ) → messages_of (c.list x y)
        ≡ without_first (λ x y. messages_of (before x y)) j i (messages_of wires) x y
    list_taken x y = ap messages_of (lists x y) ∙ (elim (eqb x j && eqb y i)
        as (λ z. messages_of (cond z wires (before x y))
        ≡ cond z (messages_of wires) (messages_of (before x y))) [ true ↦ refl | false ↦ refl ])

    list_answered : (stamp : ℕ) (ps : List Post) (x y : ℕ) → messages_of
        (cond (eqb x i) (c.list x y ++ wires_to stamp y ps) (c.list x y))
        ≡ with_sends (without_first (λ x y. messages_of (before x y)) j i (messages_of wires)) i ps
        x y
    list_answered stamp ps x y = list_sent stamp ps x y ∙ (elim (eqb x i)
        as (λ z. cond z (messages_of (c.list x y) ++ messages_to y ps) (messages_of (c.list x y))
        ≡ cond z (without_first (λ x y. messages_of (before x y)) j i (messages_of wires) x y
        ++ messages_to y ps)
        (without_first (λ x y. messages_of (before x y)) j i (messages_of wires) x y)) [
          | true ↦ ap (λ ms. ms ++ messages_to y ps) (list_taken x y)
          | false ↦ list_taken x y
        ])

    module _ (n : Node) (same : SameParts (c.nodes i) n) where
      -- without a row
      silent_turned : (m : Node) → SameParts n m → IsTurn c i (silent m)
          (took layout (c.nodes i).local rest_before i j (messages_of wires) None)
      silent_turned m still = record {
        local = still.local ∙ same.local;
        rest = record {
          entry = field_still (λ (x : Node). x.entry) m (still.entry ∙ same.entry);
          waiting = field_still (λ (x : Node). x.waiting) m (still.waiting ∙ same.waiting);
          occupancy = field_still (λ (x : Node). x.occupancy) m
              (still.occupancy ∙ same.occupancy);
          wait = field_still (λ (x : Node). x.wait) m (still.wait ∙ same.wait);
          list = λ x y. list_still m.stamp x y ∙ list_taken x y;
        };
      }

      row_turned : (row : Option Row) → IsTurn c i (by_row_or layout n row)
          (took layout (c.nodes i).local rest_before i j (messages_of wires) row)
      row_turned None =
          silent_turned n (record {
            local = refl;
            entry = refl;
            waiting = refl;
            occupancy = refl;
            wait = refl;
          })
      row_turned (Some (AtHome b row)) =
          let m = (by_row_or layout n (Some (AtHome b row))).node in
          record {
            local = same.local;
            rest = record {
              entry = field_changed (λ (x : Node). x.entry) m
                  (changed (c.nodes i).entry b row.home.entry)
                  (ap (λ f. changed f b row.home.entry) same.entry);
              waiting = field_changed (λ (x : Node). x.waiting) m
                  (changed (c.nodes i).waiting b row.home.waiting)
                  (ap (λ f. changed f b row.home.waiting) same.waiting);
              occupancy = field_changed (λ (x : Node). x.occupancy) m row.home.occupancy refl;
              wait = field_still (λ (x : Node). x.wait) m same.wait;
              list = list_answered n.stamp row.sends;
            };
          }
      row_turned (Some (AtNode b row)) =
          let m = (by_row_or layout n (Some (AtNode b row))).node in
          record {
            local = ap (λ (x : NodeMemory). (by_row_or layout (record n { local = x })
                (Some (AtNode b row))).node.local) same.local;
            rest = record {
              entry = field_still (λ (x : Node). x.entry) m same.entry;
              waiting = field_still (λ (x : Node). x.waiting) m same.waiting;
              occupancy = field_still (λ (x : Node). x.occupancy) m same.occupancy;
              wait = field_changed (λ (x : Node). x.wait) m
                  (changed (c.nodes i).wait b row.block.wait)
                  (ap (λ f. changed f b row.block.wait) same.wait);
              list = list_answered n.stamp row.sends;
            };
          }

      pub message_turned : (message : Message) → IsTurn c i (handled layout n j message)
          (took layout (c.nodes i).local rest_before i j (messages_of wires)
          (row_of layout n.me (holding layout n) j message))
      message_turned Bye = silent_turned (record n { byes = changed n.byes j true })
          (record {
            local = refl;
            entry = refl;
            waiting = refl;
            occupancy = refl;
            wait = refl;
          })
      message_turned other = row_turned (row_of layout n.me (holding layout n) j other)

  -- 5. Going on

  pub resumed_blocks : (work : Work) (n : Node) (phase : Phase)
      → SameBlocks n (resumed work n phase)
  resumed_blocks work n =
      let same : SameBlocks n n = record {
        local = refl;
        entry = refl;
        waiting = refl;
        occupancy = refl;
        wait = refl;
        stamp = refl;
      } in
      resumed_is work n (SameBlocks n) same (λ resume. record {
        local = refl;
        entry = refl;
        waiting = refl;
        occupancy = refl;
        wait = refl;
        stamp = refl;
      })
