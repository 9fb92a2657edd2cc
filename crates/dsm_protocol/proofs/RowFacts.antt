-- What each row of the table does to a wait and to a state, and what it sends to homes.
use Rattle.std.proofs.Common.{◌≡◌, ℕ, zero, suc, ◌<◌, Bool, true, false, cond, eqb, ltb, ◌&&◌, ◌⊎◌, List, [], ◌∷◌, ◌++◌, refl, sym, ap, ◌∙◌, subst, inl, inr, Option, Some, None, arith}
use Rattle.std.proofs.lemmas.Bool.Decides.{nat_tests}
use Rattle.dsm_protocol.proofs.Names.{Shape, blocks, home, Buffer, can_read, can_write, Need, Message, Read, Write, FwdRead, FwdWrite, Inval, Data, Grant, Ack, Done, Bye, Post, Wait, ByData, ByGrant, Busy, Request, DirectoryEntry, Home, others, done_with, post, invals, BlockFacts, LocalBlock, NodeRow, HomeRow, Start, meets, state_for, bytes_by, is_complete, completion, with_answer, one_ack_more, data_row, grant_row, ack_row, node_row, read_start, grant_start, write_start, start_row, start_at, ask_when, ask_row, start_or, next_or, done_when, done_row, Row, AtHome, AtNode, home_of, if_home, at_home, at_node, node_row_of, taker_in, takes_away, World, local_block, holding, row_of, wanted, is_for_home, NoneIs}
use Rattle.home_directory.specs.dsm_messages.declared.messages.Need.TheVariants as want
use Rattle.message_queues.specs.node_model.miss_handlers.Effects.{block_facts as facts}
use Rattle.dsm_protocol.proofs.SoundRows.{IfSome, if_cond, if_when, IsAbout}

abbrev pub Calm : List Post → Type 0
Calm posts = NoneIs is_for_home posts

-- what a row of a node makes of what the node had
pub record NodeFacts (old : LocalBlock) (message : Message) (row : NodeRow) : Type 0 where
  pub own : (wanted row.block.wait ≡ wanted old.wait) ⊎ (row.block.wait ≡ None)
  pub grants : (need : Need) → wanted old.wait ≡ Some need → row.block.wait ≡ None
      → meets need row.block.state ≡ true
  pub reads : can_read old.state ≡ true → (can_read row.block.state ≡ true) ⊎ (row.clears ≡ true)
  pub writes : can_write old.state ≡ true → old.wait ≡ None
      → (can_write row.block.state ≡ true) ⊎ (takes_away message ≡ true)
  pub taker : row.clears ≡ true → (r : ℕ) × (taker_in message ≡ Some r)
  pub calm : old.wait ≡ None → Calm row.sends

meets_for : (need : Need) → meets need (state_for need) ≡ true
meets_for want.Read = refl
meets_for want.Write = refl

reads_for : (need : Need) → can_read (state_for need) ≡ true
reads_for want.Read = refl
reads_for want.Write = refl

module _ (f : BlockFacts) (old : LocalBlock) (b : ℕ) (message : Message) where
  -- the wait x was there, and w is the same but for its answer and its count
  settled : (x w : Wait) → old.wait ≡ Some x → w.need ≡ x.need
      → NodeFacts old message (completion f old b w)
  settled x w is same = (elim (is_complete w.answer w.counted) as (λ t. NodeFacts old message
      (cond t (record {
        block = record {
          state = state_for w.need;
          bytes = bytes_by old.bytes w.answer;
          wait = None;
        };
        sends = post f.home (Done b) ∷ [];
        clears = false;
        gives_back = true;
      }) (record {
        block = record { state = old.state; bytes = old.bytes; wait = Some w };
        sends = [];
        clears = false;
        gives_back = false;
      }))) [
        | true ↦ record {
          own = inr refl;
          grants = λ need e gone. (let z : Some x.need ≡ Some need = sym (ap wanted is) ∙ e in
              let y : w.need ≡ need = same ∙ cc in
              subst (λ u. meets u (state_for w.need) ≡ true) y (meets_for w.need));
          reads = λ r. inl (reads_for w.need);
          writes = λ c e. absurd (let z : Some x ≡ None = sym is ∙ e in cc);
          taker = λ c. absurd cc;
          calm = λ e. absurd (let z : Some x ≡ None = sym is ∙ e in cc);
        }
        | false ↦ record {
          own = inl (ap (λ n. Some n) same ∙ sym (ap wanted is));
          grants = λ need e gone. absurd cc;
          reads = λ r. inl r;
          writes = λ c e. inl c;
          taker = λ c. absurd cc;
          calm = λ e. absurd (let z : Some x ≡ None = sym is ∙ e in cc);
        }
      ])

  data_facts : (k : ℕ) (buf : Buffer) (o : Option Wait) → old.wait ≡ o
      → IfSome (NodeFacts old message) (data_row f old b k buf o)
  data_facts k buf None is = tt
  data_facts k buf (Some x) is = if_cond (NodeFacts old message) _ _
      (settled x (with_answer x (ByData k buf)) is refl)

  grant_facts : (j k : ℕ) (buf : Buffer) (o : Option Wait) → old.wait ≡ o
      → IfSome (NodeFacts old message) (grant_row f old j b k buf o)
  grant_facts j k buf None is = tt
  grant_facts j k buf (Some x) is = if_cond (NodeFacts old message) _ _
      (settled x (with_answer x (ByGrant k buf)) is refl)

  ack_facts : (o : Option Wait) → old.wait ≡ o → IfSome (NodeFacts old message) (ack_row f old b o)
  ack_facts None is = tt
  ack_facts (Some x) is = if_cond (NodeFacts old message) _ _
      (settled x (one_ack_more x) is refl)

-- a wait that stays has not ended
stays : (o : Option Wait) (need : Need) → wanted o ≡ Some need → o ≡ None → ⊥
stays None need e gone = absurd cc
stays (Some x) need e gone = absurd cc

node_facts : (f : BlockFacts) (j : ℕ) (old : LocalBlock) (m : Message)
    → IfSome (NodeFacts old m) (node_row f old j m)
node_facts f j old (FwdRead b r buf) = if_cond (NodeFacts old (FwdRead b r buf)) _ _ (record {
  own = inl refl;
  grants = λ need e gone. absurd (stays old.wait need e gone);
  reads = λ c. inl refl;
  writes = λ c e. inr refl;
  taker = λ c. absurd cc;
  calm = λ e. (refl, tt);
})
node_facts f j old (FwdWrite b r k buf) = if_cond (NodeFacts old (FwdWrite b r k buf)) _ _ (record {
  own = inl refl;
  grants = λ need e gone. absurd (stays old.wait need e gone);
  reads = λ c. inr refl;
  writes = λ c e. inr refl;
  taker = λ c. (r, refl);
  calm = λ e. (refl, tt);
})
node_facts f j old (Inval b r) = if_cond (NodeFacts old (Inval b r)) _ _ (record {
  own = inl refl;
  grants = λ need e gone. absurd (stays old.wait need e gone);
  reads = λ c. inr refl;
  writes = λ c e. inr refl;
  taker = λ c. (r, refl);
  calm = λ e. (refl, tt);
})
node_facts f j old (Data b k buf) = data_facts f old b (Data b k buf) k buf old.wait refl
node_facts f j old (Grant b k buf) = grant_facts f old b (Grant b k buf) j k buf old.wait refl
node_facts f j old (Ack b) = ack_facts f old b (Ack b) old.wait refl
node_facts f j old other = tt

-- a home sends nothing to a home
calm_append : (xs ys : List Post) → Calm xs → Calm ys → Calm (xs ++ ys)
calm_append [] ys a b = b
calm_append (x ∷ xs) ys a b = (a.0, calm_append xs ys a.1 b)

calm_invals : (set : ℕ → Bool) (b r n : ℕ) → Calm (invals set b r n)
calm_invals set b r zero = tt
calm_invals set b r (suc n) = calm_append (invals set b r n)
    (cond (set n) (post n (Inval b r) ∷ []) []) (calm_invals set b r n)
    (elim (set n) as (λ t. Calm (cond t (post n (Inval b r) ∷ []) []))
    [ true ↦ (refl, tt) | false ↦ tt ])

abbrev CalmStart : Start → Type 0
CalmStart s = Calm s.sends

abbrev CalmHome : HomeRow → Type 0
CalmHome row = Calm row.sends

calm_start : (n : ℕ) (e : DirectoryEntry) (b r : ℕ) (need : Need) (buf : Buffer)
    → IfSome CalmStart (start_row n e b r need buf)
calm_start n e b r want.Read buf =
    (elim (e.sharers r) as (λ t. IfSome CalmStart (cond t None (Some (read_start e b r buf))))
    [ true ↦ tt | false ↦ (refl, tt) ])
calm_start n e b r want.Write buf =
    (elim (e.sharers r) as (λ t. CalmStart
    (cond t (grant_start n e b r buf) (write_start n e b r buf))) [
      | true ↦ calm_append _ _ (calm_invals (others e.sharers r) b r n) (refl, tt)
      | false ↦ calm_append _ _ (calm_invals (others e.sharers e.owner) b r n) (refl, tt)
    ])

calm_at : (h : Home) (o : Option Start) → IfSome CalmStart o → IfSome CalmHome (start_at h o)
calm_at h None s = tt
calm_at h (Some x) s = s

calm_when : (n : ℕ) (h : Home) (b r : ℕ) (need : Need) (buf : Buffer) (o : Option Busy)
    → IfSome CalmHome (ask_when n h b r need buf o)
calm_when n h b r need buf None = calm_at h _ (calm_start n h.entry b r need buf)
calm_when n h b r need buf (Some busy) = if_cond CalmHome _ _ tt

calm_ask : (n : ℕ) (h : Home) (b r : ℕ) (need : Need) (buf : Buffer)
    → IfSome CalmHome (ask_row n h b r need buf)
calm_ask n h b r need buf = if_when CalmHome _ _ (calm_when n h b r need buf h.entry.busy)

calm_next : (n : ℕ) (e : DirectoryEntry) (b : ℕ) (qs : List Request) → Calm (next_or n e b qs).sends
calm_next n e b [] = tt
calm_next n e b (q ∷ qs) = go _ (if_when CalmStart (ltb q.from n) _
    (calm_start n e b q.from q.need q.buf))
  where
    go : (o : Option Start) → IfSome CalmStart o → Calm (start_or e o).sends
    go None s = tt
    go (Some x) s = s

calm_done : (n : ℕ) (h : Home) (b r : ℕ) → IfSome CalmHome (done_row n h b r)
calm_done n h b r = if_when CalmHome _ _ (by h.entry.busy)
  where
    by : (o : Option Busy) → IfSome CalmHome (done_when n h b r o)
    by None = tt
    by (Some busy) = if_cond CalmHome _ _
        (calm_next n (done_with h.entry busy.need r) b h.waiting)

-- of a row at its home, and of a row at another node
abbrev pub RowFacts : Shape → World → ℕ → Message → Row → Type 0
RowFacts l w i message (AtHome b row) = (b < blocks l) × Calm row.sends
RowFacts l w i message (AtNode b row) =
    (b < blocks l) × IsAbout l b message × NodeFacts (local_block w i b) message row

module _ (l : Shape) (w : World) (i j : ℕ) (row : Row) where
  of_home : (message : Message) (b : ℕ) (o : Option HomeRow) → IfSome CalmHome o
      → at_home b (if_home l i b o) ≡ Some row → RowFacts l w i message row
  of_home message b o f e = go (ltb b (blocks l) && eqb (home l b) i) o f refl e
    where
      go : (t : Bool) (o : Option HomeRow) → IfSome CalmHome o
          → (ltb b (blocks l) && eqb (home l b) i) ≡ t → at_home b (cond t o None) ≡ Some row
          → RowFacts l w i message row
      go false o f is e = absurd cc
      go true None f is e = absurd cc
      go true (Some x) f is e =
          let z : AtHome b x ≡ row = cc in
          let below : b < blocks l = grind (arith, nat_tests) in
          subst (RowFacts l w i message) z (below, f)

  of_node : (message : Message) (b : ℕ) → IsAbout l b message
      → node_row_of l (holding w i) j b message ≡ Some row → RowFacts l w i message row
  of_node message b about e = go (ltb b (blocks l)) refl
      (node_row (facts l b) (local_block w i b) j message)
      (node_facts (facts l b) j (local_block w i b) message) e
    where
      go : (t : Bool) → ltb b (blocks l) ≡ t → (o : Option NodeRow)
          → IfSome (NodeFacts (local_block w i b) message) o
          → at_node b (cond t o None) ≡ Some row → RowFacts l w i message row
      go false is o f e = absurd cc
      go true is None f e = absurd cc
      go true is (Some x) f e =
          let below : b < blocks l = grind (arith, nat_tests) in
          let z : AtNode b x ≡ row = cc in
          subst (RowFacts l w i message) z (below, about, f)

  pub row_facts : (message : Message) → row_of l w i j message ≡ Some row
      → RowFacts l w i message row
  row_facts (Read b buf) e = of_home (Read b buf) b _
      (calm_ask l.nodes (home_of (holding w i) b) b j want.Read buf) e
  row_facts (Write b buf) e = of_home (Write b buf) b _
      (calm_ask l.nodes (home_of (holding w i) b) b j want.Write buf) e
  row_facts (Done b) e = of_home (Done b) b _
      (calm_done l.nodes (home_of (holding w i) b) b j) e
  row_facts (FwdRead b r buf) e = of_node (FwdRead b r buf) b refl e
  row_facts (FwdWrite b r k buf) e = of_node (FwdWrite b r k buf) b refl e
  row_facts (Inval b r) e = of_node (Inval b r) b refl e
  row_facts (Data b k buf) e = of_node (Data b k buf) b refl e
  row_facts (Grant b k buf) e = of_node (Grant b k buf) b refl e
  row_facts (Ack b) e = of_node (Ack b) b refl e
  row_facts Bye e = absurd cc
