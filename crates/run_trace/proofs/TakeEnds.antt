-- What a take left, by what is seen of it.
use Rattle.std.proofs.Common.{◌≡◌, ℕ, ◌+◌, Bool, true, false, not, cond, eqb, ltb, ◌&&◌, ◌||◌, List, [], ◌∷◌, map, Option, Some, None, refl, sym, ap, ◌∙◌, ⊎_elim, arith, eq-eqb, ne_eqb}
use Rattle.std.specs.Prelude.{is_some}
use Rattle.std.specs.Option.{option_map}
use Rattle.block_layout.specs.Layout.{Shape, blocks, home}
use Rattle.block_layout.specs.Update.{changed}
use Rattle.replay.specs.node_model.home_directory.dsm_messages.declared.messages.Message.{Message}
use Rattle.replay.specs.node_model.home_directory.dsm_messages.declared.messages.Message.TheVariants.{Read, Write, FwdRead, FwdWrite, Inval, Data, Grant, Ack, Done, Bye}
use Rattle.buf_pool.specs.Pool.{Buffer}
use Rattle.replay.specs.node_model.home_directory.dsm_messages.declared.messages.Need.{Need}
use Rattle.replay.specs.node_model.home_directory.dsm_messages.declared.messages.Need.TheVariants.{Read as reading, Write as writing}
use Rattle.replay.specs.node_model.home_directory.dsm_messages.declared.messages.Post.{Post}
use Rattle.replay.specs.node_model.home_directory.dsm_messages.Headers.{header_of, sent_by}
use Rattle.replay.specs.node_model.home_directory.Table.{HomeRow, NodeRow, ask_row, done_row, node_row}
use Rattle.replay.specs.node_model.miss_handlers.Effects.{block_facts}
use Rattle.replay.specs.node_model.miss_handlers.Rows.{AtHome, AtNode, row_of, ask_row_of, node_row_of, home_of, at_home, at_node}
use Rattle.replay.specs.node_model.declared.NodeCounts.{NodeCounts}
use Rattle.replay.specs.node_model.Node.{Work, Node, Phase, Running, Resumed, Waiting, Ended, Tally, Nothing_counted, FalseMiss, FallsBack, counts_after, end_of}
use Rattle.replay.specs.node_model.Turns.{Turn, block_at, holding, by_row_or, handled, has_no_wait, resumed, count_row, is_ended}
use Rattle.replay.specs.node_machine.Wanted.{state_at}
use Rattle.run_trace.specs.Traced.{state_if, ends_anew}
use Rattle.run_trace.specs.Taking.{has_items, answered_in, counted_in, view_of, view_in, sight_of, is_apart, is_other, is_changed}
use Rattle.run_trace.proofs.Meets.{OnSome, any, TellsHome, TellsNode, ask_on, done_on, node_on}

-- 1. Whether something is seen to have changed

or_true : (a : Bool) → (a || true) ≡ true
or_true true = refl
or_true false = refl

apart_same : (b : Bool) → is_apart b b ≡ false
apart_same true = refl
apart_same false = refl

more_apart : (x y : ℕ) → y ≡ x + 1 → not (eqb x y) ≡ true
more_apart x y e = ap not (ne_eqb x y (λ q. omega (arith, e, q)))

-- of two nodes, at a block
abbrev pub flag : (s : Bool) (n u : Node) (b : ℕ) → Bool
flag s n u b = s || (not (eqb n.occupancy u.occupancy)
    || (is_apart (is_some (n.entry b).busy) (is_some (u.entry b).busy)
    || (is_apart (answered_in (n.wait b)) (answered_in (u.wait b))
    || not (eqb (counted_in (n.wait b)) (counted_in (u.wait b))))))

module _ (s : Bool) (n u : Node) (b : ℕ) where
  by_sends : s ≡ true → flag s n u b ≡ true
  by_sends e = rw e refl

  by_occupancy : u.occupancy ≡ n.occupancy + 1 → flag s n u b ≡ true
  by_occupancy e = rw (more_apart n.occupancy u.occupancy e) (or_true s)

  by_busy : is_some (n.entry b).busy ≡ true → is_some (u.entry b).busy ≡ false → flag s n u b ≡ true
  by_busy e f = rw e (rw f (ap (λ x. s || x) (or_true (not (eqb n.occupancy u.occupancy))) ∙ or_true s))

  by_answer : answered_in (n.wait b) ≡ false → answered_in (u.wait b) ≡ true → flag s n u b ≡ true
  by_answer e f = rw e (rw f (ap (λ x. s || (not (eqb n.occupancy u.occupancy) || x))
      (or_true (is_apart (is_some (n.entry b).busy) (is_some (u.entry b).busy)))
      ∙ ap (λ x. s || x) (or_true (not (eqb n.occupancy u.occupancy))) ∙ or_true s))

  by_count : counted_in (u.wait b) ≡ counted_in (n.wait b) + 1 → flag s n u b ≡ true
  by_count e = rw (more_apart (counted_in (n.wait b)) (counted_in (u.wait b)) e)
      (ap (λ x. s || (not (eqb n.occupancy u.occupancy) || (is_apart (is_some (n.entry b).busy) (is_some (u.entry b).busy) || x)))
      (or_true (is_apart (answered_in (n.wait b)) (answered_in (u.wait b))))
      ∙ ap (λ x. s || (not (eqb n.occupancy u.occupancy) || x))
      (or_true (is_apart (is_some (n.entry b).busy) (is_some (u.entry b).busy)))
      ∙ ap (λ x. s || x) (or_true (not (eqb n.occupancy u.occupancy))) ∙ or_true s)

-- what a node has of the protocol but for its lines' states
pub record HasSame (n u : Node) : Type 0 where
  pub entry : u.entry ≡ n.entry
  pub wait : u.wait ≡ n.wait
  pub occupancy : u.occupancy ≡ n.occupancy

other_same : (layout : Shape) (n u : Node) (o : Option ℕ) → HasSame n u
    → is_other (view_in layout n o) (view_in layout u o) ≡ false
other_same layout n u None h = refl
other_same layout n u (Some b) h = go (ltb b (blocks layout))
  where
    busy : is_apart (is_some (n.entry b).busy) (is_some (u.entry b).busy) ≡ false
    busy = (λ t. is_apart (is_some (n.entry b).busy) (is_some (h.entry t b).busy)) ∙ apart_same (is_some (n.entry b).busy)

    answer : is_apart (answered_in (n.wait b)) (answered_in (u.wait b)) ≡ false
    answer = (λ t. is_apart (answered_in (n.wait b)) (answered_in (h.wait t b))) ∙ apart_same (answered_in (n.wait b))

    count : not (eqb (counted_in (n.wait b)) (counted_in (u.wait b))) ≡ false
    count = ap not (eq-eqb (counted_in (n.wait b)) (counted_in (u.wait b)) (λ t. counted_in (sym h.wait t b)))

    go : (t : Bool) → is_other (cond t (Some (view_of layout n b)) None) (cond t (Some (view_of layout u b)) None) ≡ false
    go true = rw busy (rw answer count)
    go false = refl

pub same_unseen : (layout : Shape) (n u : Node) (o : Option ℕ) → HasSame n u
    → is_changed (sight_of layout n o) (sight_of layout u o) ≡ false
same_unseen layout n u o h =
    let occupancy : not (eqb n.occupancy u.occupancy) ≡ false =
    ap not (eq-eqb n.occupancy u.occupancy (sym h.occupancy)) in
    rw occupancy (other_same layout n u o h)

-- at a block of the layout
changed_at : (layout : Shape) (n u : Node) (s : Bool) (b : ℕ) → ltb b (blocks layout) ≡ true
    → (s || is_changed (sight_of layout n (Some b)) (sight_of layout u (Some b))) ≡ flag s n u b
changed_at layout n u s b below = rw below refl

flag_same : (s : Bool) (n k u : Node) (b : ℕ) → HasSame k u → flag s n u b ≡ flag s n k b
flag_same s n k u b h = λ t. s || (not (eqb n.occupancy (h.occupancy t))
    || (is_apart (is_some (n.entry b).busy) (is_some (h.entry t b).busy)
    || (is_apart (answered_in (n.wait b)) (answered_in (h.wait t b))
    || not (eqb (counted_in (n.wait b)) (counted_in (h.wait t b))))))

-- 2. A node that goes on, or doesn't

cond_same : (t : Bool) (n u k : Node) → HasSame n u → HasSame n k → HasSame n (cond t u k)
cond_same true n u k p q = p
cond_same false n u k p q = q

itself : (n : Node) → HasSame n n
itself n = record { entry = refl; wait = refl; occupancy = refl }

resumed_same : (work : Work) (n : Node) (p : Phase) → HasSame n (resumed work n p)
resumed_same work n Running = itself n
resumed_same work n Resumed = itself n
resumed_same work n (Ended e) = itself n
resumed_same work n (Waiting r) =
    cond_same (has_no_wait work.layout n) n _ n (record { entry = refl; wait = refl; occupancy = refl }) (itself n)

-- 3. A row

items_any : (xs : List Post) → has_items (map sent_by xs) ≡ any xs
items_any [] = refl
items_any (x ∷ xs) = refl

-- what is seen once a node has made a turn for a message about a block
abbrev pub seen_of : Work → Node → Option ℕ → Turn → Bool
seen_of work n b t = has_items (map sent_by t.sends)
    || is_changed (sight_of work.layout n b) (sight_of work.layout (resumed work t.node t.node.phase) b)

module _ (work : Work) (n m : Node) (like : HasSame n m) where
  unmet : (b : Option ℕ) (k : Node) → HasSame m k → seen_of work n b (record { node = k; sends = []; printed = None }) ≡ false
  unmet b k h =
      let r = resumed_same work k k.phase in
      same_unseen work.layout n (resumed work k k.phase) b (record {
        entry = r.entry ∙ h.entry ∙ like.entry;
        wait = r.wait ∙ h.wait ∙ like.wait;
        occupancy = r.occupancy ∙ h.occupancy ∙ like.occupancy;
      })

  met : (b : ℕ) (t : Turn) → ltb b (blocks work.layout) ≡ true → flag (any t.sends) n t.node b ≡ true
      → seen_of work n (Some b) t ≡ true
  met b t below e =
      changed_at work.layout n (resumed work t.node t.node.phase) (has_items (map sent_by t.sends)) b below
      ∙ flag_same (has_items (map sent_by t.sends)) n t.node (resumed work t.node t.node.phase) b (resumed_same work t.node t.node.phase)
      ∙ ap (λ s. flag s n t.node b) (items_any t.sends) ∙ e

  home_flag : (b : ℕ) (row : HomeRow) → TellsHome (home_of (holding work.layout m) b) row
      → flag (any row.sends) n (by_row_or work.layout m (Some (AtHome b row))).node b ≡ true
  home_flag b row h =
      let u = (by_row_or work.layout m (Some (AtHome b row))).node in
      let here : u.entry b ≡ row.home.entry = rw (eq-eqb b b refl) refl in
      ⊎_elim (λ e. by_sends (any row.sends) n u b e) (λ x. ⊎_elim
      (λ (e : row.home.occupancy ≡ m.occupancy + 1). by_occupancy (any row.sends) n u b (e ∙ ap (λ k. k + 1) like.occupancy))
      (λ (e : (is_some (m.entry b).busy ≡ true) × (is_some row.home.entry.busy ≡ false)). by_busy (any row.sends) n u b
      ((λ t. is_some (sym like.entry t b).busy) ∙ e.0) (ap (λ z. is_some z.busy) here ∙ e.1)) x) h

  node_flag : (b : ℕ) (row : NodeRow) → TellsNode (block_at work.layout m b) row
      → flag (any row.sends) n (by_row_or work.layout m (Some (AtNode b row))).node b ≡ true
  node_flag b row h =
      let u = (by_row_or work.layout m (Some (AtNode b row))).node in
      let here : u.wait b ≡ row.block.wait = rw (eq-eqb b b refl) refl in
      ⊎_elim (λ e. by_sends (any row.sends) n u b e) (λ x. ⊎_elim
      (λ (e : (answered_in (m.wait b) ≡ false) × (answered_in row.block.wait ≡ true)). by_answer (any row.sends) n u b
      ((λ t. answered_in (sym like.wait t b)) ∙ e.0) (ap answered_in here ∙ e.1))
      (λ (e : counted_in row.block.wait ≡ counted_in (m.wait b) + 1). by_count (any row.sends) n u b
      (ap counted_in here ∙ e ∙ (λ t. counted_in (like.wait t b) + 1))) x) h

  home_case : (b : ℕ) (p q : Bool) (o : Option HomeRow) → ltb b (blocks work.layout) ≡ p
      → OnSome o (TellsHome (home_of (holding work.layout m) b))
      → seen_of work n (Some b) (by_row_or work.layout m (at_home b (cond (p && q) o None)))
      ≡ is_some (at_home b (cond (p && q) o None))
  home_case b true true (Some row) is h =
      met b (by_row_or work.layout m (Some (AtHome b row))) is (home_flag b row h)
  home_case b true true None is h = unmet (Some b) m (itself m)
  home_case b true false o is h = unmet (Some b) m (itself m)
  home_case b false q o is h = unmet (Some b) m (itself m)

  node_case : (b : ℕ) (p : Bool) (o : Option NodeRow) → ltb b (blocks work.layout) ≡ p
      → OnSome o (TellsNode (block_at work.layout m b))
      → seen_of work n (Some b) (by_row_or work.layout m (at_node b (cond p o None)))
      ≡ is_some (at_node b (cond p o None))
  node_case b true (Some row) is h =
      met b (by_row_or work.layout m (Some (AtNode b row))) is (node_flag b row h)
  node_case b true None is h = unmet (Some b) m (itself m)
  node_case b false o is h = unmet (Some b) m (itself m)

  ask_case : (j b : ℕ) (need : Need) (buf : Buffer)
      → seen_of work n (Some b) (by_row_or work.layout m (ask_row_of work.layout m.me (holding work.layout m) j b need buf))
      ≡ is_some (ask_row_of work.layout m.me (holding work.layout m) j b need buf)
  ask_case j b need buf = home_case b (ltb b (blocks work.layout)) (eqb (home work.layout b) m.me)
      (ask_row work.layout.nodes (home_of (holding work.layout m) b) b j need buf) refl
      (ask_on work.layout.nodes (home_of (holding work.layout m) b) b j need buf)

  of_node : (j b : ℕ) (msg : Message)
      → seen_of work n (Some b) (by_row_or work.layout m (node_row_of work.layout (holding work.layout m) j b msg))
      ≡ is_some (node_row_of work.layout (holding work.layout m) j b msg)
  of_node j b msg = node_case b (ltb b (blocks work.layout))
      (node_row (block_facts work.layout b) (block_at work.layout m b) j msg) refl
      (node_on (block_facts work.layout b) (block_at work.layout m b) j msg)

  pub meets_seen : (j : ℕ) (msg : Message) → seen_of work n (header_of msg).block (handled work.layout m j msg)
      ≡ is_some (row_of work.layout m.me (holding work.layout m) j msg)
  meets_seen j (Read b buf) = ask_case j b reading buf
  meets_seen j (Write b buf) = ask_case j b writing buf
  meets_seen j (FwdRead b r buf) = of_node j b (FwdRead b r buf)
  meets_seen j (FwdWrite b r k buf) = of_node j b (FwdWrite b r k buf)
  meets_seen j (Inval b r) = of_node j b (Inval b r)
  meets_seen j (Data b k buf) = of_node j b (Data b k buf)
  meets_seen j (Grant b k buf) = of_node j b (Grant b k buf)
  meets_seen j (Ack b) = of_node j b (Ack b)
  meets_seen j (Done b) = home_case b (ltb b (blocks work.layout)) (eqb (home work.layout b) m.me)
      (done_row work.layout.nodes (home_of (holding work.layout m) b) b j) refl
      (done_on work.layout.nodes (home_of (holding work.layout m) b) b j)
  meets_seen j Bye = unmet None (record m { byes = changed m.byes j true }) (record { entry = refl; wait = refl; occupancy = refl })

-- 4. What else is seen

pub view_state : (layout : Shape) (n : Node) (o : Option ℕ)
    → option_map (λ v. v.state) (view_in layout n o) ≡ state_if layout n o
view_state layout n None = refl
view_state layout n (Some b) = go (ltb b (blocks layout))
  where
    go : (t : Bool) → option_map (λ v. v.state) (cond t (Some (view_of layout n b)) None)
        ≡ cond t (state_at layout n (Some b)) None
    go true = refl
    go false = refl

tally_invalidations : (t : Tally) (c : NodeCounts) → (counts_after t c).invalidations ≡ c.invalidations
tally_invalidations Nothing_counted c = refl
tally_invalidations FalseMiss c = refl
tally_invalidations FallsBack c = refl

-- a block was given up where one invalidation more is counted
pub given_seen : (t : Tally) (given : Bool) (k : ℕ) (before after : NodeCounts)
    → after ≡ counts_after t (count_row given k before)
    → not (eqb after.invalidations before.invalidations) ≡ given
given_seen t given k before after is =
    ap (λ (c : NodeCounts). not (eqb c.invalidations before.invalidations)) is
    ∙ ap (λ x. not (eqb x before.invalidations)) (tally_invalidations t (count_row given k before)) ∙ by given
  where
    by : (g : Bool) → not (eqb (count_row g k before).invalidations before.invalidations) ≡ g
    by true = ap not (ne_eqb (before.invalidations + 1) before.invalidations (λ q. omega (arith, q)))
    by false = ap not (eq-eqb before.invalidations before.invalidations refl)

row_others : (t : Tally) (given : Bool) (k : ℕ) (c : NodeCounts)
    → ((counts_after t (count_row given k c)).falses ≡ (counts_after t c).falses)
    × ((counts_after t (count_row given k c)).fallbacks ≡ (counts_after t c).fallbacks)
row_others Nothing_counted given k c = (refl, refl)
row_others FalseMiss given k c = (refl, refl)
row_others FallsBack given k c = (refl, refl)

pub take_others : (t : Tally) (given : Bool) (k : ℕ) (before after : NodeCounts)
    → after ≡ counts_after t (count_row given k before)
    → (after.falses ≡ (counts_after t before).falses) × (after.fallbacks ≡ (counts_after t before).fallbacks)
take_others t given k before after is =
    let o = row_others t given k before in
    (ap (λ (c : NodeCounts). c.falses) is ∙ o.0, ap (λ (c : NodeCounts). c.fallbacks) is ∙ o.1)

and_false : (b : Bool) → (b && false) ≡ false
and_false true = refl
and_false false = refl

end_now : (q : Phase) → is_some (end_of q) ≡ (is_ended q && true)
end_now Running = refl
end_now Resumed = refl
end_now (Waiting r) = refl
end_now (Ended e) = refl

pub ended_anew : (p q : Phase) → is_some (ends_anew (end_of p) (end_of q)) ≡ (is_ended q && not (is_ended p))
ended_anew (Ended e) q = sym (and_false (is_ended q))
ended_anew Running q = end_now q
ended_anew Resumed q = end_now q
ended_anew (Waiting r) q = end_now q
