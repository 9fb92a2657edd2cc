-- A row reads and changes the wait of its block alone, and reservations in its block alone.
use Rattle.std.proofs.Common.{◌≡◌, ◌≢◌, ℕ, ◌<◌, ◌≤◌, ◌&&◌, ◌⊎◌, Bool, true, false, cond, eqb, ltb, List, [], length, Option, Some, None, refl, sym, ap, ◌∙◌, subst, inl, inr, arith}
use Rattle.std.proofs.Math.Path.{fun_ext}
use Rattle.std.proofs.lemmas.Bool.Decides.{eqb_tells, nat_tests}
use Rattle.block_layout.specs.Layout.{Shape, blocks}
use Rattle.block_layout.specs.Update.{changed}
use Rattle.llsc.specs.Reservation.{cleared}
use Rattle.home_directory.specs.dsm_messages.declared.messages.Message.{Message}
use Rattle.home_directory.specs.dsm_messages.declared.messages.Message.TheVariants.{Read, Write, FwdRead, FwdWrite, Inval, Data, Grant, Ack, Done, Bye}
use Rattle.home_directory.specs.dsm_messages.declared.messages.Post.{Post}
use Rattle.home_directory.specs.declared.wait.Wait.{Wait}
use Rattle.home_directory.specs.Table.{HomeRow, NodeRow, node_row}
use Rattle.node_machine.specs.miss_handlers.Effects.{block_facts, named_block}
use Rattle.node_machine.specs.miss_handlers.Rows.{Row, AtHome, AtNode, at_home, at_node, node_row_of, row_of}
use Rattle.lane_model.specs.node_model.Node.{Node}
use Rattle.lane_model.specs.node_model.Turns.{Turn, silent, block_at, holding, by_row, by_row_or, handled}
use Rattle.node_machine.specs.ProtocolState.{is_order, turn_by}
use Rattle.lane_machine.specs.Words.{cleared_by}
use Rattle.node_machine.proofs.RowLemmas.{RowFacts, row_facts}

-- 1. What row a message has

pub data RowCase (l : Shape) (n : Node) (m : Message) (o : Option Row) : Type 0 where
  NoRow : o ≡ None → RowCase l n m o
  HomeCase : (b : ℕ) (row : HomeRow) → o ≡ Some (AtHome b row) → named_block m ≡ Some b → is_order m ≡ false
      → RowCase l n m o
  NodeCase : (b : ℕ) (row : NodeRow) → o ≡ Some (AtNode b row) → named_block m ≡ Some b → b < blocks l
      → RowFacts m (block_at l n b) row → RowCase l n m o

home_case : (l : Shape) (n : Node) (m : Message) (b : ℕ) (o : Option HomeRow) → named_block m ≡ Some b → is_order m ≡ false
    → RowCase l n m (at_home b o)
home_case l n m b None named order = NoRow refl
home_case l n m b (Some row) named order = HomeCase b row refl named order

node_case : (l : Shape) (n : Node) (m : Message) (j b : ℕ) → named_block m ≡ Some b
    → RowCase l n m (node_row_of l (holding l n) j b m)
node_case l n m j b named = go (ltb b (blocks l)) refl
  where
    one : (low : b < blocks l) (o : Option NodeRow) → node_row (block_facts l b) (block_at l n b) j m ≡ o
        → RowCase l n m (at_node b o)
    one low None is = NoRow refl
    one low (Some row) is = NodeCase b row refl named low (row_facts (block_facts l b) (block_at l n b) j m row is)

    go : (t : Bool) → ltb b (blocks l) ≡ t
        → RowCase l n m (at_node b (cond t (node_row (block_facts l b) (block_at l n b) j m) None))
    go true e = one (let f = e in grind (arith, nat_tests)) (node_row (block_facts l b) (block_at l n b) j m) refl
    go false e = NoRow refl

pub row_case : (l : Shape) (n : Node) (j : ℕ) (m : Message) → RowCase l n m (row_of l n.me (holding l n) j m)
row_case l n j (Read b buf) = home_case l n (Read b buf) b _ refl refl
row_case l n j (Write b buf) = home_case l n (Write b buf) b _ refl refl
row_case l n j (Done b) = home_case l n (Done b) b _ refl refl
row_case l n j (FwdRead b r buf) = node_case l n (FwdRead b r buf) j b refl
row_case l n j (FwdWrite b r k buf) = node_case l n (FwdWrite b r k buf) j b refl
row_case l n j (Inval b r) = node_case l n (Inval b r) j b refl
row_case l n j (Data b k buf) = node_case l n (Data b k buf) j b refl
row_case l n j (Grant b k buf) = node_case l n (Grant b k buf) j b refl
row_case l n j (Ack b) = node_case l n (Ack b) j b refl
row_case l n j Bye = NoRow refl

-- 2. The waits and the reservation of another node that has all else alike

abbrev pub with_own : Node → (ℕ → Option Wait) → Option ℕ → Node
with_own n wait reserved = record n { wait = wait; local = record n.local { reservation = reserved } }

-- the waits, with that for one block as others have it
abbrev pub patched : Option ℕ → (wait other : ℕ → Option Wait) → ℕ → Option Wait
patched None wait other = wait
patched (Some b) wait other = changed wait b (other b)

-- the block that was given up, where so many messages were sent
abbrev pub given_by : Message → List Post → Option ℕ
given_by m posts = cond (is_order m && ltb 0 (length posts)) (named_block m) None

-- the same, by what the code has: the block that an order names, where a message was sent
pub given_is : (m : Message) (posts : List Post)
    → cond (ltb 0 (length posts)) (cond (is_order m) (named_block m) None) None ≡ given_by m posts
given_is m posts = go (is_order m) (ltb 0 (length posts))
  where
    go : (s t : Bool) → cond t (cond s (named_block m) None) None ≡ cond (s && t) (named_block m) None
    go true true = refl
    go true false = refl
    go false true = refl
    go false false = refl

changed_same : (f : ℕ → Option Wait) (b : ℕ) (v : Option Wait) → f b ≡ v → changed f b v ≡ f
changed_same f b v e = fun_ext (λ x. elim (eqb_tells x b) [
  | inl q ↦ rw q.0 (sym e ∙ ap f (sym q.1))
  | inr q ↦ rw q.0 refl
])

changed_at : (f : ℕ → Option Wait) (b : ℕ) (v : Option Wait) → changed f b v b ≡ v
changed_at f b v = let t : eqb b b ≡ true = grind (arith, nat_tests) in rw t refl

pub some_same : (a b : ℕ) → Some a ≡ Some b → a ≡ b
some_same a b e = cc

module _ (l : Shape) (n : Node) (wait : ℕ → Option Wait) (reserved : Option ℕ) (j : ℕ) where
  same_row_at : (b : ℕ) (m : Message) → wait b ≡ n.wait b
      → node_row_of l (holding l (with_own n wait reserved)) j b m ≡ node_row_of l (holding l n) j b m
  same_row_at b m e = ap (λ (w : Option Wait). at_node b (cond (ltb b (blocks l))
      (node_row (block_facts l b) (record (block_at l n b) { wait = w }) j m) None)) e

  same_row : (m : Message) → ((b : ℕ) → named_block m ≡ Some b → wait b ≡ n.wait b)
      → row_of l n.me (holding l (with_own n wait reserved)) j m ≡ row_of l n.me (holding l n) j m
  same_row (Read b buf) h = refl
  same_row (Write b buf) h = refl
  same_row (Done b) h = refl
  same_row (FwdRead b r buf) h = same_row_at b (FwdRead b r buf) (h b refl)
  same_row (FwdWrite b r k buf) h = same_row_at b (FwdWrite b r k buf) (h b refl)
  same_row (Inval b r) h = same_row_at b (Inval b r) (h b refl)
  same_row (Data b k buf) h = same_row_at b (Data b k buf) (h b refl)
  same_row (Grant b k buf) h = same_row_at b (Grant b k buf) (h b refl)
  same_row (Ack b) h = same_row_at b (Ack b) (h b refl)
  same_row Bye h = refl

  -- what came of a row of n
  abbrev carried : Message → Turn → Turn
  carried m t = turn_by
      (with_own t.node (patched (named_block m) wait t.node.wait) (cleared_by l (given_by m t.sends) reserved))
      t.sends t.printed

  carried_by : (m : Message) (o : Option Row) → RowCase l n m o
      → ((b : ℕ) → named_block m ≡ Some b → wait b ≡ n.wait b)
      → by_row_or l (with_own n wait reserved) o ≡ carried m (by_row_or l n o)
  carried_by m o (NoRow is) h =
      let waits : patched (named_block m) wait n.wait ≡ wait = go (named_block m) refl in
      let given : given_by m [] ≡ None = none_of (is_order m) in
      subst (λ (x : Option Row). by_row_or l (with_own n wait reserved) x ≡ carried m (by_row_or l n x)) (sym is)
      (λ t. silent (with_own n (sym waits t) (cleared_by l (sym given t) reserved)))
    where
      go : (o : Option ℕ) → named_block m ≡ o → patched o wait n.wait ≡ wait
      go None e = refl
      go (Some b) e = changed_same wait b (n.wait b) (h b e)

      none_of : (t : Bool) → cond (t && false) (named_block m) None ≡ None
      none_of true = refl
      none_of false = refl
  carried_by m o (HomeCase b row is named order) h =
      let waits : patched (named_block m) wait n.wait ≡ wait =
      ap (λ x. patched x wait n.wait) named ∙ changed_same wait b (n.wait b) (h b named) in
      let given : given_by m row.sends ≡ None = ap (λ t. cond (t && ltb 0 (length row.sends)) (named_block m) None) order in
      subst (λ (x : Option Row). by_row_or l (with_own n wait reserved) x ≡ carried m (by_row_or l n x)) (sym is)
      (λ t. turn_by (with_own (by_row l n (AtHome b row)).node (sym waits t) (cleared_by l (sym given t) reserved)) row.sends None)
  carried_by m o (NodeCase b row is named low facts) h =
      let waits : patched (named_block m) wait (changed n.wait b row.block.wait) ≡ changed wait b row.block.wait =
      ap (λ x. patched x wait (changed n.wait b row.block.wait)) named
      ∙ ap (changed wait b) (changed_at n.wait b row.block.wait) in
      let given : given_by m row.sends ≡ cond row.clears (Some b) None =
      ap (λ t. cond t (named_block m) None) (sym facts.clears) ∙ ap (λ x. cond row.clears x None) named in
      let clear : cleared_by l (given_by m row.sends) reserved ≡ cond row.clears (cleared l b reserved) reserved =
      ap (λ x. cleared_by l x reserved) given ∙ by_test row.clears in
      subst (λ (x : Option Row). by_row_or l (with_own n wait reserved) x ≡ carried m (by_row_or l n x)) (sym is)
      (λ t. turn_by (with_own (by_row l n (AtNode b row)).node (sym waits t) (sym clear t)) row.sends None)
    where
      by_test : (t : Bool) → cleared_by l (cond t (Some b) None) reserved ≡ cond t (cleared l b reserved) reserved
      by_test true = refl
      by_test false = refl

  pub row_carried : (m : Message) → ((b : ℕ) → named_block m ≡ Some b → wait b ≡ n.wait b)
      → by_row_or l (with_own n wait reserved) (row_of l n.me (holding l (with_own n wait reserved)) j m)
      ≡ carried m (by_row_or l n (row_of l n.me (holding l n) j m))
  row_carried m h = ap (by_row_or l (with_own n wait reserved)) (same_row m h)
      ∙ carried_by m (row_of l n.me (holding l n) j m) (row_case l n j m) h

  -- the same of a message: a Bye changes neither
  pub handled_carried : (m : Message) → ((b : ℕ) → named_block m ≡ Some b → wait b ≡ n.wait b)
      → handled l (with_own n wait reserved) j m ≡ carried m (handled l n j m)
  handled_carried (Read b buf) h = row_carried (Read b buf) h
  handled_carried (Write b buf) h = row_carried (Write b buf) h
  handled_carried (Done b) h = row_carried (Done b) h
  handled_carried (FwdRead b r buf) h = row_carried (FwdRead b r buf) h
  handled_carried (FwdWrite b r k buf) h = row_carried (FwdWrite b r k buf) h
  handled_carried (Inval b r) h = row_carried (Inval b r) h
  handled_carried (Data b k buf) h = row_carried (Data b k buf) h
  handled_carried (Grant b k buf) h = row_carried (Grant b k buf) h
  handled_carried (Ack b) h = row_carried (Ack b) h
  handled_carried Bye h = refl

-- 3. What is true of the waits, and of what is sent

-- no wait but that for the block changes; none begins; and the block that was given up is one
pub record Handles (l : Shape) (n : Node) (m : Message) (t : Turn) : Type 0 where
  pub others : (x : ℕ) → named_block m ≢ Some x → t.node.wait x ≡ n.wait x
  pub fewer : (x : ℕ) → n.wait x ≡ None → t.node.wait x ≡ None
  pub few : (length t.sends ≤ 1) ⊎ (t.node.wait ≡ n.wait)
  pub given : (b : ℕ) → given_by m t.sends ≡ Some b → b < blocks l

none_given : (m : Message) (b : ℕ) → cond (is_order m && false) (named_block m) None ≡ Some b → ⊥
none_given m b e = go (is_order m) e
  where
    go : (t : Bool) → cond (t && false) (named_block m) None ≡ Some b → ⊥
    go true e = cc
    go false e = cc

handles_by : (l : Shape) (n : Node) (m : Message) (o : Option Row) → RowCase l n m o → Handles l n m (by_row_or l n o)
handles_by l n m o (NoRow is) = subst (λ (x : Option Row). Handles l n m (by_row_or l n x)) (sym is) (record {
  others = λ x apart. refl;
  fewer = λ x e. e;
  few = inr refl;
  given = λ b e. absurd (none_given m b e);
})
handles_by l n m o (HomeCase b row is named order) = subst (λ (x : Option Row). Handles l n m (by_row_or l n x)) (sym is) (record {
  others = λ x apart. refl;
  fewer = λ x e. e;
  few = inr refl;
  given = λ x e.
      let none : cond (is_order m && ltb 0 (length row.sends)) (named_block m) None ≡ None =
      ap (λ t. cond (t && ltb 0 (length row.sends)) (named_block m) None) order in
      let bad : None ≡ Some x = sym none ∙ e in
      absurd (cc);
})
handles_by l n m o (NodeCase b row is named low facts) = subst (λ (x : Option Row). Handles l n m (by_row_or l n x)) (sym is) (record {
  others = λ x apart. elim (eqb_tells x b) [
    | inl q ↦ absurd (apart (named ∙ ap (λ z. Some z) (sym q.1)))
    | inr q ↦ rw q.0 refl
  ];
  fewer = λ x e. elim (eqb_tells x b) [
    | inl q ↦ (let s : changed n.wait b row.block.wait x ≡ row.block.wait = rw q.0 refl in
        s ∙ facts.wait (ap n.wait (sym q.1) ∙ e))
    | inr q ↦ (let s : changed n.wait b row.block.wait x ≡ n.wait x = rw q.0 refl in s ∙ e)
  ];
  few = inl facts.few;
  given = λ x e. go x (is_order m && ltb 0 (length row.sends)) e;
})
  where
    go : (x : ℕ) (t : Bool) → cond t (named_block m) None ≡ Some x → x < blocks l
    go x true e = subst (λ z. z < blocks l) (some_same b x (sym named ∙ e)) low
    go x false e = absurd (cc)

pub row_handles : (l : Shape) (n : Node) (j : ℕ) (m : Message)
    → Handles l n m (by_row_or l n (row_of l n.me (holding l n) j m))
row_handles l n j m = handles_by l n m (row_of l n.me (holding l n) j m) (row_case l n j m)

pub handled_handles : (l : Shape) (n : Node) (j : ℕ) (m : Message) → Handles l n m (handled l n j m)
handled_handles l n j (Read b buf) = row_handles l n j (Read b buf)
handled_handles l n j (Write b buf) = row_handles l n j (Write b buf)
handled_handles l n j (Done b) = row_handles l n j (Done b)
handled_handles l n j (FwdRead b r buf) = row_handles l n j (FwdRead b r buf)
handled_handles l n j (FwdWrite b r k buf) = row_handles l n j (FwdWrite b r k buf)
handled_handles l n j (Inval b r) = row_handles l n j (Inval b r)
handled_handles l n j (Data b k buf) = row_handles l n j (Data b k buf)
handled_handles l n j (Grant b k buf) = row_handles l n j (Grant b k buf)
handled_handles l n j (Ack b) = row_handles l n j (Ack b)
handled_handles l n j Bye = record {
  others = λ x apart. refl;
  fewer = λ x e. e;
  few = inr refl;
  given = λ b e. absurd (let f : None ≡ Some b = e in cc);
}
