-- What a row says of what it sends, gives up and leaves of a wait.
use Rattle.std.proofs.Common.{◌≡◌, ℕ, ◌≤◌, ◌+◌, ◌&&◌, Bool, true, false, cond, ltb, List, [], length, refl, sym, ap, ◌∙◌, subst, Option, Some, None, arith, add-zero}
use Rattle.buf_pool.specs.Pool.{Buffer}
use Rattle.node_words.specs.home_directory.declared.wait.Wait.{Wait}
use Rattle.node_words.specs.home_directory.declared.wait.Answer.TheVariants.{ByData, ByGrant}
use Rattle.node_words.specs.dsm_messages.declared.messages.Message.{Message}
use Rattle.node_words.specs.dsm_messages.declared.messages.Message.TheVariants.{Read, Write, FwdRead, FwdWrite, Inval, Data, Grant, Ack, Done, Bye}
use Rattle.node_words.specs.dsm_messages.declared.messages.Post.{Post}
use Rattle.node_words.specs.home_directory.Table.{BlockFacts, LocalBlock, NodeRow, node_row, completion, is_complete, data_row, grant_row, ack_row, with_answer, one_ack_more}
use Rattle.node_words.specs.node_model.declared.NodeCounts.{NodeCounts}
use Rattle.node_words.specs.node_model.Turns.{count_row}
use Rattle.node_machine.specs.ProtocolState.{is_order}

-- a row clears a reservation where it is an order, and sends at most one message; it leaves no wait
-- where there was none
pub record RowFacts (m : Message) (lb : LocalBlock) (row : NodeRow) : Type 0 where
  pub clears : row.clears ≡ (is_order m && ltb 0 (length row.sends))
  pub few : length row.sends ≤ 1
  pub wait : lb.wait ≡ None → row.block.wait ≡ None

by_test : (P : NodeRow → Type 0) (t : Bool) (x row : NodeRow) → cond t (Some x) None ≡ Some row → P x → P row
by_test P true x row is p = let e : x ≡ row = cc in subst P e p
by_test P false x row is p = absurd (cc)

by_either : (P : NodeRow → Type 0) (c : Bool) (x y : NodeRow) → P x → P y → P (cond c x y)
by_either P true x y px py = px
by_either P false x y px py = py

no_row : (row : NodeRow) → None ≡ Some row → ⊥
no_row row e = cc

none_some : (w : Wait) → None ≡ Some w → ⊥
none_some w e = cc

completed : (m : Message) (f : BlockFacts) (lb : LocalBlock) (b : ℕ) (v w : Wait) → lb.wait ≡ Some v
    → is_order m ≡ false → RowFacts m lb (completion f lb b w)
completed m f lb b v w is order = by_either (RowFacts m lb) (is_complete w.answer w.counted) _ _
    (record {
      clears = rw order refl;
      few = omega arith;
      wait = λ e. absurd (none_some v (sym e ∙ is));
    }) (record {
      clears = rw order refl;
      few = omega arith;
      wait = λ e. absurd (none_some v (sym e ∙ is));
    })

data_facts : (f : BlockFacts) (lb : LocalBlock) (b k : ℕ) (buf : Buffer) (row : NodeRow) (o : Option Wait)
    → lb.wait ≡ o → data_row f lb b k buf o ≡ Some row → RowFacts (Data b k buf) lb row
data_facts f lb b k buf row None e is = absurd (no_row row is)
data_facts f lb b k buf row (Some w) e is = by_test (RowFacts (Data b k buf) lb) _ _ row is
    (completed (Data b k buf) f lb b w (with_answer w (ByData k buf)) e refl)

grant_facts : (f : BlockFacts) (lb : LocalBlock) (j b k : ℕ) (buf : Buffer) (row : NodeRow) (o : Option Wait)
    → lb.wait ≡ o → grant_row f lb j b k buf o ≡ Some row → RowFacts (Grant b k buf) lb row
grant_facts f lb j b k buf row None e is = absurd (no_row row is)
grant_facts f lb j b k buf row (Some w) e is = by_test (RowFacts (Grant b k buf) lb) _ _ row is
    (completed (Grant b k buf) f lb b w (with_answer w (ByGrant k buf)) e refl)

ack_facts : (f : BlockFacts) (lb : LocalBlock) (b : ℕ) (row : NodeRow) (o : Option Wait)
    → lb.wait ≡ o → ack_row f lb b o ≡ Some row → RowFacts (Ack b) lb row
ack_facts f lb b row None e is = absurd (no_row row is)
ack_facts f lb b row (Some w) e is = by_test (RowFacts (Ack b) lb) _ _ row is
    (completed (Ack b) f lb b w (one_ack_more w) e refl)

pub row_facts : (f : BlockFacts) (lb : LocalBlock) (j : ℕ) (m : Message) (row : NodeRow)
    → node_row f lb j m ≡ Some row → RowFacts m lb row
row_facts f lb j (Read b buf) row is = absurd (no_row row is)
row_facts f lb j (Write b buf) row is = absurd (no_row row is)
row_facts f lb j (Done b) row is = absurd (no_row row is)
row_facts f lb j Bye row is = absurd (no_row row is)
row_facts f lb j (FwdRead b r buf) row is = by_test (RowFacts (FwdRead b r buf) lb) _ _ row is
    (record { clears = refl; few = omega arith; wait = λ e. e })
row_facts f lb j (FwdWrite b r k buf) row is = by_test (RowFacts (FwdWrite b r k buf) lb) _ _ row is
    (record { clears = refl; few = omega arith; wait = λ e. e })
row_facts f lb j (Inval b r) row is = by_test (RowFacts (Inval b r) lb) _ _ row is
    (record { clears = refl; few = omega arith; wait = λ e. e })
row_facts f lb j (Data b k buf) row is = data_facts f lb b k buf row lb.wait refl is
row_facts f lb j (Grant b k buf) row is = grant_facts f lb j b k buf row lb.wait refl is
row_facts f lb j (Ack b) row is = ack_facts f lb b row lb.wait refl is

and_false : (b : Bool) → (b && false) ≡ false
and_false true = refl
and_false false = refl

-- nothing was sent and given up
pub count_nothing : (gives_up : Bool) (sends : ℕ) (c : NodeCounts) → gives_up ≡ false → sends ≡ 0
    → count_row gives_up sends c ≡ c
count_nothing gives_up sends c g z = λ t. record c {
  invalidations = (ap (λ (x : Bool). cond x (c.invalidations + 1) c.invalidations) g) t;
  messages = (ap (λ x. c.messages + x) z ∙ add-zero c.messages) t;
}

pub none_given : (m : Message) (posts : List Post) → posts ≡ [] → (is_order m && ltb 0 (length posts)) ≡ false
none_given m posts e = ap (λ (x : List Post). is_order m && ltb 0 (length x)) e ∙ and_false (is_order m)
