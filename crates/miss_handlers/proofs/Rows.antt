-- What a message leaves, by the wait.
use Rattle.std.proofs.Common.{◌≡◌, ℕ, ◌+◌, ◌*◌, ◌<◌, Bool, true, false, cond, eqb, leb, ltb, ◌&&◌, List, length, refl, sym, ap, ◌∙◌, subst, Option, Some, None, ◌⊎◌, inl, inr, arith}
use Rattle.std.proofs.lemmas.Bool.Decides.{nat_tests}
use Rattle.block_layout.specs.Layout.{Shape, blocks, lines, home}
use Rattle.block_layout.specs.Update.{changed}
use Rattle.llsc.specs.Reservation.{cleared}
use Rattle.home_directory.specs.state_table.States.{States, state_of}
use Rattle.home_directory.specs.flag_memory.Copy.{Copy}
use Rattle.home_directory.specs.dsm_messages.declared.messages.Message.TheVariants.{Ack}
use Rattle.home_directory.specs.dsm_messages.declared.messages.Post.{Post}
use Rattle.home_directory.specs.declared.wait.Wait.{Wait}
use Rattle.home_directory.specs.declared.wait.Answer.{Answer}
use Rattle.home_directory.specs.declared.wait.Answer.TheVariants.{ByData, ByGrant}
use Rattle.home_directory.specs.Table.{BlockFacts, LocalBlock, NodeRow, completion, with_answer, data_row, grant_row, is_write, is_shared, is_complete}
use Rattle.std.specs.Prelude.{is_none}
use Rattle.miss_handlers.specs.Search.{takes_data, takes_ack, takes_grant, takes_answer, bringing}
use Rattle.miss_handlers.specs.Waits.{NodeWaits, wait_of}
use Rattle.miss_handlers.specs.Effects.{NodeBlocks, NodeEffect, HasEffect, node_blocks, message_effect, row_effect, local_block, block_facts}
use Rattle.miss_handlers.proofs.Lists.{changed_twice}

bool_tells : (x : Bool) → (x ≡ true) ⊎ (x ≡ false)
bool_tells true = inl refl
bool_tells false = inr refl

pub ack_effect : (l : Shape) (m : NodeBlocks) (j b : ℕ) (w : Wait) → b < blocks l → m.wait b ≡ Some w → takes_ack (m.wait b) ≡ true → message_effect l m j (Ack b) ≡ row_effect l m b (Some (completion (block_facts l b) (local_block m b) b (record { need = w.need; answer = w.answer; counted = w.counted + 1 })))
ack_effect l m j b w within is opened =
    let t : ltb b (blocks l) ≡ true = grind (arith, nat_tests) in
    let o : (is_write w.need && ltb w.counted 16) ≡ true = ap takes_ack (sym is) ∙ opened in
    rw (t, is, o) refl

data_taken : (l : Shape) (m : NodeBlocks) (b : ℕ) (row : NodeRow) (low room size none : Bool) → (low && (room && (size && none))) ≡ true
    → row_effect l m b (cond low (cond (none && (room && size)) (Some row) None) None) ≡ row_effect l m b (Some row)
data_taken l m b row true true true true h = refl
data_taken l m b row true true true false h = cc
data_taken l m b row true true false none h = cc
data_taken l m b row true false size none h = cc
data_taken l m b row false room size none h = cc

grant_taken : (l : Shape) (m : NodeBlocks) (b : ℕ) (row : NodeRow) (low room at shared fits : Bool) → (low && (room && (at && (shared && fits)))) ≡ true
    → row_effect l m b (cond low (cond ((at && shared) && (fits && room)) (Some row) None) None) ≡ row_effect l m b (Some row)
grant_taken l m b row true true true true true h = refl
grant_taken l m b row true true true true false h = cc
grant_taken l m b row true true true false fits h = cc
grant_taken l m b row true true false shared fits h = cc
grant_taken l m b row true false at shared fits h = cc
grant_taken l m b row false room at shared fits h = cc

-- an answer that a wait takes
pub answer_taken : (w : NodeWaits) (s : States) (c : Copy) (r : Option ℕ) (j b : ℕ) (a : Answer) (v : Wait) → wait_of w b ≡ Some v → takes_answer w (state_of s) j b a ≡ true
    → message_effect w.layout (node_blocks w s c r) j (bringing b a)
    ≡ row_effect w.layout (node_blocks w s c r) b (Some (completion (block_facts w.layout b) (local_block (node_blocks w s c r) b) b (with_answer v a)))
answer_taken w s c r j b (ByData k buf) v found h =
    let m = node_blocks w s c r in
    let is_open : (ltb b (blocks w.layout) && (leb 4096 buf.room && (eqb (length buf.bytes) (64 * lines w.layout b) && is_none v.answer))) ≡ true =
    ap (λ (o : Option Wait). ltb b (blocks w.layout) && (leb 4096 buf.room && (eqb (length buf.bytes) (64 * lines w.layout b) && takes_data o))) (sym found) ∙ h in
    ap (λ (o : Option Wait). row_effect w.layout m b (cond (ltb b (blocks w.layout)) (data_row (block_facts w.layout b) (local_block m b) b k buf o) None)) found
    ∙ data_taken w.layout m b _ (ltb b (blocks w.layout)) _ _ (is_none v.answer) is_open
answer_taken w s c r j b (ByGrant k buf) v found h =
    let m = node_blocks w s c r in
    let is_open : (ltb b (blocks w.layout) && (leb 4096 buf.room && (eqb j (home w.layout b) && (is_shared (m.state b) && takes_grant (Some v))))) ≡ true =
    ap (λ (o : Option Wait). ltb b (blocks w.layout) && (leb 4096 buf.room && (eqb j (home w.layout b) && (is_shared (m.state b) && takes_grant o)))) (sym found) ∙ h in
    ap (λ (o : Option Wait). row_effect w.layout m b (cond (ltb b (blocks w.layout)) (grant_row (block_facts w.layout b) (local_block m b) j b k buf o) None)) found
    ∙ grant_taken w.layout m b _ (ltb b (blocks w.layout)) _ (eqb j (home w.layout b)) (is_shared (m.state b)) (is_write v.need && is_none v.answer) is_open

pub reserved_same : (l : Shape) (p : BlockFacts) (h : LocalBlock) (b : ℕ) (w : Wait) (o : Option ℕ) → cond (completion p h b w).clears (cleared l b o) o ≡ o
reserved_same l p h b w o = elim (bool_tells (is_complete w.answer w.counted)) [ inl e ↦ rw e refl | inr e ↦ rw e refl ]

-- what the completion of a wait that was taken out leaves
pub completion_done : (l l' : Shape) (m m' : NodeBlocks) (b : ℕ) (w : Wait) (posts : List Post) (mid : ℕ → Option Wait) (t : NodeEffect) → l' ≡ l → t ≡ row_effect l m b (Some (completion (block_facts l b) (local_block m b) b w)) → mid ≡ changed m.wait b None
    → m'.state ≡ changed m.state b (completion (block_facts l' b) (local_block m b) b w).block.state
    → m'.bytes ≡ changed m.bytes b (completion (block_facts l' b) (local_block m b) b w).block.bytes
    → m'.wait ≡ changed mid b (completion (block_facts l' b) (local_block m b) b w).block.wait
    → m'.reserved ≡ m.reserved → posts ≡ (completion (block_facts l' b) (local_block m b) b w).sends → HasEffect m' posts t
completion_done l l' m m' b w posts mid t same is out state bytes wait reserved sends =
    let r : Shape → NodeRow = λ k. completion (block_facts k b) (local_block m b) b w in
    subst (λ (u : NodeEffect). HasEffect m' posts u) (sym is) (record {
      state = state ∙ ap (λ (k : Shape). changed m.state b (r k).block.state) same;
      bytes = bytes ∙ ap (λ (k : Shape). changed m.bytes b (r k).block.bytes) same;
      wait = wait ∙ ap (λ (f : ℕ → Option Wait). changed f b (r l').block.wait) out ∙ changed_twice m.wait b None (r l').block.wait ∙ ap (λ (k : Shape). changed m.wait b (r k).block.wait) same;
      reserved = reserved ∙ sym (reserved_same l (block_facts l b) (local_block m b) b w m.reserved);
      sends = sends ∙ ap (λ (k : Shape). (r k).sends) same;
    })
