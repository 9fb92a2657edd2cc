-- A message that meets a row is seen to: something is sent, or what is seen of its block or of the
-- requests that wait has changed.
use Rattle.std.proofs.Common.{◌≡◌, ℕ, ◌+◌, ◌⊎◌, Bool, true, false, not, cond, eqb, ltb, leb, ◌&&◌, List, [], ◌∷◌, ◌++◌, Option, Some, None, refl, sym, ap, ◌∙◌, inl, inr}
use Rattle.std.specs.Prelude.{is_some, is_none}
use Rattle.buf_pool.specs.Pool.{Buffer}
use Rattle.replay.specs.node_model.home_directory.dsm_messages.declared.messages.Need.{Need}
use Rattle.replay.specs.node_model.home_directory.dsm_messages.declared.messages.Need.TheVariants.{Read as reading, Write as writing}
use Rattle.replay.specs.node_model.home_directory.dsm_messages.declared.messages.Message.{Message}
use Rattle.replay.specs.node_model.home_directory.dsm_messages.declared.messages.Message.TheVariants.{Read, Write, FwdRead, FwdWrite, Inval, Data, Grant, Ack, Done, Bye}
use Rattle.replay.specs.node_model.home_directory.dsm_messages.declared.messages.Post.{Post}
use Rattle.replay.specs.node_model.home_directory.declared.directory.Busy.{Busy}
use Rattle.replay.specs.node_model.home_directory.declared.directory.Request.{Request}
use Rattle.replay.specs.node_model.home_directory.declared.wait.Wait.{Wait}
use Rattle.replay.specs.node_model.home_directory.declared.wait.Answer.TheVariants.{ByData, ByGrant}
use Rattle.replay.specs.node_model.home_directory.Home.{DirectoryEntry, Home, done_with, invals, others, post, waits}
use Rattle.replay.specs.node_model.home_directory.Table.{Start, HomeRow, start_row, start_at, start_or, start_home, next_start, ask_when, ask_row, done_when, done_row, done_home, first_leaves, BlockFacts, LocalBlock, NodeRow, without_block, data_row, grant_row, ack_row, completion, is_complete, with_answer, one_ack_more, is_write, is_shared, node_row}
use Rattle.state_table.specs.declared.State.TheVariants.{Shared}
use Rattle.state_table.specs.StateByte.{can_read}
use Rattle.run_trace.specs.Taking.{answered_in, counted_in}

-- 1. A row, if there is one

abbrev pub OnSome : {R : Type 0} → Option R → (R → Type 0) → Type 0
OnSome None P = Unit {0}
OnSome (Some row) P = P row

on_if : {R : Type 0} (t : Bool) (o : Option R) (P : R → Type 0) → OnSome o P → OnSome (cond t o None) P
on_if true o P h = h
on_if false o P h = tt

on_both : {R : Type 0} (s t : Bool) (o : Option R) (P : R → Type 0) → (s ≡ true → OnSome o P)
    → OnSome (cond (s && t) o None) P
on_both true t o P h = on_if t o P (h refl)
on_both false t o P h = tt

abbrev pub any : List Post → Bool
any [] = false
any (p ∷ ps) = true

any_last : (xs : List Post) (y : Post) → any (xs ++ y ∷ []) ≡ true
any_last [] y = refl
any_last (x ∷ xs) y = refl

-- 2. At the home

abbrev pub IsSent : Start → Type 0
IsSent s = any s.sends ≡ true

-- a row of a home sends something, or one more request waits, or the home is no longer busy
abbrev pub TellsHome : Home → HomeRow → Type 0
TellsHome h row = (any row.sends ≡ true)
    ⊎ ((row.home.occupancy ≡ h.occupancy + 1)
    ⊎ ((is_some h.entry.busy ≡ true) × (is_some row.home.entry.busy ≡ false)))

write_on : (t : Bool) (n : ℕ) (e : DirectoryEntry) (b r : ℕ) (buf : Buffer) → t ≡ e.sharers r
    → OnSome (start_row n e b r writing buf) IsSent
write_on true n e b r buf is = rw (sym is)
    (any_last (invals (others e.sharers r) b r n) _)
write_on false n e b r buf is = rw (sym is)
    (any_last (invals (others e.sharers e.owner) b r n) _)

read_on : (t : Bool) (n : ℕ) (e : DirectoryEntry) (b r : ℕ) (buf : Buffer) → t ≡ e.sharers r
    → OnSome (start_row n e b r reading buf) IsSent
read_on true n e b r buf is = rw (sym is) tt
read_on false n e b r buf is = rw (sym is) refl

start_on : (n : ℕ) (e : DirectoryEntry) (b r : ℕ) (need : Need) (buf : Buffer)
    → OnSome (start_row n e b r need buf) IsSent
start_on n e b r reading buf = read_on (e.sharers r) n e b r buf refl
start_on n e b r writing buf = write_on (e.sharers r) n e b r buf refl

start_at_on : (h : Home) (o : Option Start) → OnSome o IsSent → OnSome (start_at h o) (TellsHome h)
start_at_on h None p = tt
start_at_on h (Some s) p = inl p

ask_when_on : (n : ℕ) (h : Home) (b r : ℕ) (need : Need) (buf : Buffer) (o : Option Busy)
    → OnSome (ask_when n h b r need buf o) (TellsHome h)
ask_when_on n h b r need buf None =
    start_at_on h (start_row n h.entry b r need buf) (start_on n h.entry b r need buf)
ask_when_on n h b r need buf (Some busy) =
    on_if (not (eqb busy.node r) && (not (waits h.waiting r) && ltb h.occupancy 32)) _ (TellsHome h) (inr (inl refl))

pub ask_on : (n : ℕ) (h : Home) (b r : ℕ) (need : Need) (buf : Buffer)
    → OnSome (ask_row n h b r need buf) (TellsHome h)
ask_on n h b r need buf = on_if (ltb r n) (ask_when n h b r need buf h.entry.busy) (TellsHome h)
    (ask_when_on n h b r need buf h.entry.busy)

idle : (e : DirectoryEntry) (need : Need) (r : ℕ) → is_some (done_with e need r).busy ≡ false
idle e reading r = refl
idle e writing r = refl

next_on : (n : ℕ) (e : DirectoryEntry) (b : ℕ) (qs : List Request) → OnSome (next_start n e b qs) IsSent
next_on n e b [] = tt
next_on n e b (q ∷ qs) =
    on_if (ltb q.from n) (start_row n e b q.from q.need q.buf) IsSent (start_on n e b q.from q.need q.buf)

start_or_on : (h : Home) (e : DirectoryEntry) (o : Option Start) → OnSome o IsSent
    → is_some h.entry.busy ≡ true → is_some e.busy ≡ false
    → TellsHome h (start_home (first_leaves h) (start_or e o))
start_or_on h e None p busy free = inr (inr (busy, free))
start_or_on h e (Some s) p busy free = inl p

done_when_on : (n : ℕ) (h : Home) (b r : ℕ) (o : Option Busy) → h.entry.busy ≡ o
    → OnSome (done_when n h b r o) (TellsHome h)
done_when_on n h b r None is = tt
done_when_on n h b r (Some busy) is =
    on_if (eqb busy.node r) (Some (done_home n h b r busy.need)) (TellsHome h)
    (start_or_on h (done_with h.entry busy.need r) (next_start n (done_with h.entry busy.need r) b h.waiting)
    (next_on n (done_with h.entry busy.need r) b h.waiting) (ap is_some is) (idle h.entry busy.need r))

pub done_on : (n : ℕ) (h : Home) (b r : ℕ) → OnSome (done_row n h b r) (TellsHome h)
done_on n h b r = on_if (ltb r n) (done_when n h b r h.entry.busy) (TellsHome h)
    (done_when_on n h b r h.entry.busy refl)

-- 3. At another node

-- a row of a node sends something, or its wait has got an answer, or has counted one more
abbrev pub TellsNode : LocalBlock → NodeRow → Type 0
TellsNode l row = (any row.sends ≡ true)
    ⊎ (((answered_in l.wait ≡ false) × (answered_in row.block.wait ≡ true))
    ⊎ (counted_in row.block.wait ≡ counted_in l.wait + 1))

none_some : {A : Type 0} (o : Option A) → is_none o ≡ true → is_some o ≡ false
none_some None e = refl
none_some (Some a) e = absurd cc

complete_on : (f : BlockFacts) (l : LocalBlock) (b : ℕ) (w : Wait) (t : Bool) → t ≡ is_complete w.answer w.counted
    → ((answered_in l.wait ≡ false) × (is_some w.answer ≡ true)) ⊎ (w.counted ≡ counted_in l.wait + 1)
    → TellsNode l (completion f l b w)
complete_on f l b w true is h = rw (sym is) (inl refl)
complete_on f l b w false is h = rw (sym is) (inr h)

data_on : (f : BlockFacts) (l : LocalBlock) (b k : ℕ) (buf : Buffer) (o : Option Wait) → l.wait ≡ o
    → OnSome (data_row f l b k buf o) (TellsNode l)
data_on f l b k buf None is = tt
data_on f l b k buf (Some w) is = on_both (is_none w.answer) _ _ (TellsNode l)
    (λ e. complete_on f l b (with_answer w (ByData k buf)) (is_complete (Some (ByData k buf)) w.counted) refl
    (inl (ap answered_in is ∙ none_some w.answer e, refl)))

grant_on : (f : BlockFacts) (l : LocalBlock) (j b k : ℕ) (buf : Buffer) (o : Option Wait) → l.wait ≡ o
    → OnSome (grant_row f l j b k buf o) (TellsNode l)
grant_on f l j b k buf None is = tt
grant_on f l j b k buf (Some w) is = grant_if (eqb j f.home && is_shared l.state) (is_write w.need) (is_none w.answer) _
    (λ e. complete_on f l b (with_answer w (ByGrant k buf)) (is_complete (Some (ByGrant k buf)) w.counted) refl
    (inl (ap answered_in is ∙ none_some w.answer e, refl)))
  where
    grant_if : (s t u v : Bool) → (u ≡ true → TellsNode l (completion f l b (with_answer w (ByGrant k buf))))
        → OnSome (cond (s && ((t && u) && v)) (Some (completion f l b (with_answer w (ByGrant k buf)))) None) (TellsNode l)
    grant_if true true true true h = h refl
    grant_if true true true false h = tt
    grant_if true true false v h = tt
    grant_if true false u v h = tt
    grant_if false t u v h = tt

ack_on : (f : BlockFacts) (l : LocalBlock) (b : ℕ) (o : Option Wait) → l.wait ≡ o
    → OnSome (ack_row f l b o) (TellsNode l)
ack_on f l b None is = tt
ack_on f l b (Some w) is = on_if (is_write w.need && ltb w.counted 16) _ (TellsNode l)
    (complete_on f l b (one_ack_more w) (is_complete w.answer (w.counted + 1)) refl
    (inr (ap (λ x. counted_in x + 1) (sym is))))

pub node_on : (f : BlockFacts) (l : LocalBlock) (j : ℕ) (m : Message) → OnSome (node_row f l j m) (TellsNode l)
node_on f l j (FwdRead b r buf) =
    on_if ((eqb j f.home && can_read l.state) && (ltb r f.nodes && leb f.size buf.room))
    (Some (record {
      block = record { state = Shared; bytes = l.bytes; wait = l.wait };
      sends = post r (Data b 0 (record { bytes = l.bytes; room = buf.room })) ∷ [];
      clears = false;
      gives_back = false;
    })) (TellsNode l) (inl refl)
node_on f l j (FwdWrite b r k buf) =
    on_if ((eqb j f.home && can_read l.state) && (ltb r f.nodes && leb f.size buf.room))
    (Some (record {
      block = without_block f l;
      sends = post r (Data b k (record { bytes = l.bytes; room = buf.room })) ∷ [];
      clears = true;
      gives_back = false;
    })) (TellsNode l) (inl refl)
node_on f l j (Inval b r) =
    on_if ((eqb j f.home && is_shared l.state) && ltb r f.nodes) (Some (record {
      block = without_block f l;
      sends = post r (Ack b) ∷ [];
      clears = true;
      gives_back = false;
    })) (TellsNode l) (inl refl)
node_on f l j (Data b k buf) = data_on f l b k buf l.wait refl
node_on f l j (Grant b k buf) = grant_on f l j b k buf l.wait refl
node_on f l j (Ack b) = ack_on f l b l.wait refl
node_on f l j (Read b buf) = tt
node_on f l j (Write b buf) = tt
node_on f l j (Done b) = tt
node_on f l j Bye = tt
