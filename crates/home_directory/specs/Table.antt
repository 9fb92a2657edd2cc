-- The table of messages (Shasta: Scales, Gharachorloo, Thekkath 1996, section 2): what a node does
-- with a message about block b from node j. Each message has its rows, each with its condition.
-- None says that no row is met: then nothing changes and nothing is sent. There are n nodes; r is
-- the node that wants the block. A row sends its messages in the order in which they stand.
use Rattle.std.specs.Prelude.{ℕ, ◌+◌, Bool, true, false, not, if◌then◌else◌, ◌==◌, ◌&&◌, nat_lt, nat_le, List, [], ◌∷◌, ◌++◌, length, Option, Some, None, is_none}
use Rattle.buf_pool.specs.Pool.{Buffer}
use Rattle.state_table.specs.declared.State.{State}
use Rattle.state_table.specs.declared.State.TheVariants.{Exclusive, Shared, Invalid, Pending}
use Rattle.state_table.specs.StateByte.{can_read, can_write}
pub use Rattle.state_table.specs.StateByte.{is_shared, state_in_wait}
use Rattle.flag_memory.specs.Flag.{flags}
use Rattle.dsm_messages.specs.declared.messages.Need.{Need}
use Rattle.dsm_messages.specs.declared.messages.Need.TheVariants.{Read as reading, Write as writing}
use Rattle.dsm_messages.specs.declared.messages.Message.{Message}
use Rattle.dsm_messages.specs.declared.messages.Message.TheVariants.{Read, Write, FwdRead, FwdWrite, Inval, Data, Grant, Ack, Done, Bye}
use Rattle.dsm_messages.specs.declared.messages.Post.{Post}
use Rattle.home_directory.specs.declared.directory.Busy.{Busy}
use Rattle.home_directory.specs.declared.directory.Request.{Request}
use Rattle.home_directory.specs.declared.wait.Wait.{Wait}
use Rattle.home_directory.specs.declared.wait.Answer.{Answer}
use Rattle.home_directory.specs.declared.wait.Answer.TheVariants.{ByData, ByGrant}
use Rattle.home_directory.specs.Home.{DirectoryEntry, Home, others, count_of, busy_with, done_with, post, invals, waits, without_first, occupancy_then}

-- 1. At the home of the block

-- what the home begins for a request: the entry after it, and what is sent
pub record Start : Type 0 where
  pub entry : DirectoryEntry
  pub sends : List Post

-- Read of no sharer: FwdRead to the owner
abbrev pub read_start : DirectoryEntry → (b r : ℕ) → Buffer → Start
read_start e b r buf = record {
  entry = busy_with e reading r;
  sends = post e.owner (FwdRead b r buf) ∷ [];
}

-- Write of a sharer: Inval to each other sharer, and Grant to r with their number
abbrev pub grant_start : ℕ → DirectoryEntry → (b r : ℕ) → Buffer → Start
grant_start n e b r buf = record {
  entry = busy_with e writing r;
  sends = invals (others e.sharers r) b r n
      ++ post r (Grant b (count_of (others e.sharers r) n) buf) ∷ [];
}

-- Write of no sharer: Inval to each sharer but the owner, and FwdWrite to the owner with their
-- number
abbrev pub write_start : ℕ → DirectoryEntry → (b r : ℕ) → Buffer → Start
write_start n e b r buf = record {
  entry = busy_with e writing r;
  sends = invals (others e.sharers e.owner) b r n
      ++ post e.owner (FwdWrite b r (count_of (others e.sharers e.owner) n) buf) ∷ [];
}

-- a request of r at a block that isn't busy
abbrev pub start_row : ℕ → DirectoryEntry → (b r : ℕ) → Need → Buffer → Option Start
start_row n e b r reading buf = if e.sharers r then None else Some (read_start e b r buf)
start_row n e b r writing buf =
    Some (if e.sharers r then grant_start n e b r buf else write_start n e b r buf)

-- what a row of the home leaves there, and sends
pub record HomeRow : Type 0 where
  pub home : Home
  pub sends : List Post

abbrev pub start_home : Home → Start → HomeRow
start_home h s = record {
  home = record { entry = s.entry; waiting = h.waiting; occupancy = h.occupancy };
  sends = s.sends;
}

abbrev pub start_at : Home → Option Start → Option HomeRow
start_at h None = None
start_at h (Some s) = Some (start_home h s)

-- the request waits behind those for the block that wait already
abbrev pub wait_home : Home → (b r : ℕ) → Need → Buffer → HomeRow
wait_home h b r need buf = record {
  home = record {
    entry = h.entry;
    waiting = h.waiting ++ (record { block = b; from = r; need = need; buf = buf }) ∷ [];
    occupancy = h.occupancy + 1;
  };
  sends = [];
}

-- at a busy block it waits where the home is busy for another node, no request of r for b waits,
-- and fewer than 32 requests wait at the home
abbrev pub ask_when : ℕ → Home → (b r : ℕ) → Need → Buffer → Option Busy → Option HomeRow
ask_when n h b r need buf None = start_at h (start_row n h.entry b r need buf)
ask_when n h b r need buf (Some busy) =
    if not (busy.node == r) && (not (waits h.waiting r) && nat_lt h.occupancy 32)
    then Some (wait_home h b r need buf)
    else None

-- Read or Write from r
abbrev pub ask_row : ℕ → Home → (b r : ℕ) → Need → Buffer → Option HomeRow
ask_row n h b r need buf =
    if nat_lt r n then ask_when n h b r need buf h.entry.busy else None

-- the first request that waits for the block is handled next
abbrev pub next_start : ℕ → DirectoryEntry → ℕ → List Request → Option Start
next_start n e b [] = None
next_start n e b (q ∷ qs) = if nat_lt q.from n then start_row n e b q.from q.need q.buf else None

-- where it meets no row it is dropped
abbrev pub start_or : DirectoryEntry → Option Start → Start
start_or e None = record { entry = e; sends = [] }
start_or e (Some s) = s

abbrev pub next_or : ℕ → DirectoryEntry → ℕ → List Request → Start
next_or n e b waiting = start_or e (next_start n e b waiting)

-- the home once the first request that waits for the block has left
abbrev pub first_leaves : Home → Home
first_leaves h = record {
  entry = h.entry;
  waiting = without_first h.waiting;
  occupancy = occupancy_then h.waiting h.occupancy;
}

-- the request of r is done: r shares the block after a Read, and owns it alone after a Write
abbrev pub done_home : ℕ → Home → (b r : ℕ) → Need → HomeRow
done_home n h b r need =
    start_home (first_leaves h) (next_or n (done_with h.entry need r) b h.waiting)

-- Done from r, for whom the home is busy
abbrev pub done_when : ℕ → Home → (b r : ℕ) → Option Busy → Option HomeRow
done_when n h b r None = None
done_when n h b r (Some busy) =
    if busy.node == r then Some (done_home n h b r busy.need) else None

abbrev pub done_row : ℕ → Home → (b r : ℕ) → Option HomeRow
done_row n h b r = if nat_lt r n then done_when n h b r h.entry.busy else None

-- 2. At a node that has the block, or waits for it

-- what the layout says of the block: the number of nodes, the block's home, and its size in bytes
pub record BlockFacts : Type 0 where
  pub nodes : ℕ
  pub home : ℕ
  pub size : ℕ

-- what a node has of the block: its state, its bytes in the copy, and the wait for it
pub record LocalBlock : Type 0 where
  pub state : State
  pub bytes : List ℕ
  pub wait : Option Wait

-- what a row leaves of the block, and sends; whether it clears a reservation in the block, and
-- whether a buffer goes back to the pool
pub record NodeRow : Type 0 where
  pub block : LocalBlock
  pub sends : List Post
  pub clears : Bool
  pub gives_back : Bool

abbrev pub is_write : Need → Bool
is_write reading = false
is_write writing = true

-- FwdRead from the home, b exclusive or shared here: the block is shared, and Data goes to r
abbrev pub fwd_read_row : BlockFacts → LocalBlock → (j b r : ℕ) → Buffer → Option NodeRow
fwd_read_row f l j b r buf =
    if (j == f.home && can_read l.state) && (nat_lt r f.nodes && nat_le f.size buf.room)
    then Some (record {
      block = record { state = Shared; bytes = l.bytes; wait = l.wait };
      sends = post r (Data b 0 (record { bytes = l.bytes; room = buf.room })) ∷ [];
      clears = false;
      gives_back = false;
    })
    else None

-- the state of a block that another node gets: pending where this node waits for it
abbrev pub state_without : Option Wait → State
state_without None = Invalid
state_without (Some w) = Pending

-- the block once another node gets it: each word is the flag word
abbrev pub without_block : BlockFacts → LocalBlock → LocalBlock
without_block f l = record { state = state_without l.wait; bytes = flags f.size; wait = l.wait }

-- FwdWrite from the home, b exclusive or shared here: the block is given up, and Data goes to r
abbrev pub fwd_write_row : BlockFacts → LocalBlock → (j b r k : ℕ) → Buffer → Option NodeRow
fwd_write_row f l j b r k buf =
    if (j == f.home && can_read l.state) && (nat_lt r f.nodes && nat_le f.size buf.room)
    then Some (record {
      block = without_block f l;
      sends = post r (Data b k (record { bytes = l.bytes; room = buf.room })) ∷ [];
      clears = true;
      gives_back = false;
    })
    else None

-- Inval from the home, b shared here: the block is given up, and Ack goes to r
abbrev pub inval_row : BlockFacts → LocalBlock → (j b r : ℕ) → Option NodeRow
inval_row f l j b r =
    if (j == f.home && is_shared l.state) && nat_lt r f.nodes
    then Some (record {
      block = without_block f l;
      sends = post r (Ack b) ∷ [];
      clears = true;
      gives_back = false;
    })
    else None

-- Completion, after Data, Grant and Ack

-- the wait is answered, and has counted as many Acks as the answer says
abbrev pub is_complete : Option Answer → ℕ → Bool
is_complete None counted = false
is_complete (Some (ByData k buf)) counted = k == counted
is_complete (Some (ByGrant k buf)) counted = k == counted

-- Data brings the bytes; with a Grant those of the copy stay
abbrev pub bytes_by : List ℕ → Option Answer → List ℕ
bytes_by old None = old
bytes_by old (Some (ByData k buf)) = buf.bytes
bytes_by old (Some (ByGrant k buf)) = old

abbrev pub state_for : Need → State
state_for reading = Shared
state_for writing = Exclusive

-- a complete wait ends, its buffer goes back and Done goes to the home; another goes on
abbrev pub completion : BlockFacts → LocalBlock → (b : ℕ) → Wait → NodeRow
completion f l b w =
    if is_complete w.answer w.counted
    then record {
      block = record { state = state_for w.need; bytes = bytes_by l.bytes w.answer; wait = None };
      sends = post f.home (Done b) ∷ [];
      clears = false;
      gives_back = true;
    }
    else record {
      block = record { state = l.state; bytes = l.bytes; wait = Some w };
      sends = [];
      clears = false;
      gives_back = false;
    }

abbrev pub with_answer : Wait → Answer → Wait
with_answer w answer = record { need = w.need; answer = Some answer; counted = w.counted }

-- Data, b wanted and not answered: the wait keeps the buffer and the number
abbrev pub data_row : BlockFacts → LocalBlock → (b k : ℕ) → Buffer → Option Wait → Option NodeRow
data_row f l b k buf None = None
data_row f l b k buf (Some w) =
    if is_none w.answer && (nat_le 4096 buf.room && length buf.bytes == f.size)
    then Some (completion f l b (with_answer w (ByData k buf)))
    else None

-- Grant from the home, b wanted for writing, not answered, and shared here: likewise
abbrev pub grant_row : BlockFacts → LocalBlock → (j b k : ℕ) → Buffer → Option Wait → Option NodeRow
grant_row f l j b k buf None = None
grant_row f l j b k buf (Some w) =
    if (j == f.home && is_shared l.state)
    && ((is_write w.need && is_none w.answer) && nat_le 4096 buf.room)
    then Some (completion f l b (with_answer w (ByGrant k buf)))
    else None

abbrev pub one_ack_more : Wait → Wait
one_ack_more w = record { need = w.need; answer = w.answer; counted = w.counted + 1 }

-- Ack, b wanted for writing, fewer than 16 counted: the wait counts one
abbrev pub ack_row : BlockFacts → LocalBlock → (b : ℕ) → Option Wait → Option NodeRow
ack_row f l b None = None
ack_row f l b (Some w) =
    if is_write w.need && nat_lt w.counted 16
    then Some (completion f l b (one_ack_more w))
    else None

-- the messages that aren't for the home
abbrev pub node_row : BlockFacts → LocalBlock → (j : ℕ) → Message → Option NodeRow
node_row f l j (FwdRead b r buf) = fwd_read_row f l j b r buf
node_row f l j (FwdWrite b r k buf) = fwd_write_row f l j b r k buf
node_row f l j (Inval b r) = inval_row f l j b r
node_row f l j (Data b k buf) = data_row f l b k buf l.wait
node_row f l j (Grant b k buf) = grant_row f l j b k buf l.wait
node_row f l j (Ack b) = ack_row f l b l.wait
node_row f l j (Read b buf) = None
node_row f l j (Write b buf) = None
node_row f l j (Done b) = None
node_row f l j Bye = None

-- 3. A miss

-- the block meets the need as it is
abbrev pub meets : Need → State → Bool
meets reading state = can_read state
meets writing state = can_write state

abbrev pub request : Need → ℕ → Buffer → Message
request reading b buf = Read b buf
request writing b buf = Write b buf

abbrev pub first_wait : Need → Wait
first_wait need = record { need = need; answer = None; counted = 0 }

-- what a miss leaves of the block, and sends
pub record Miss : Type 0 where
  pub block : LocalBlock
  pub post : Post

-- the node wants the block: Read or Write goes to the home, with a buffer of the node
abbrev pub want_row : BlockFacts → LocalBlock → ℕ → Need → Buffer → Option Miss
want_row f l b need buf =
    if meets need l.state then None
    else Some (record {
      block = record {
        state = state_in_wait l.state;
        bytes = l.bytes;
        wait = Some (first_wait need);
      };
      post = post f.home (request need b buf);
    })
