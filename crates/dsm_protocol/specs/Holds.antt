-- What the nodes' states, bytes, waits and lists keep to, with the one memory by address. On this,
-- and on what each event leaves, a composition of the protocol with nodes that run code rests.
use Rattle.std.specs.Prelude.{◌≡◌, ◌≢◌, ℕ, ◌/◌, ◌<◌, Bool, true, false, not, ◌||◌, ◌⊎◌, if◌then◌else◌, ◌==◌, List, [], ◌∷◌, Option, Some, None}
use Rattle.block_layout.specs.Layout.{Shape, blocks, home, block_of}
use Rattle.block_layout.specs.Update.{changed}
use Rattle.rv32_decode.specs.declared.Width.{Width}
use Rattle.state_table.specs.declared.State.TheVariants.{Exclusive, Invalid}
use Rattle.state_table.specs.StateByte.{can_read, can_write}
use Rattle.home_directory.specs.flag_memory.Copy.{bytes_from}
use Rattle.home_directory.specs.flag_memory.Flag.{flags}
use Rattle.home_directory.specs.dsm_messages.declared.messages.Need.{Need}
use Rattle.home_directory.specs.dsm_messages.declared.messages.Need.TheVariants as need
use Rattle.home_directory.specs.dsm_messages.declared.messages.Message.{Message}
use Rattle.home_directory.specs.dsm_messages.declared.messages.Message.TheVariants.{Read, Write, Done}
use Rattle.home_directory.specs.dsm_messages.declared.messages.Post.{Post}
use Rattle.home_directory.specs.declared.wait.Wait.{Wait}
use Rattle.home_directory.specs.Home.{first_entry}
use Rattle.home_directory.specs.Table.{meets}
use Rattle.message_queues.specs.node_model.miss_handlers.Rows.{Row, block_in, clears, taker_in, takes_away, is_bye}
use Rattle.coherence.specs.Machine.{Event, after}
use Rattle.dsm_protocol.specs.World.{World, with_list, with_sends}
use Rattle.dsm_protocol.specs.Abstraction.{Contents, setting_of}
use Rattle.dsm_protocol.specs.Sound.{Sound, size}
use Rattle.dsm_protocol.specs.Events.{Leads, sends_in}
use Rattle.dsm_protocol.specs.Memory.{address_of, memory_at, store_in}

-- this protocol list leads to these nodes and lists, and to this memory at each address of a block
pub record HoldsBy (l : Shape) (first : ℕ → Contents) (events : List (Event Contents)) (w : World)
    (memory : ℕ → ℕ) : Type 0 where
  pub sound : Sound l w
  pub leads : Leads l first events w
  pub same : (a b : ℕ) → block_of l (a / 64) ≡ Some b
      → memory a ≡ memory_at l (after (setting_of l first) events).memory a

-- some protocol list does
pub record Holds (l : Shape) (w : World) (memory : ℕ → ℕ) : Type 0 where
  pub first : ℕ → Contents
  pub events : List (Event Contents)
  pub by : HoldsBy l first events w memory

-- the start, where memory has these first bytes: each block is exclusive with its bytes at its
-- home, and invalid and flagged elsewhere; no node waits, and the lists are empty
pub record Opens (l : Shape) (first : ℕ → ℕ) (w : World) : Type 0 where
  pub entry : (i b : ℕ) → i < l.nodes → b < blocks l → w.entry i b ≡ first_entry i
  pub waiting : (i b : ℕ) → i < l.nodes → w.waiting i b ≡ []
  pub occupancy : (i : ℕ) → i < l.nodes → w.occupancy i ≡ 0
  pub state : (i b : ℕ) → i < l.nodes → b < blocks l
      → w.state i b ≡ (if home l b == i then Exclusive else Invalid)
  pub bytes : (i b : ℕ) → i < l.nodes → b < blocks l
      → w.bytes i b
      ≡ (if home l b == i then bytes_from first (address_of l b) (size l b) else flags (size l b))
  pub wait : (i b : ℕ) → i < l.nodes → b < blocks l → w.wait i b ≡ None
  pub list : (j i : ℕ) → j < l.nodes → i < l.nodes → w.list j i ≡ []

-- node i has stored to block b
abbrev pub after_store : Shape → World → (i b : ℕ) → Width → (a value : ℕ) → World
after_store l w i b x a value = record w {
  bytes = changed w.bytes i (changed (w.bytes i) b (store_in l x a value b (w.bytes i b)));
}

-- all but the place of node i and block b is the same
abbrev pub SameBut : {A : Type 0} → (i b : ℕ) → (old new : ℕ → ℕ → A) → Type 0
SameBut i b old new = (x d : ℕ) → (x ≡ i → d ≢ b) → new x d ≡ old x d

-- what a wait is for
abbrev pub wanted : Option Wait → Option Need
wanted None = None
wanted (Some w) = Some w.need

-- what is left where node i has begun to wait for block b
pub record AfterWant (i b : ℕ) (need : Need) (old new : World) : Type 0 where
  pub own : wanted (new.wait i b) ≡ Some need
  pub waits : SameBut i b old.wait new.wait
  pub states : SameBut i b old.state new.state
  pub bytes : (x d : ℕ) → new.bytes x d ≡ old.bytes x d
  pub reads : (d : ℕ) → can_read (old.state i d) ≡ true → can_read (new.state i d) ≡ true
  pub writes : (d : ℕ) → can_write (old.state i d) ≡ true → can_write (new.state i d) ≡ true

-- a message for a block's home
abbrev pub is_for_home : Message → Bool
is_for_home (Read b buf) = true
is_for_home (Write b buf) = true
is_for_home (Done b) = true
is_for_home m = false

-- none of these messages is of a kind
abbrev pub NoneIs : (Message → Bool) → List Post → Type 0
NoneIs kind [] = Unit {0}
NoneIs kind (p ∷ ps) = (kind p.message ≡ false) × NoneIs kind ps

abbrev pub AreByes : List Post → Type 0
AreByes [] = Unit {0}
AreByes (p ∷ ps) = (is_bye p.message ≡ true) × AreByes ps

-- what is left where node i has taken the message m by this row
pub record AfterTake (l : Shape) (i : ℕ) (m : Message) (row : Row) (old new : World) : Type 0 where
  pub block : block_in row < blocks l
  pub waits : SameBut i (block_in row) old.wait new.wait
  pub states : SameBut i (block_in row) old.state new.state
  pub bytes : SameBut i (block_in row) old.bytes new.bytes
  -- a wait of the node goes on for what it was for, or it ends: then the block meets its need
  pub own : (d : ℕ) → (wanted (new.wait i d) ≡ wanted (old.wait i d)) ⊎ (new.wait i d ≡ None)
  pub grants : (d : ℕ) (need : Need) → wanted (old.wait i d) ≡ Some need → new.wait i d ≡ None
      → meets need (new.state i d) ≡ true
  -- what was readable stays so, unless the row gives it up
  pub reads : (d : ℕ) → can_read (old.state i d) ≡ true
      → (can_read (new.state i d) ≡ true) ⊎ ((clears row ≡ true) × (d ≡ block_in row))
  -- and then for another node, which waits to write it
  pub taker : clears row ≡ true → (r : ℕ) × (taker_in m ≡ Some r) × (r < l.nodes) × (r ≢ i)
      × (wanted (old.wait r (block_in row)) ≡ Some need.Write)
  -- what was writable stays so, unless the message takes something away
  pub writes : (d : ℕ) → can_write (old.state i d) ≡ true
      → (can_write (new.state i d) ≡ true) ⊎ (takes_away m ≡ true)
  -- no row says Bye, and a node that doesn't wait for the block sends nothing to its home
  pub says : NoneIs is_bye (sends_in row)
  pub calm : old.wait i (block_in row) ≡ None → NoneIs is_for_home (sends_in row)

-- node i takes a Bye from node j, with `rest` after it
abbrev pub after_bye : World → (j i : ℕ) → List Message → World
after_bye w j i rest = record w { list = with_list w.list j i rest }

-- node i says Byes
abbrev pub after_byes : World → ℕ → List Post → World
after_byes w i byes = record w { list = with_sends w.list i byes }

abbrev pub is_done : Message → Bool
is_done (Done b) = true
is_done m = false

-- each message is a Done or a Bye
abbrev pub AreSettled : List Message → Type 0
AreSettled [] = Unit {0}
AreSettled (m ∷ ms) = ((is_done m || is_bye m) ≡ true) × AreSettled ms

-- a message of the list isn't a Bye
abbrev pub has_message : List Message → Bool
has_message [] = false
has_message (m ∷ ms) = not (is_bye m) || has_message ms
