-- The row of the table of messages that a message has at a node, and what a row or a message says.
use Rattle.std.specs.Prelude.{ℕ, Bool, true, false, nat_lt, ◌==◌, ◌&&◌, if◌then◌else◌, List, Option, Some, None}
use Rattle.block_layout.specs.Layout.{Shape, blocks, home}
use Rattle.home_directory.specs.declared.directory.Request.{Request}
use Rattle.buf_pool.specs.Pool.{Buffer}
use Rattle.home_directory.specs.dsm_messages.declared.messages.Need.{Need}
use Rattle.home_directory.specs.dsm_messages.declared.messages.Need.TheVariants.{Read as reading, Write as writing}
use Rattle.home_directory.specs.dsm_messages.declared.messages.Message.{Message}
use Rattle.home_directory.specs.dsm_messages.declared.messages.Message.TheVariants.{Read, Write, FwdRead, FwdWrite, Inval, Data, Grant, Ack, Done, Bye}
use Rattle.home_directory.specs.Home.{DirectoryEntry, Home}
use Rattle.home_directory.specs.Table.{LocalBlock, HomeRow, NodeRow, ask_row, done_row, node_row}
use Rattle.miss_handlers.specs.Effects.{block_facts}

-- what a node has of all blocks: the entries of those whose home it is, the requests for them that
-- wait there, how many these are in all, and each block as it is at the node
pub record Holding : Type 0 where
  pub entry : ℕ → DirectoryEntry
  pub waiting : ℕ → List Request
  pub occupancy : ℕ
  pub block : ℕ → LocalBlock

-- a row of block b: at its home, or at a node that has it or waits for it
pub data Row : Type 0 where
  AtHome : (b : ℕ) (row : HomeRow) → Row
  AtNode : (b : ℕ) (row : NodeRow) → Row

abbrev pub block_in : Row → ℕ
block_in (AtHome b row) = b
block_in (AtNode b row) = b

-- the row gives up the block, so that a reservation in it ends
abbrev pub clears : Row → Bool
clears (AtHome b row) = false
clears (AtNode b row) = row.clears

-- the node for which a message takes the block away
abbrev pub taker_in : Message → Option ℕ
taker_in (FwdWrite b r k buf) = Some r
taker_in (Inval b r) = Some r
taker_in m = None

-- the message takes a copy of its block away from the node, or the right to write it
abbrev pub takes_away : Message → Bool
takes_away (FwdRead b r buf) = true
takes_away (FwdWrite b r k buf) = true
takes_away (Inval b r) = true
takes_away m = false

abbrev pub is_bye : Message → Bool
is_bye Bye = true
is_bye m = false

abbrev pub home_of : Holding → ℕ → Home
home_of h b = record { entry = h.entry b; waiting = h.waiting b; occupancy = h.occupancy }

-- a row of the home, where b is a block of the layout and node `me` is its home
abbrev pub if_home : Shape → (me b : ℕ) → Option HomeRow → Option HomeRow
if_home l me b row = if nat_lt b (blocks l) && home l b == me then row else None

abbrev pub at_home : ℕ → Option HomeRow → Option Row
at_home b None = None
at_home b (Some row) = Some (AtHome b row)

abbrev pub at_node : ℕ → Option NodeRow → Option Row
at_node b None = None
at_node b (Some row) = Some (AtNode b row)

-- the row of a request for block b from node j, at its home
abbrev pub ask_row_of : Shape → ℕ → Holding → (j b : ℕ) → Need → Buffer → Option Row
ask_row_of l me h j b need buf =
    at_home b (if_home l me b (ask_row l.nodes (home_of h b) b j need buf))

-- the row of another node, where b is a block of the layout
abbrev pub node_row_of : Shape → Holding → (j b : ℕ) → Message → Option Row
node_row_of l h j b m =
    at_node b (if nat_lt b (blocks l) then node_row (block_facts l b) (h.block b) j m else None)

-- the row of a message from node j at node `me`; a Bye has none
abbrev pub row_of : Shape → ℕ → Holding → ℕ → Message → Option Row
row_of l me h j (Read b buf) = ask_row_of l me h j b reading buf
row_of l me h j (Write b buf) = ask_row_of l me h j b writing buf
row_of l me h j (Done b) = at_home b (if_home l me b (done_row l.nodes (home_of h b) b j))
row_of l me h j (FwdRead b r buf) = node_row_of l h j b (FwdRead b r buf)
row_of l me h j (FwdWrite b r k buf) = node_row_of l h j b (FwdWrite b r k buf)
row_of l me h j (Inval b r) = node_row_of l h j b (Inval b r)
row_of l me h j (Data b k buf) = node_row_of l h j b (Data b k buf)
row_of l me h j (Grant b k buf) = node_row_of l h j b (Grant b k buf)
row_of l me h j (Ack b) = node_row_of l h j b (Ack b)
row_of l me h j Bye = None
