-- What the table's rows change at a node that has blocks or waits for them.
use Rattle.std.specs.Prelude.{◌≡◌, ℕ, ◌+◌, ◌*◌, length, Bool, false, if◌then◌else◌, nat_lt, List, [], Option, Some, None}
use Rattle.block_layout.specs.Layout.{Shape, blocks, home, lines}
use Rattle.block_layout.specs.Update.{changed}
use Rattle.buf_pool.specs.Pool.{Slots, empty_buffer, one_more, one_less}
use Rattle.llsc.specs.Reservation.{cleared}
use Rattle.home_directory.specs.state_table.declared.State.{State}
use Rattle.home_directory.specs.state_table.States.{States, state_of}
use Rattle.home_directory.specs.flag_memory.Copy.{Copy, bytes_of}
use Rattle.home_directory.specs.dsm_messages.declared.messages.Message.{Message}
use Rattle.home_directory.specs.dsm_messages.declared.messages.Message.TheVariants.{Read, Write, FwdRead, FwdWrite, Inval, Data, Grant, Ack, Done, Bye}
use Rattle.home_directory.specs.dsm_messages.declared.messages.Need.{Need}
use Rattle.home_directory.specs.dsm_messages.declared.messages.Post.{Post}
use Rattle.home_directory.specs.declared.wait.Wait.{Wait}
use Rattle.home_directory.specs.Table.{BlockFacts, LocalBlock, NodeRow, Miss, node_row, want_row}
use Rattle.miss_handlers.specs.Waits.{NodeWaits, wait_of}

-- what a node has of all blocks, beside the entries of its own: states, bytes and waits by block,
-- and the address that its processor has reserved
pub record NodeBlocks : Type 0 where
  pub state : ℕ → State
  pub bytes : ℕ → List ℕ
  pub wait : ℕ → Option Wait
  pub reserved : Option ℕ

abbrev pub node_blocks : NodeWaits → States → Copy → Option ℕ → NodeBlocks
node_blocks w s c r = record {
  state = state_of s;
  bytes = bytes_of c;
  wait = wait_of w;
  reserved = r;
}

abbrev pub local_block : NodeBlocks → ℕ → LocalBlock
local_block n b = record { state = n.state b; bytes = n.bytes b; wait = n.wait b }

abbrev pub block_facts : Shape → ℕ → BlockFacts
block_facts layout b = record {
  nodes = layout.nodes;
  home = home layout b;
  size = 64 * lines layout b;
}

-- what a message leaves at a node, what is sent, and whether a buffer goes back to the pool
pub record NodeEffect : Type 0 where
  pub node : NodeBlocks
  pub sends : List Post
  pub gives_back : Bool

-- a row changes what the node has of its block alone; without a row nothing changes and nothing is
-- sent
abbrev pub row_effect : Shape → NodeBlocks → ℕ → Option NodeRow → NodeEffect
row_effect layout n b None = record { node = n; sends = []; gives_back = false }
row_effect layout n b (Some row) = record {
  node = record {
    state = changed n.state b row.block.state;
    bytes = changed n.bytes b row.block.bytes;
    wait = changed n.wait b row.block.wait;
    reserved = if row.clears then cleared layout b n.reserved else n.reserved;
  };
  sends = row.sends;
  gives_back = row.gives_back;
}

-- the block that a message is about
abbrev pub named_block : Message → Option ℕ
named_block (Read b buf) = Some b
named_block (Write b buf) = Some b
named_block (FwdRead b r buf) = Some b
named_block (FwdWrite b r k buf) = Some b
named_block (Inval b r) = Some b
named_block (Data b k buf) = Some b
named_block (Grant b k buf) = Some b
named_block (Ack b) = Some b
named_block (Done b) = Some b
named_block Bye = None

-- the row of a message from node j about b, where b is a block of the layout
abbrev pub node_row_at : Shape → NodeBlocks → ℕ → Message → ℕ → Option NodeRow
node_row_at layout n j message b =
    if nat_lt b (blocks layout)
    then node_row (block_facts layout b) (local_block n b) j message
    else None

abbrev pub effect_about : Shape → NodeBlocks → ℕ → Message → Option ℕ → NodeEffect
effect_about layout n j message None = record { node = n; sends = []; gives_back = false }
effect_about layout n j message (Some b) = row_effect layout n b (node_row_at layout n j message b)

-- a message from node j
abbrev pub message_effect : Shape → NodeBlocks → ℕ → Message → NodeEffect
message_effect layout n j message = effect_about layout n j message (named_block message)

-- a node has come to this, and has sent this
pub record HasEffect (n : NodeBlocks) (posts : List Post) (e : NodeEffect) : Type 0 where
  pub state : n.state ≡ e.node.state
  pub bytes : n.bytes ≡ e.node.bytes
  pub wait : n.wait ≡ e.node.wait
  pub reserved : n.reserved ≡ e.node.reserved
  pub sends : posts ≡ e.sends

-- the buffers of a node that are in its pool or belong to its waits
abbrev pub buffers : Slots → NodeWaits → ℕ
buffers p w = p.free + length w.waits

abbrev pub pool_after : Slots → Bool → Slots
pool_after p gives_back = if gives_back then one_more p else p

-- a miss on b, where the block doesn't meet the need; its buffer is one of the pool
abbrev pub miss_of : NodeWaits → States → Slots → ℕ → Need → Option Miss
miss_of w s p b need =
    let old : LocalBlock = record { state = state_of s b; bytes = []; wait = wait_of w b } in
    want_row (block_facts w.layout b) old b need (empty_buffer p.bytes)

abbrev pub states_after : (ℕ → State) → ℕ → Option Miss → ℕ → State
states_after f b None = f
states_after f b (Some miss) = changed f b miss.block.state

abbrev pub waits_after : (ℕ → Option Wait) → ℕ → Option Miss → ℕ → Option Wait
waits_after f b None = f
waits_after f b (Some miss) = changed f b miss.block.wait

abbrev pub pool_after_miss : Slots → Option Miss → Slots
pool_after_miss p None = p
pool_after_miss p (Some miss) = one_less p

abbrev pub post_of : Option Miss → Option Post
post_of None = None
post_of (Some miss) = Some miss.post
