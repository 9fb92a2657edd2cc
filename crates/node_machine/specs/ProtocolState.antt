-- Helps the code alone: messages and wants, by what a node stores.
use Rattle.std.specs.Prelude.{◌≡◌, ℕ, Bool, true, false, not, ◌&&◌, List, [], ◌∷◌, Option}
use Rattle.block_layout.specs.Layout.{Shape}
use Rattle.node_words.specs.dsm_messages.declared.messages.Need.{Need}
use Rattle.node_words.specs.dsm_messages.declared.messages.Need.TheVariants as need
use Rattle.node_words.specs.dsm_messages.declared.messages.Message.{Message}
use Rattle.node_words.specs.dsm_messages.declared.messages.Message.TheVariants.{Read, Write, FwdRead, FwdWrite, Inval, Data, Grant, Ack, Done, Bye}
use Rattle.node_words.specs.dsm_messages.declared.messages.Post.{Post}
use Rattle.node_words.specs.home_directory.Effects.{HomeEffect, entries_of, ask_effect, done_effect}
use Rattle.node_words.specs.miss_handlers.Effects.{NodeEffect, HasEffect, message_effect}
use Rattle.rv32_program.specs.Program.{line_of}
use Rattle.node_machine.specs.declared.protocol_state.ProtocolState.{ProtocolState}
use Rattle.node_words.specs.node_model.Node.{Node, NodeMemory, Want, is_mapped_state, is_readable_state, is_fixed_state, is_writable_state}
use Rattle.node_words.specs.node_model.Turns.{Turn}
use Rattle.node_words.specs.node_memory.Shelf.{Shelf}
use Rattle.node_words.specs.node_memory.Blocks.{blocks_at}

abbrev pub turn_by : Node → List Post → Option ℕ → Turn
turn_by n sends printed = record { node = n; sends = sends; printed = printed }

-- a line with this state byte doesn't meet the need, and a message can change that
abbrev pub is_unmet : Need → ℕ → Bool
is_unmet need.Read state = is_mapped_state state && not (is_readable_state state)
is_unmet need.Write state = not (is_fixed_state state) && not (is_writable_state state)

-- the wants of a word are of lines that don't meet them
abbrev pub AreUnmet : NodeMemory → List Want → Type 0
AreUnmet n [] = Unit {0}
AreUnmet n (w ∷ ws) = (is_unmet w.need (n.state (line_of w.at)) ≡ true) × AreUnmet n ws

-- a message that orders a node to give up a block
abbrev pub is_order : Message → Bool
is_order (FwdWrite b r k buf) = true
is_order (Inval b r) = true
is_order message = false

-- a home's row, or none, was made
pub record HomeSide (old new : ProtocolState) (s s' : Shelf) (posts : List Post)
    (effect : HomeEffect)
    : Type 0 where
  pub entries : entries_of new.directory ≡ effect.entries
  pub sends : posts ≡ effect.sends
  pub layout : new.directory.layout ≡ old.directory.layout
  pub me : new.directory.me ≡ old.directory.me
  pub waits : new.waits ≡ old.waits
  pub pool : new.pool ≡ old.pool
  pub shelf : s' ≡ s

-- another node's row, or none, was made
pub record NodeSide (old new : ProtocolState) (s s' : Shelf) (posts : List Post)
    (effect : NodeEffect)
    : Type 0 where
  pub done : HasEffect (blocks_at new.waits s') posts effect
  pub directory : new.directory ≡ old.directory
  pub states_layout : s'.states.layout ≡ s.states.layout
  pub classes : s'.states.program ≡ s.states.program
  pub copy_layout : s'.copy.layout ≡ s.copy.layout
  pub program : s'.program ≡ s.program

-- a message from node j was handled, but for the counts
abbrev pub HasRouted : Shape → (old new : ProtocolState) → (s s' : Shelf) → List Post → ℕ → Message
    → Type 0
HasRouted l old new s s' posts j (Read b buf) =
    HomeSide old new s s' posts (ask_effect old.directory j b need.Read buf)
HasRouted l old new s s' posts j (Write b buf) =
    HomeSide old new s s' posts (ask_effect old.directory j b need.Write buf)
HasRouted l old new s s' posts j (Done b) =
    HomeSide old new s s' posts (done_effect old.directory j b)
HasRouted l old new s s' posts j (FwdRead b r buf) =
    NodeSide old new s s' posts (message_effect l (blocks_at old.waits s) j (FwdRead b r buf))
HasRouted l old new s s' posts j (FwdWrite b r k buf) =
    NodeSide old new s s' posts (message_effect l (blocks_at old.waits s) j (FwdWrite b r k buf))
HasRouted l old new s s' posts j (Inval b r) =
    NodeSide old new s s' posts (message_effect l (blocks_at old.waits s) j (Inval b r))
HasRouted l old new s s' posts j (Data b k buf) =
    NodeSide old new s s' posts (message_effect l (blocks_at old.waits s) j (Data b k buf))
HasRouted l old new s s' posts j (Grant b k buf) =
    NodeSide old new s s' posts (message_effect l (blocks_at old.waits s) j (Grant b k buf))
HasRouted l old new s s' posts j (Ack b) =
    NodeSide old new s s' posts (message_effect l (blocks_at old.waits s) j (Ack b))
HasRouted l old new s s' posts j Bye =
    NodeSide old new s s' posts (message_effect l (blocks_at old.waits s) j Bye)
