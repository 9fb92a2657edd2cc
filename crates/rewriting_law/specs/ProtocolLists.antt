-- The protocol that a core shows: what its nodes keep of blocks, and the messages between them.
use Rattle.std.specs.Prelude.{◌≡◌, ℕ, ◌+◌, ◌*◌, ◌<◌, ◌≤◌, ◌⊎◌, List, [], ◌∷◌, Some}
use Rattle.block_layout.specs.Layout.{Shape, blocks, home, block_of, first_line}
use Rattle.state_table.specs.StateByte.{byte_of, state_with}
use Rattle.home_directory.specs.flag_memory.Copy.{bytes_from}
use Rattle.home_directory.specs.dsm_messages.declared.messages.Message.{Message}
use Rattle.home_directory.specs.dsm_messages.declared.messages.Wire.{Wire}
use Rattle.home_directory.specs.dsm_messages.declared.messages.Need.TheVariants.{Read, Write}
use Rattle.home_directory.specs.dsm_messages.declared.messages.Message.TheVariants.{Done}
use Rattle.coherence.specs.Machine.{after}
use Rattle.dsm_protocol.specs.World.{World}
use Rattle.dsm_protocol.specs.Abstraction.{Contents, contents, setting_of}
use Rattle.dsm_protocol.specs.Memory.{address_of}
use Rattle.dsm_protocol.specs.Sound.{size}
use Rattle.dsm_protocol.specs.Holds.{Holds}
use Rattle.dsm_protocol.specs.node_model.Node.{Work}
use Rattle.dsm_protocol.specs.node_model.Core.{Core}

-- the messages of a list, without their stamps
abbrev pub messages_of : List Wire → List Message
messages_of [] = []
messages_of (w ∷ ws) = w.message ∷ messages_of ws

-- what the nodes and lists of a core are, by node and block: the state of a block is that of its
-- first line, and its bytes are those of the node's copy
abbrev pub world_shown : Shape → Core → World
world_shown layout c = record {
  entry = λ i. (c.nodes i).entry;
  waiting = λ i. (c.nodes i).waiting;
  occupancy = λ i. (c.nodes i).occupancy;
  state = λ i b. state_with ((c.nodes i).local.state (first_line layout b));
  bytes = λ i b. bytes_from (c.nodes i).local.copy (address_of layout b) (size layout b);
  wait = λ i. (c.nodes i).wait;
  list = λ j i. messages_of (c.list j i);
}

-- each block has the contents that this memory has at its addresses
abbrev pub AreContentsOf : Shape → (ℕ → ℕ) → (ℕ → Contents) → Type 0
AreContentsOf layout memory first = (b : ℕ) → b < blocks layout
    → first b ≡ contents (bytes_from memory (address_of layout b) (size layout b))

-- Some protocol list, of licensed stores, wants and takes, leads from the program's first bytes to
-- these nodes and lists, and to this memory; and each line of a block has the block's state. The
-- list's stores needn't be those of a run that leads there, one by one: only the bytes at its start
-- and at its end are the run's.
pub record HasProtocolList (work : Work) (c : Core) (memory : ℕ → ℕ) : Type 0 where
  pub holds : Holds work.layout (world_shown work.layout c) memory
  pub starts : AreContentsOf work.layout work.program.first holds.first
  pub states : (i line b : ℕ) → i < work.layout.nodes → block_of work.layout line ≡ Some b
      → (c.nodes i).local.state line ≡ byte_of ((world_shown work.layout c).state i b)

-- the messages that such a list has sent for the request with which the home of block b began last;
-- the request itself is one of them
abbrev pub cost_in : {work : Work} {c : Core} {memory : ℕ → ℕ} → HasProtocolList work c memory
    → (b : ℕ) → ℕ
cost_in {work} list b =
    ((after (setting_of work.layout list.holds.first) list.holds.events).tally b).cost

-- Where the first message from node j to node i is a Done, it ends a miss of node j, and node i is
-- the home, busy with this miss: one to read has cost exactly four messages, and one to write at
-- most 2n + 1.
abbrev pub EndsMisses : {work : Work} {c : Core} {memory : ℕ → ℕ} → HasProtocolList work c memory
    → Type 0
EndsMisses {work} {c} list =
    (i j b : ℕ) (wire : Wire) (rest : List Wire) → i < work.layout.nodes → j < work.layout.nodes
    → c.list j i ≡ wire ∷ rest → wire.message ≡ Done b
    → (home work.layout b ≡ i)
    × (((((c.nodes i).entry b).busy ≡ Some (record { need = Read; node = j }))
    × (cost_in list b ≡ 4))
    ⊎ ((((c.nodes i).entry b).busy ≡ Some (record { need = Write; node = j }))
    × (cost_in list b ≤ 2 * work.layout.nodes + 1)))
