-- The directory protocol beside what words see of the nodes: what the nodes keep for it, and what a
-- want and a message change of that.
use Rattle.std.specs.Prelude.{ℕ, Bool, true, false, if◌then◌else◌, List, [], ◌∷◌, length, Option, Some, None}
use Rattle.rewriting_law.proofs.Names.{Shape, first_line, changed, empty_buffer, cleared, state_with, Need, Message, Wait, DirectoryEntry, Miss, want_row, block_facts, Row, AtHome, AtNode, taker_in, World, local_block, with_sends, wanted, NodeMemory, with_state, with_bytes, Order, order_by}
use Rattle.home_directory.specs.declared.directory.Request.{Request}
use Rattle.dsm_protocol.specs.World.{with_list}
use Rattle.dsm_protocol.specs.Events.{row_of}
use Rattle.dsm_protocol.proofs.ByAddress.{bytes_in}
use Rattle.rewriting_law.proofs.protocol_side.ProtocolSide.{Handled, Protocol}
use Rattle.rewriting_law.proofs.protocol_side.Spending.{Counts, asks_more, takes_more}

-- what the nodes keep of blocks beside their bytes and states, by node, and the lists of messages
pub record Rest : Type 0 where
  pub entry : ℕ → ℕ → DirectoryEntry
  pub waiting : ℕ → ℕ → List Request
  pub occupancy : ℕ → ℕ
  pub wait : ℕ → ℕ → Option Wait
  pub list : ℕ → ℕ → List Message
  -- what was wanted and taken so far, which no event depends on
  pub counts : Counts

module _ (layout : Shape) where
  -- the nodes and lists, by block
  abbrev pub world_of : (ℕ → NodeMemory) → Rest → World
  world_of locals rest = record {
    entry = rest.entry;
    waiting = rest.waiting;
    occupancy = rest.occupancy;
    state = λ i b. state_with ((locals i).state (first_line layout b));
    bytes = λ i. bytes_in layout (locals i).copy;
    wait = rest.wait;
    list = rest.list;
  }

  -- node i has begun a wait, or the block met the need
  abbrev pub missed : NodeMemory → Rest → (i b : ℕ) → Option Miss → Handled Rest
  missed n rest i b None = record { local = n; rest = rest }
  missed n rest i b (Some miss) = record {
    local = record n { state = with_state layout b miss.block.state n.state };
    rest = record {
      entry = rest.entry;
      waiting = rest.waiting;
      occupancy = rest.occupancy;
      wait = changed rest.wait i (changed (rest.wait i) b miss.block.wait);
      list = with_sends rest.list i (miss.post ∷ []);
      counts = asks_more (wanted miss.block.wait) rest.counts;
    };
  }

  abbrev pub miss_in : World → (i b : ℕ) → Need → Option Miss
  miss_in w i b need =
      want_row (block_facts layout b) (local_block w i b) b need (empty_buffer 4096)

  -- node i has taken the first message of the list from j, and `ms` are left of the list
  abbrev pub took : NodeMemory → Rest → (i j : ℕ) → List Message → Option Row → Handled Rest
  took n rest i j ms None = record {
    local = n;
    rest = record {
      entry = rest.entry;
      waiting = rest.waiting;
      occupancy = rest.occupancy;
      wait = rest.wait;
      list = with_list rest.list j i ms;
      counts = rest.counts;
    };
  }
  took n rest i j ms (Some (AtHome b row)) = record {
    local = n;
    rest = record {
      entry = changed rest.entry i (changed (rest.entry i) b row.home.entry);
      waiting = changed rest.waiting i (changed (rest.waiting i) b row.home.waiting);
      occupancy = changed rest.occupancy i row.home.occupancy;
      wait = rest.wait;
      list = with_sends (with_list rest.list j i ms) i row.sends;
      counts = takes_more (length row.sends) rest.counts;
    };
  }
  took n rest i j ms (Some (AtNode b row)) = record {
    local = record {
      copy = with_bytes layout b row.block.bytes n.copy;
      state = with_state layout b row.block.state n.state;
      reservation = if row.clears then cleared layout b n.reservation else n.reservation;
    };
    rest = record {
      entry = rest.entry;
      waiting = rest.waiting;
      occupancy = rest.occupancy;
      wait = changed rest.wait i (changed (rest.wait i) b row.block.wait);
      list = with_sends (with_list rest.list j i ms) i row.sends;
      counts = takes_more (length row.sends) rest.counts;
    };
  }

  abbrev pub take_from : (ℕ → NodeMemory) → Rest → (i j : ℕ) → List Message → Handled Rest
  take_from locals rest i j [] = record { local = locals i; rest = rest }
  take_from locals rest i j (m ∷ ms) =
      took (locals i) rest i j ms (row_of layout (world_of locals rest) i j m)

  abbrev pub order_from : (ℕ → NodeMemory) → Rest → (i j : ℕ) → List Message → Option Order
  order_from locals rest i j [] = None
  order_from locals rest i j (m ∷ ms) =
      order_by (taker_in m) (row_of layout (world_of locals rest) i j m)

  abbrev pub is_some_list : List Message → Bool
  is_some_list [] = false
  is_some_list (m ∷ ms) = true

  abbrev pub directory : Protocol
  directory = record {
    Rest = Rest;
    wait = λ rest i b. wanted (rest.wait i b);
    want = λ locals rest i b need.
        missed (locals i) rest i b (miss_in (world_of locals rest) i b need);
    has_message = λ rest i j. is_some_list (rest.list j i);
    take = λ locals rest i j. take_from locals rest i j (rest.list j i);
    order = λ locals rest i j. order_from locals rest i j (rest.list j i);
  }
