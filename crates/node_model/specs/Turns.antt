-- What a node does in an event: it executes a word and asks for what the word wants, or it takes a
-- message. Either way it may send messages.
use Rattle.std.specs.Prelude.{ℕ, zero, suc, ◌+◌, ◌-◌, ◌*◌, Bool, true, false, not, if◌then◌else◌, ◌==◌, ◌&&◌, nat_lt, List, [], ◌∷◌, ◌++◌, length, slice_index, filter, Option, Some, None, is_some}
use Rattle.std.specs.Option.{option_map_or}
use Rattle.block_layout.specs.Layout.{Shape, blocks, block_of, has_line, first_line, lines}
use Rattle.block_layout.specs.Update.{changed}
use Rattle.buf_pool.specs.Pool.{empty_buffer}
use Rattle.miss_handlers.specs.llsc.Reservation.{cleared}
use Rattle.miss_handlers.specs.state_table.declared.State.{State}
use Rattle.miss_handlers.specs.state_table.StateByte.{byte_of, state_with, can_read}
use Rattle.miss_handlers.specs.flag_memory.Copy.{bytes_from}
use Rattle.miss_handlers.specs.dsm_messages.declared.messages.Need.{Need}
use Rattle.miss_handlers.specs.dsm_messages.declared.messages.Need.TheVariants as need
use Rattle.miss_handlers.specs.dsm_messages.declared.messages.Message.{Message}
use Rattle.miss_handlers.specs.dsm_messages.declared.messages.Message.TheVariants.{Bye}
use Rattle.miss_handlers.specs.dsm_messages.declared.messages.Post.{Post}
use Rattle.miss_handlers.specs.dsm_messages.declared.messages.Wire.{Wire}
use Rattle.miss_handlers.specs.home_directory.Home.{count_of, post}
use Rattle.miss_handlers.specs.home_directory.Table.{LocalBlock, Miss, want_row}
use Rattle.miss_handlers.specs.Effects.{block_facts}
use Rattle.miss_handlers.specs.Rows.{Holding, Row, AtHome, AtNode, row_of}
use Rattle.jump_map.specs.rv32_program.Program.{line_of}
use Rattle.node_model.specs.declared.NodeCounts.{NodeCounts}
use Rattle.node_model.specs.declared.Entry.{Entry as JournalEntry}
use Rattle.node_model.specs.Node.{Want, Move, Waits, Phase, Resumed, Waiting, Ended, Node, Work, word_outcome, word_step, lane_resumed, tally_resumed, counts_after, stop_or}

-- what a node did in an event: the node after it, what it sent, in order, and the byte that it
-- printed
pub record Turn : Type 0 where
  pub node : Node
  pub sends : List Post
  pub printed : Option ℕ

abbrev pub silent : Node → Turn
silent n = record { node = n; sends = []; printed = None }

-- 1. A block at a node

abbrev pub with_state : Shape → (b : ℕ) → State → (ℕ → ℕ) → ℕ → ℕ
with_state layout b state states line =
    if has_line layout b line then byte_of state else states line

abbrev pub with_bytes : Shape → (b : ℕ) → List ℕ → (ℕ → ℕ) → ℕ → ℕ
with_bytes layout b bytes copy a =
    if has_line layout b (line_of a) then slice_index bytes (a - 64 * first_line layout b)
    else copy a

-- what a node has of a block: the state that its first line's byte says, its bytes, and the wait
abbrev pub block_at : Shape → Node → ℕ → LocalBlock
block_at layout n b = record {
  state = state_with (n.local.state (first_line layout b));
  bytes = bytes_from n.local.copy (64 * first_line layout b) (64 * lines layout b);
  wait = n.wait b;
}

abbrev pub holding : Shape → Node → Holding
holding layout n = record {
  entry = n.entry;
  waiting = n.waiting;
  occupancy = n.occupancy;
  block = block_at layout n;
}

-- 2. Wants

-- a Read, or a Write while the block was shared or not readable
abbrev pub count_want : Need → State → NodeCounts → NodeCounts
count_want need.Read state c = record c { read = c.read + 1; messages = c.messages + 1 }
count_want need.Write state c =
    if can_read state then record c { upgrade = c.upgrade + 1; messages = c.messages + 1 }
    else record c { exclusive = c.exclusive + 1; messages = c.messages + 1 }

-- the node has begun a wait, where the block didn't meet the need
abbrev pub with_miss : Shape → (b : ℕ) → Need → Turn → Option Miss → Turn
with_miss layout b need t None = t
with_miss layout b need t (Some miss) = record {
  node = record t.node {
    local = record t.node.local {
      state = with_state layout b miss.block.state t.node.local.state;
    };
    wait = changed t.node.wait b miss.block.wait;
    counts = count_want need (block_at layout t.node b).state t.node.counts;
  };
  sends = t.sends ++ miss.post ∷ [];
  printed = t.printed;
}

-- a block is wanted, with an empty buffer of the node; a line that isn't shared is in none
abbrev pub want_in : Shape → Turn → Need → Option ℕ → Turn
want_in layout t need None = t
want_in layout t need (Some b) =
    with_miss layout b need t
    (want_row (block_facts layout b) (block_at layout t.node b) b need (empty_buffer 4096))

abbrev pub want_all : Shape → Turn → List Want → Turn
want_all layout t [] = t
want_all layout t (w ∷ ws) =
    want_all layout (want_in layout t w.need (block_of layout (line_of w.at))) ws

-- the blocks of two wanted lines are the same
abbrev pub is_same_want : Shape → Want → Want → Bool
is_same_want layout v w =
    option_map_or (λ b. has_line layout b (line_of w.at)) (block_of layout (line_of v.at)) false

-- the wants, but for those of a block that an earlier one is of
abbrev pub each_block_once : Shape → List Want → List Want
each_block_once layout [] = []
each_block_once layout (w ∷ ws) =
    w ∷ filter (λ v. not (is_same_want layout w v)) (each_block_once layout ws)

abbrev pub wants_of : Move → List Want
wants_of (Waits resume want more) = want ∷ more
wants_of move = []

-- 3. The end: a Bye goes to every node, ascending, after all other messages of that event

abbrev pub byes_to : ℕ → List Post
byes_to zero = []
byes_to (suc n) = byes_to n ++ post n Bye ∷ []

abbrev pub is_ended : Phase → Bool
is_ended (Ended end) = true
is_ended phase = false

abbrev pub with_byes : ℕ → Turn → Bool → Turn
with_byes nodes t false = t
with_byes nodes t true = record t { sends = t.sends ++ byes_to nodes }

-- 4. A word

abbrev pub after_word : Work → Node → Turn
after_word work n = record {
  node = word_step work n;
  sends = [];
  printed = (word_outcome work n).printed;
}

abbrev pub after_wants : Work → Node → Turn
after_wants work n =
    want_all work.layout (after_word work n)
    (each_block_once work.layout (wants_of (word_outcome work n).move))

-- the node executes its next word, and asks for the blocks that it wants
abbrev pub word_turn : Work → Node → Turn
word_turn work n =
    with_byes work.layout.nodes (after_wants work n) (is_ended (after_wants work n).node.phase)

-- 5. A message

-- a row that gives up a block is one of Inval or FwdWrite
abbrev pub count_row : Bool → ℕ → NodeCounts → NodeCounts
count_row gives_up sends c = record c {
  invalidations = if gives_up then c.invalidations + 1 else c.invalidations;
  messages = c.messages + sends;
}

-- a row changes what the node has of its block alone
abbrev pub by_row : Shape → Node → Row → Turn
by_row layout n (AtHome b row) = record {
  node = record n {
    entry = changed n.entry b row.home.entry;
    waiting = changed n.waiting b row.home.waiting;
    occupancy = row.home.occupancy;
    counts = count_row false (length row.sends) n.counts;
  };
  sends = row.sends;
  printed = None;
}
by_row layout n (AtNode b row) = record {
  node = record n {
    local = record {
      copy = with_bytes layout b row.block.bytes n.local.copy;
      state = with_state layout b row.block.state n.local.state;
      reservation =
          if row.clears then cleared layout b n.local.reservation else n.local.reservation;
    };
    wait = changed n.wait b row.block.wait;
    counts = count_row row.clears (length row.sends) n.counts;
  };
  sends = row.sends;
  printed = None;
}

-- without a row nothing changes and nothing is sent
abbrev pub by_row_or : Shape → Node → Option Row → Turn
by_row_or layout n None = silent n
by_row_or layout n (Some row) = by_row layout n row

-- a message from node j: a Bye is noted, another has its row
abbrev pub handled : Shape → Node → ℕ → Message → Turn
handled layout n j Bye = silent (record n { byes = changed n.byes j true })
handled layout n j message = by_row_or layout n (row_of layout n.me (holding layout n) j message)

-- the node waits for no block
abbrev pub has_no_wait : Shape → Node → Bool
has_no_wait layout n = count_of (λ b. is_some (n.wait b)) (blocks layout) == 0

-- where no wait is left the node runs on, or is stopped by its budget
abbrev pub resumed : Work → Node → Phase → Node
resumed work n (Waiting resume) =
    if has_no_wait work.layout n
    then record n {
      lane = lane_resumed n.lane n.local resume;
      phase = stop_or work.budget n.executed Resumed;
      counts = counts_after (tally_resumed n.local resume) n.counts;
    }
    else n
resumed work n phase = n

abbrev pub later : ℕ → ℕ → ℕ
later s t = if nat_lt s t then t else s

-- the words that the journal's takes have before them
abbrev pub words_before : List JournalEntry → ℕ
words_before [] = 0
words_before (e ∷ es) = e.words + words_before es

-- the take has its stamp, above the node's last and the wire's, and stands in the journal with the
-- number of words that were executed since the take before
abbrev pub journaled : Node → ℕ → Wire → Node
journaled n j wire = record n {
  stamp = later n.stamp wire.stamp + 1;
  journal = n.journal ++ (record {
    stamp = later n.stamp wire.stamp + 1;
    from = j;
    words = n.executed - words_before n.journal;
  }) ∷ [];
}

abbrev pub after_message : Work → Node → ℕ → Wire → Turn
after_message work n j wire =
    let t = handled work.layout (journaled n j wire) j wire.message in
    record t { node = resumed work t.node t.node.phase }

-- the node takes a message from node j
abbrev pub take_turn : Work → Node → ℕ → Wire → Turn
take_turn work n j wire =
    with_byes work.layout.nodes (after_message work n j wire)
    (is_ended (after_message work n j wire).node.phase && not (is_ended n.phase))
