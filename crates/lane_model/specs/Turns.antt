-- What a node of several processors does in an event: a lane executes a word and asks for what the
-- word wants, or the node takes a message.
use Rattle.std.specs.Option.{option_to_list}
use Rattle.std.specs.Prelude.{ℕ, zero, suc, ◌+◌, ◌-◌, Bool, true, false, not, if◌then◌else◌, ◌==◌, ◌&&◌, ◌||◌, List, [], ◌∷◌, ◌++◌, Option, Some, None, is_some}
use Rattle.block_layout.specs.Layout.{Shape, block_of}
use Rattle.block_layout.specs.Update.{changed}
use Rattle.node_model.specs.dsm_messages.declared.messages.Need.{Need}
use Rattle.node_model.specs.dsm_messages.declared.messages.Need.TheVariants.{Read, Write}
use Rattle.node_model.specs.dsm_messages.declared.messages.Post.{Post}
use Rattle.node_model.specs.dsm_messages.declared.messages.Wire.{Wire}
use Rattle.node_model.specs.home_directory.declared.wait.Wait.{Wait}
use Rattle.rv32_program.specs.Program.{line_of}
use Rattle.node_model.specs.rv32_step.Reservations.{after_other}
use Rattle.node_model.specs.rv32_step.OneMemory.{Access, Nothing, Reads, Writes, WritesIf, Exchanges}
use Rattle.node_model.specs.declared.NodeCounts.{NodeCounts}
use Rattle.node_model.specs.Node.{Work, Node, NodeMemory, Want, Tally, Nothing_counted, Phase, Waiting, Resumed, word_outcome, lane_resumed, tally_resumed, counts_after, stop_or}
use Rattle.node_model.specs.Turns.{Turn, want_in, wants_of, each_block_once, after_word, handled, later, words_before, is_ended, byes_to}
use Rattle.lane_model.specs.Nodes.{LaneWork, LanePart, LaneNode, as_node, shared_by, all_lanes}

-- what a node did in an event: the node after it, what it sent, in order, and the byte that a lane
-- printed
pub record LaneTurn : Type 0 where
  pub node : LaneNode
  pub sends : List Post
  pub printed : Option ℕ

-- 1. Reservations

-- a reservation after another lane of the node has made this access: a store, an AMO or a
-- conditional store that stores ends it in its block
abbrev pub lost : Shape → Access → Option ℕ → Option ℕ
lost layout Nothing reserved = reserved
lost layout (Reads kind a value) reserved = reserved
lost layout (Writes width a value) reserved = after_other layout a reserved
lost layout (WritesIf a value true) reserved = after_other layout a reserved
lost layout (WritesIf a value false) reserved = reserved
lost layout (Exchanges a old new) reserved = after_other layout a reserved

-- 2. Wants

-- what a lane's word has asked for: the node as that lane sees it, with what it has sent; and
-- whether the lane executes its word again once it waits for no block
pub record Asked : Type 0 where
  pub turn : Turn
  pub again : Bool

-- a block that the node waits for only to read it is needed to write it
abbrev pub is_beyond : (have need : Need) → Bool
is_beyond Read Write = true
is_beyond Read Read = false
is_beyond Write need = false

abbrev pub exceeds : Option Wait → Need → Bool
exceeds None need = false
exceeds (Some wait) need = is_beyond wait.need need

-- a block that the node waits for already isn't asked for again: the lane waits with its holder
abbrev pub ask_block : Shape → (b : ℕ) → Need → Asked → Asked
ask_block layout b need t = record {
  turn = if is_some (t.turn.node.wait b) then t.turn else want_in layout t.turn need (Some b);
  again = t.again || exceeds (t.turn.node.wait b) need;
}

-- a line that isn't shared is in no block
abbrev pub ask : Shape → Need → Option ℕ → Asked → Asked
ask layout need None t = t
ask layout need (Some b) t = ask_block layout b need t

abbrev pub ask_all : Shape → List Want → Asked → Asked
ask_all layout [] t = t
ask_all layout (w ∷ ws) t =
    ask_all layout ws (ask layout w.need (block_of layout (line_of w.at)) t)

-- the blocks of wants, and those of a list that are waited for
abbrev pub blocks_of : Shape → List Want → List ℕ
blocks_of layout [] = []
blocks_of layout (w ∷ ws) =
    option_to_list (block_of layout (line_of w.at)) ++ blocks_of layout ws

abbrev pub still : (ℕ → Option Wait) → List ℕ → List ℕ
still wait [] = []
still wait (b ∷ bs) = if is_some (wait b) then b ∷ still wait bs else still wait bs

-- 3. The end: a node whose lanes have all ended sends its Byes, after all other messages of that
-- event

abbrev pub has_ended : LaneNode → ℕ → Bool
has_ended x k = is_ended (x.lanes k).phase

abbrev pub have_ended : LaneWork → LaneNode → Bool
have_ended w x = all_lanes (has_ended x) w.lanes

abbrev pub with_byes : (nodes : ℕ) → LaneTurn → Bool → LaneTurn
with_byes nodes t false = t
with_byes nodes t true = record t { sends = t.sends ++ byes_to nodes }

abbrev pub ending : LaneWork → (before : LaneNode) → LaneTurn → LaneTurn
ending w before t =
    with_byes w.work.layout.nodes t (have_ended w t.node && not (have_ended w before))

-- 4. A word

-- the blocks that lane k's next word wants
abbrev pub wants_at : LaneWork → LaneNode → (k : ℕ) → List Want
wants_at w x k =
    each_block_once w.work.layout (wants_of (word_outcome w.work (as_node x k)).move)

-- the lane has executed its next word, and asked for each of these
abbrev pub word_asked : LaneWork → LaneNode → (k : ℕ) → Asked
word_asked w x k =
    ask_all w.work.layout (wants_at w x k)
    (record { turn = after_word w.work (as_node x k); again = false })

-- the lane after that, which waits for the blocks that it wants
abbrev pub part_after : LaneWork → LaneNode → (k : ℕ) → LanePart
part_after w x k =
    let t = word_asked w x k in
    let n = t.turn.node in
    record {
      lane = n.lane;
      executed = n.executed;
      phase = n.phase;
      awaits = still n.wait (blocks_of w.work.layout (wants_at w x k));
      again = t.again;
    }

-- the reservations after lane k's word
abbrev pub reserved_after : LaneWork → LaneNode → (k : ℕ) → ℕ → Option ℕ
reserved_after w x k j =
    let r = word_outcome w.work (as_node x k) in
    if j == k then r.local.reservation
    else lost w.work.layout r.access (x.shared.reservation j)

-- who holds the node's waits then: the lane holds those that were none's
abbrev pub holder_after : LaneNode → (k : ℕ) → ℕ → ℕ
holder_after x k b = if is_some (x.shared.wait b) then x.shared.holder b else k

-- what isn't waited for is held by lane 0
abbrev pub held_by : (wait : ℕ → Option Wait) → (holder : ℕ → ℕ) → ℕ → ℕ
held_by wait holder b = if is_some (wait b) then holder b else 0

-- the turn but for Byes
abbrev pub word_before : LaneWork → LaneNode → (k : ℕ) → LaneTurn
word_before w x k =
    let t = (word_asked w x k).turn in
    record {
      node = record {
        lanes = changed x.lanes k (part_after w x k);
        shared = shared_by t.node (reserved_after w x k) (held_by t.node.wait (holder_after x k));
      };
      sends = t.sends;
      printed = t.printed;
    }

-- lane k executes its next word, and asks for the blocks that it wants
abbrev pub word_turn : LaneWork → LaneNode → (k : ℕ) → LaneTurn
word_turn w x k = ending w x (word_before w x k)

-- 5. A message

-- a lane that waits for no block any more goes on after its word, or at the word again; or it is
-- stopped by its budget
abbrev pub resume_part : Work → NodeMemory → LanePart → Phase → List ℕ → LanePart
resume_part work n p (Waiting resume) [] = record p {
  lane = if p.again then p.lane else lane_resumed p.lane n resume;
  phase = stop_or work.budget p.executed Resumed;
  awaits = [];
  again = false;
}
resume_part work n p phase bs = record p { awaits = bs }

abbrev pub resumed : Work → Node → LanePart → LanePart
resumed work n p = resume_part work n.local p p.phase (still n.wait p.awaits)

-- what is counted of a lane that goes on after its word
abbrev pub tally_on : NodeMemory → LanePart → Phase → List ℕ → Tally
tally_on n p (Waiting resume) [] = if p.again then Nothing_counted else tally_resumed n resume
tally_on n p phase bs = Nothing_counted

abbrev pub counted : Node → (ℕ → LanePart) → (lanes : ℕ) → NodeCounts
counted n parts zero = n.counts
counted n parts (suc k) =
    counts_after (tally_on n.local (parts k) (parts k).phase (still n.wait (parts k).awaits))
    (counted n parts k)

-- the words that the first lanes have executed
abbrev pub words_of : LaneNode → (lanes : ℕ) → ℕ
words_of x zero = 0
words_of x (suc k) = (x.lanes k).executed + words_of x k

-- the take has its stamp, and stands in the journal
abbrev pub journaled : LaneWork → LaneNode → (k : ℕ) → (j : ℕ) → Wire → Node
journaled w x k j wire =
    let n = as_node x k in
    record n {
      stamp = later n.stamp wire.stamp + 1;
      journal = n.journal ++ (record {
        stamp = later n.stamp wire.stamp + 1;
        from = j;
        words = words_of x w.lanes - words_before n.journal;
      }) ∷ [];
    }

-- the node as lane k sees it, once the message from node j is handled as at a node of one processor
abbrev pub handled_for : LaneWork → LaneNode → (j : ℕ) → Wire → (k : ℕ) → Turn
handled_for w x j wire k = handled w.work.layout (journaled w x k j wire) j wire.message

-- the node after that: what a lane has reserved is as it sees it, and all else is as any lane sees
-- it
abbrev pub after_message : LaneWork → LaneNode → (j : ℕ) → Wire → LaneNode
after_message w x j wire =
    let n = (handled_for w x j wire 0).node in
    record {
      lanes = λ k. resumed w.work n (x.lanes k);
      shared = shared_by (record n { counts = counted n x.lanes w.lanes })
          (λ k. (handled_for w x j wire k).node.local.reservation)
          (held_by n.wait x.shared.holder);
    }

-- the node takes a message from node j
abbrev pub take_turn : LaneWork → LaneNode → (j : ℕ) → Wire → LaneTurn
take_turn w x j wire =
    ending w x (record {
      node = after_message w x j wire;
      sends = (handled_for w x j wire 0).sends;
      printed = None;
    })
