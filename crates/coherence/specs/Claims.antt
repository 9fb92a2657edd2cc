-- What holds after every protocol list.
use Rattle.std.specs.Prelude.{◌≡◌, ◌≢◌, ℕ, ◌+◌, ◌*◌, ◌<◌, ◌≤◌, Bool, true, false, not, cond, eqb, Option, Some, None, List, [], ◌∷◌, ◌⊎◌, ◌&&◌}
use Rattle.coherence.specs.Messages.{Need, Read, Write, ForwardMessage, FwdRead, FwdWrite, Inval, Grant, Message, ToHome, Forward, Response, Ask, Done, Data, Ack, Wait, can_read, can_write, is_none, is_unanswered}
use Rattle.coherence.specs.Table.{Effect, sum_below}
use Rattle.coherence.specs.Machine.{Wire, Core, Setting, Proper, Event, waiting_at, row_of, waits, after}

-- the node for which a message takes the block away from another
abbrev pub taker : ForwardMessage → Option ℕ
taker (FwdRead r) = None
taker (FwdWrite r k) = Some r
taker (Inval r) = Some r
taker (Grant k) = None

-- each message about block b is a Done
abbrev pub AreDones : {C : Type 0} → ℕ → List (Wire C) → Type 0
AreDones b [] = Unit {0}
AreDones b (w ∷ ws) = (w.block ≡ b → w.body ≡ ToHome Done) × AreDones b ws

-- Whether a message from j to i carries the buffer of node r: a request and its forward carry the
-- requester's, and an answer carries that of the node to which it goes.
abbrev pub carries : {C : Type 0} → (r j i : ℕ) → Message C → Bool
carries r j i (ToHome (Ask need)) = eqb j r
carries r j i (ToHome Done) = false
carries r j i (Forward (FwdRead q)) = eqb q r
carries r j i (Forward (FwdWrite q k)) = eqb q r
carries r j i (Forward (Inval q)) = false
carries r j i (Forward (Grant k)) = eqb i r
carries r j i (Response (Data k c)) = eqb i r
carries r j i (Response Ack) = false

abbrev pub one_if : Bool → ℕ
one_if holds = cond holds 1 0

-- how many messages of a list from j to i carry the buffer that node r took for block b
abbrev pub carrying : {C : Type 0} → (r b j i : ℕ) → List (Wire C) → ℕ
carrying r b j i [] = 0
carrying r b j i (w ∷ ws) =
    one_if (eqb w.block b && carries r j i w.body) + carrying r b j i ws

-- how many of these requests are of node r
abbrev pub asked_by : ℕ → List (ℕ × Need) → ℕ
asked_by r [] = 0
asked_by r (q ∷ qs) = one_if (eqb q.0 r) + asked_by r qs

abbrev pub is_answered : {C : Type 0} → Option (Wait C) → Bool
is_answered None = false
is_answered (Some w) = not (is_unanswered w.answer)

-- in how many places is the buffer that node r took for block b: messages between the nodes,
-- requests that wait at the block's home, and an answered wait
abbrev pub buffer_places : {C : Type 0} → Setting C → Core C → (r b : ℕ) → ℕ
buffer_places s k r b =
    sum_below (λ j. sum_below (λ i. carrying r b j i (k.list j i)) s.nodes) s.nodes
    + asked_by r (k.waiting b) + one_if (is_answered (k.wait r b))

module _ {C : Type 0} where
  -- the copies are coherent with the memory: a readable one is the memory's, every other is flagged
  pub record Coherent (s : Setting C) (k : Core C) : Type 0 where
    pub reads : (i b : ℕ) → can_read (k.state i b) ≡ true → k.copy i b ≡ k.memory b
    pub flags : (i b : ℕ) → can_read (k.state i b) ≡ false → k.copy i b ≡ s.flag

  -- a block that node i may write is readable at no other node
  abbrev pub OneWriter : Setting C → Core C → Type 0
  OneWriter s k =
      (i x b : ℕ) → can_write (k.state i b) ≡ true → can_read (k.state x b) ≡ true → x ≡ i

  -- the first message of each list has its row
  abbrev pub HaveRows : Setting C → Core C → Type 0
  HaveRows s k = (i j : ℕ) (w : Wire C) (rest : List (Wire C)) → k.list j i ≡ w ∷ rest
      → (e : Effect C) × (row_of s k i j w ≡ Some e)

  -- where a node waits the list between two nodes isn't empty
  abbrev pub Moves : Setting C → Core C → Type 0
  Moves s k = (i b : ℕ) → k.wait i b ≢ None
      → (x : ℕ) × (y : ℕ) × (x < s.nodes) × (y < s.nodes) × (k.list x y ≢ [])

  -- where no node waits for a block, the messages about it are Dones
  abbrev pub Settles : Setting C → Core C → Type 0
  Settles s k = (b : ℕ) → ((i : ℕ) → i < s.nodes → b < s.blocks → k.wait i b ≡ None)
      → (j i : ℕ) → AreDones b (k.list j i)

  -- a block is taken away from a node for another, which waits to write it
  abbrev pub TakersWait : Setting C → Core C → Type 0
  TakersWait s k = (i j b r : ℕ) (m : ForwardMessage) (rest : List (Wire C))
      → k.list j i ≡ record { block = b; body = Forward m } ∷ rest → taker m ≡ Some r
      → (r < s.nodes) × (r ≢ i) × (w : Wait C) × (k.wait r b ≡ Some w) × (w.need ≡ Write)

  -- a node that waits for a block may not write it
  abbrev pub WaitersRead : Setting C → Core C → Type 0
  WaitersRead s k = (i b : ℕ) (w : Wait C) → k.wait i b ≡ Some w → can_write (k.state i b) ≡ false

  -- a node waits for no more blocks than it may
  abbrev pub FewWaits : Setting C → Core C → Type 0
  FewWaits s k = (i : ℕ) → waits s k i ≤ s.most

  abbrev pub FewAcks : Setting C → Core C → Type 0
  FewAcks s k = (i b : ℕ) (w : Wait C) → k.wait i b ≡ Some w → w.acks < 16

  -- The requests that wait at a node are counted, and at most 32: so an array of 32 places serves.
  -- `HaveRows` says that a request that comes finds room in it.
  abbrev pub FewRequests : Setting C → Core C → Type 0
  FewRequests s k = (i : ℕ) → (k.occupancy i ≡ waiting_at s.home k.waiting s.blocks i)
      × (k.occupancy i ≤ 32)

  -- the buffer that a node took for a block is in one place while it waits for it, and then in none
  abbrev pub InOnePlace : Setting C → Core C → Type 0
  InOnePlace s k = (r b : ℕ) → r < s.nodes
      → buffer_places s k r b ≡ one_if (not (is_none (k.wait r b)))

  -- Where a Done comes the home is busy for its sender; a read has cost exactly four messages, and
  -- a write at most 2n + 1.
  abbrev pub Costs : Setting C → Core C → Type 0
  Costs s k = (i j b : ℕ) (rest : List (Wire C))
      → k.list j i ≡ record { block = b; body = ToHome Done } ∷ rest
      → ((k.busy b ≡ Some (Read, j)) × ((k.tally b).cost ≡ 4))
      ⊎ ((k.busy b ≡ Some (Write, j)) × ((k.tally b).cost ≤ 2 * s.nodes + 1))

  -- the messages sent about a block are no more than its misses allow, nor are those taken
  pub record Frugal (s : Setting C) (k : Core C) : Type 0 where
    pub sends : (b : ℕ) → (k.tally b).sends ≤ (k.tally b).allowance
    pub takes : (b : ℕ) → (k.tally b).takes ≤ (k.tally b).allowance

-- a claim holds after every protocol list, which is any list of events from the opening core
abbrev pub AfterEveryList : (C : Type 0) → (Setting C → Core C → Type 0) → Type 0
AfterEveryList C Claim = (s : Setting C) → Proper s → (es : List (Event C)) → Claim s (after s es)
