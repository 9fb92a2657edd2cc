-- n nodes, their blocks, and the n × n lists of messages between them; and what happens there.
use Rattle.std.specs.Prelude.{ℕ, ◌+◌, ◌-◌, ◌*◌, ◌<◌, ◌≤◌, Bool, true, false, not, cond, eqb, ltb, Option, Some, None, List, [], ◌∷◌, ◌++◌, ◌&&◌, length}
use Rattle.coherence.specs.Messages.{Need, State, Exclusive, Invalid, Message, ToHome, Forward, Response, Ask, Unanswered, Wait, can_write, is_none, meets, while_asked, allowance_for}
use Rattle.coherence.specs.Table.{BlockAtNode, Queueing, Stays, Joins, FirstLeaves, Effect, effect_or, update, count, sum_below, row}

-- a message about a block
pub record Wire (C : Type 0) : Type 0 where
  pub block : ℕ
  pub body : Message C

-- Counts of a block's messages, which no event depends on: messages taken, messages sent, how many
-- the requests so far allow, and how many were sent for the transaction that began last.
pub record Tally : Type 0 where
  pub takes : ℕ
  pub sends : ℕ
  pub allowance : ℕ
  pub cost : ℕ

-- What the nodes keep: the entry of a block and the requests for it that wait at its home, in order
-- of arrival, by the block; how many requests wait at a node in all, by the node; the rest by node
-- and block. `list j i` are the messages from j to i, and `memory` is the one memory.
pub record Core (C : Type 0) : Type 0 where
  pub owner : ℕ → ℕ
  pub sharers : ℕ → ℕ → Bool
  pub busy : ℕ → Option (Need × ℕ)
  pub waiting : ℕ → List (ℕ × Need)
  pub occupancy : ℕ → ℕ
  pub state : ℕ → ℕ → State
  pub copy : ℕ → ℕ → C
  pub wait : ℕ → ℕ → Option (Wait C)
  pub list : ℕ → ℕ → List (Wire C)
  pub memory : ℕ → C
  pub tally : ℕ → Tally

-- the number of nodes and of blocks, the home of each block, its first contents, the contents whose
-- every word is the flag word, and how many blocks a node may wait for at a time
pub record Setting (C : Type 0) : Type 0 where
  pub nodes : ℕ
  pub blocks : ℕ
  pub home : ℕ → ℕ
  pub first : ℕ → C
  pub flag : C
  pub most : ℕ

-- up to 16 nodes, each home is one of them, and they have up to 32 waits in all
pub record Proper {C : Type 0} (s : Setting C) : Type 0 where
  pub nodes : s.nodes ≤ 16
  pub homes : (b : ℕ) → s.home b < s.nodes
  pub room : s.nodes * s.most ≤ 32

-- A node stores to a block that it may write (`write` is what becomes of the contents), wants a
-- block, or takes the first message of a list.
pub data Event (C : Type 0) : Type 0 where
  Store : (i b : ℕ) (write : C → C) → Event C
  Want : (i b : ℕ) (need : Need) → Event C
  Take : (i j : ℕ) → Event C

-- a pair of places
unfoldable pub update2 : {A : Type 0} → (ℕ → ℕ → A) → ℕ → ℕ → A → ℕ → ℕ → A
update2 f i j a x y = cond (eqb x i && eqb y j) a (f x y)

-- the messages for i of a list of sends, in order
abbrev pub those_to : {M : Type 0} → ℕ → List (ℕ × M) → List M
those_to i [] = []
those_to i (p ∷ ps) = cond (eqb p.0 i) (p.1 ∷ those_to i ps) (those_to i ps)

-- node j sends these, in order
unfoldable pub send_all : {M : Type 0} → (ℕ → ℕ → List M) → ℕ → List (ℕ × M) → ℕ → ℕ → List M
send_all f j posts x y = cond (eqb x j) (f x y ++ those_to y posts) (f x y)

-- sends about block b
abbrev pub wires : {C : Type 0} → ℕ → List (ℕ × Message C) → List (ℕ × Wire C)
wires b [] = []
wires b (p ∷ ps) = (p.0, record { block = b; body = p.1 }) ∷ wires b ps

-- the requests for a block that wait, after a row
abbrev pub queue_after : Queueing → List (ℕ × Need) → List (ℕ × Need)
queue_after Stays q = q
queue_after (Joins r need) q = q ++ (r, need) ∷ []
queue_after FirstLeaves [] = []
queue_after FirstLeaves (p ∷ q) = q

-- how many requests wait at the home in all then, where q waited for the block, and n in all
abbrev pub occupancy_after : Queueing → List (ℕ × Need) → ℕ → ℕ
occupancy_after Stays q n = n
occupancy_after (Joins r need) q n = n + 1
occupancy_after FirstLeaves [] n = n
occupancy_after FirstLeaves (p ∷ q) n = n - 1

-- the number of the requests for the first m blocks that wait at node i, each at its block's home
abbrev pub waiting_at : (home : ℕ → ℕ) → (ℕ → List (ℕ × Need)) → (m i : ℕ) → ℕ
waiting_at home waiting m i =
    sum_below (λ b. length (cond (eqb (home b) i) (waiting b) [])) m

abbrev pub is_forward : {C : Type 0} → Message C → Bool
is_forward (ToHome m) = false
is_forward (Forward m) = true
is_forward (Response m) = false

-- Only a home at which a transaction begins sends forwards. Its request counts, and all that is
-- sent for it from then on.
abbrev pub cost_after : {C : Type 0} → List (ℕ × Message C) → ℕ → ℕ
cost_after [] c = c
cost_after (p ∷ ps) c = cond (is_forward p.1) (2 + length ps) (c + (1 + length ps))

module _ {C : Type 0} where
  -- what node i keeps of block b
  abbrev pub local : Core C → (i b : ℕ) → BlockAtNode C
  local k i b = record {
    owner = k.owner b;
    sharers = k.sharers b;
    busy = k.busy b;
    state = k.state i b;
    copy = k.copy i b;
    wait = k.wait i b;
  }

  abbrev pub tally_after : Tally → List (ℕ × Message C) → Tally
  tally_after t sends = record {
    takes = t.takes + 1;
    sends = t.sends + length sends;
    allowance = t.allowance;
    cost = cost_after sends t.cost;
  }

  -- node i has taken the first message of the list from j, about block b; `rest` is left of it
  abbrev pub apply : Core C → (j i b : ℕ) → List (Wire C) → Effect C → Core C
  apply k j i b rest e = record {
    owner = update k.owner b e.after.owner;
    sharers = update k.sharers b e.after.sharers;
    busy = update k.busy b e.after.busy;
    waiting = update k.waiting b (queue_after e.queueing (k.waiting b));
    occupancy = update k.occupancy i
        (occupancy_after e.queueing (k.waiting b) (k.occupancy i));
    state = update2 k.state i b e.after.state;
    copy = update2 k.copy i b e.after.copy;
    wait = update2 k.wait i b e.after.wait;
    list = send_all (update2 k.list j i rest) i (wires b e.sends);
    memory = k.memory;
    tally = update k.tally b (tally_after (k.tally b) e.sends);
  }

module _ {C : Type 0} (s : Setting C) where
  -- the row of a message from j at node i, if it has one
  abbrev pub row_of : Core C → (i j : ℕ) → Wire C → Option (Effect C)
  row_of k i j w =
      cond (ltb w.block s.blocks)
      (row s.flag s.nodes (s.home w.block) i j (ltb (k.occupancy i) 32) (k.waiting w.block)
      (local k i w.block) w.body) None

  abbrev pub take_in : Core C → (i j : ℕ) → List (Wire C) → Core C
  take_in k i j [] = k
  take_in k i j (w ∷ rest) = apply k j i w.block rest
      (effect_or (local k i w.block) (row_of k i j w))

  abbrev pub store_in : Core C → (i b : ℕ) → (C → C) → Core C
  store_in k i b write = record k {
    copy = update2 k.copy i b (write (k.copy i b));
    memory = update k.memory b (write (k.memory b));
  }

  -- how many blocks node i waits for
  abbrev pub waits : Core C → ℕ → ℕ
  waits k i = count (λ b. not (is_none (k.wait i b))) s.blocks

  -- a node may want a block of the layout that doesn't meet its need, while it has fewer waits
  -- than it may have, and none for this block
  abbrev pub may_want : Core C → (i b : ℕ) → Need → Bool
  may_want k i b need =
      (ltb i s.nodes && ltb b s.blocks)
      && ((is_none (k.wait i b) && ltb (waits k i) s.most) && not (meets need (k.state i b)))

  abbrev pub want_in : Core C → (i b : ℕ) → Need → Core C
  want_in k i b need = record k {
    wait = update2 k.wait i b (Some (record { need = need; answer = Unanswered; acks = 0 }));
    state = update2 k.state i b (while_asked (k.state i b));
    list = update2 k.list i (s.home b)
        (k.list i (s.home b) ++ record { block = b; body = ToHome (Ask need) } ∷ []);
    tally = update k.tally b (record (k.tally b) {
      sends = (k.tally b).sends + 1;
      allowance = (k.tally b).allowance + allowance_for s.nodes need;
    });
  }

  -- an event that isn't allowed changes nothing
  abbrev pub step : Core C → Event C → Core C
  step k (Store i b write) = cond (can_write (k.state i b)) (store_in k i b write) k
  step k (Want i b need) = cond (may_want k i b need) (want_in k i b need) k
  step k (Take i j) = take_in k i j (k.list j i)

  abbrev pub steps : Core C → List (Event C) → Core C
  steps k [] = k
  steps k (e ∷ es) = steps (step k e) es

  -- At the start every block is exclusive at its home, and invalid and flagged elsewhere.
  abbrev pub opening : Core C
  opening = record {
    owner = s.home;
    sharers = λ b x. eqb x (s.home b);
    busy = λ b. None;
    waiting = λ b. [];
    occupancy = λ i. 0;
    state = λ i b. cond (eqb i (s.home b)) Exclusive Invalid;
    copy = λ i b. cond (eqb i (s.home b)) (s.first b) s.flag;
    wait = λ i b. None;
    list = λ j i. [];
    memory = s.first;
    tally = λ b. record { takes = 0; sends = 0; allowance = 0; cost = 0 };
  }

  -- the core after a protocol list: stores that are licensed, wants and takes
  abbrev pub after : List (Event C) → Core C
  after es = steps opening es
