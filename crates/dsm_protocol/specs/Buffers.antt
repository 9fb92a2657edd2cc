-- Where the buffers are: a node takes one for each block that it wants, and sends it along with the
-- request. So a buffer is named by its node and the block for which it was taken.
use Rattle.std.specs.Prelude.{◌≡◌, ℕ, ◌+◌, ◌<◌, Bool, false, ◌==◌, ◌&&◌, List, [], ◌∷◌, Option, None, Some, is_some}
use Rattle.block_layout.specs.Layout.{Shape, blocks, home}
use Rattle.home_directory.specs.dsm_messages.declared.messages.Message.{Message}
use Rattle.home_directory.specs.dsm_messages.declared.messages.Message.TheVariants.{Read, Write, FwdRead, FwdWrite, Inval, Data, Grant, Ack, Done, Bye}
use Rattle.home_directory.specs.declared.directory.Request.{Request}
use Rattle.home_directory.specs.declared.wait.Wait.{Wait}
use Rattle.coherence.specs.Table.{sum_below}
use Rattle.coherence.specs.Claims.{one_if}
use Rattle.dsm_protocol.specs.World.{World}

-- Whether a message from j to i carries the buffer that node r took for block b: a request and its
-- forward carry the requester's, and an answer carries that of the node to which it goes.
abbrev pub carries : (r b j i : ℕ) → Message → Bool
carries r b j i (Read d buf) = d == b && j == r
carries r b j i (Write d buf) = d == b && j == r
carries r b j i (FwdRead d q buf) = d == b && q == r
carries r b j i (FwdWrite d q k buf) = d == b && q == r
carries r b j i (Inval d q) = false
carries r b j i (Data d k buf) = d == b && i == r
carries r b j i (Grant d k buf) = d == b && i == r
carries r b j i (Ack d) = false
carries r b j i (Done d) = false
carries r b j i Bye = false

-- how many messages of a list from j to i carry it
abbrev pub carrying : (r b j i : ℕ) → List Message → ℕ
carrying r b j i [] = 0
carrying r b j i (m ∷ ms) = one_if (carries r b j i m) + carrying r b j i ms

-- how many of these requests are of node r
abbrev pub asked_by : ℕ → List Request → ℕ
asked_by r [] = 0
asked_by r (q ∷ qs) = one_if (q.from == r) + asked_by r qs

abbrev pub is_answered : Option Wait → Bool
is_answered None = false
is_answered (Some w) = is_some w.answer

module _ (l : Shape) (w : World) where
  -- in how many places is the buffer that node r took for block b: messages between the nodes,
  -- requests for b that wait at its home, and an answered wait
  abbrev pub buffer_places : (r b : ℕ) → ℕ
  buffer_places r b =
      sum_below (λ j. sum_below (λ i. carrying r b j i (w.list j i)) l.nodes) l.nodes
      + asked_by r (w.waiting (home l b) b) + one_if (is_answered (w.wait r b))

  -- while a node waits for a block the buffer that it took for it is in one place, and no buffer of
  -- another block or node is anywhere
  abbrev pub AreInOnePlace : Type 0
  AreInOnePlace = (r b : ℕ) → r < l.nodes → b < blocks l
      → buffer_places r b ≡ one_if (is_some (w.wait r b))
