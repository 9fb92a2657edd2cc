-- What is under way on a link: what was offered there without what was delivered.
use Rattle.std.specs.Prelude.{◌≡◌, ℕ, ◌<◌, List, ◌++◌, Contains, All}
use Rattle.dsm_messages.specs.declared.messages.Wire.{Wire}
use Rattle.lossy_link.specs.declared.packet.Packet.{Packet}
use Rattle.lossy_link.specs.Runs as lossy
use Rattle.lossy_link.specs.Runs.{IsLossyRun, offered, delivered}
use Rattle.node_model.specs.Node.{Node}
use Rattle.node_model.specs.Core.{Core}
use Rattle.lossy_sim.specs.Links.{LossyLink}

-- A lossy run of a new link leads to this one, in which these messages were offered and not
-- delivered. The packets kept back were made, and the receiver waits for a number that it may
-- acknowledge.
pub record Carries (l : LossyLink) (under_way : List Wire) : Type 0 where
  pub events : List (lossy.Event Wire)
  pub packets : List (Packet Wire)
  pub nexts : List ℕ
  pub run : IsLossyRun (lossy.new_link 8) events
      (record { sender = l.sender; receiver = l.receiver; packets = packets; nexts = nexts })
  pub split : offered events ≡ delivered events ++ under_way
  pub kept : All (Contains packets) l.kept
  pub next : Contains nexts l.receiver.next

-- n nodes and the links between them stand for a core: the nodes are its nodes, and on each link
-- its list is under way
pub record StandFor (n : ℕ) (node : ℕ → Node) (link : (j i : ℕ) → LossyLink) (c : Core)
    : Type 0 where
  pub nodes : (i : ℕ) → i < n → node i ≡ c.nodes i
  pub lists : (j i : ℕ) → j < n → i < n → Carries (link j i) (c.list j i)
