-- Helps the code alone: a network turn of a link, draw by draw.
use Rattle.std.specs.Prelude.{◌≡◌, ℕ, ◌==◌, Bool, if◌then◌else◌, [], ◌∷◌, ◌++◌}
use Rattle.random_order.specs.Orders.{after_turns}
use Rattle.lossy_link.specs.Packets.{Receives}
use Rattle.lossy_link.specs.declared.packet.Packet.{Packet}
use Rattle.dsm_messages.specs.declared.messages.Wire.{Wire}
use Rattle.lossy_sim.specs.Links.{LossyLink, HaveCome, packet_at, drawn_after, received_by, kept_by, each_by, in_a_row}

-- what was kept back came, and then the packets after fewer than k others had their draws
pub record HasBrought (number k : ℕ) (l : LossyLink) (last : ℕ) (after : LossyLink) : Type 0 where
  pub sender : after.sender ≡ l.sender
  pub come : HaveCome l.receiver (l.kept ++ each_by received_by l number k) after.receiver
  pub kept : after.kept ≡ each_by kept_by l number k
  pub lost : after.lost ≡ (if k == 0 then l.lost else in_a_row l.lost (drawn_after number 0))
  pub silent : after.silent ≡ l.silent
  pub draws : last ≡ after_turns k number

-- the packet after k others was received
pub record HasReceived (k : ℕ) (l after : LossyLink) : Type 0 where
  pub packet : Packet Wire
  pub is : packet_at l.sender k ≡ packet ∷ []
  pub answer : Bool
  pub receives : Receives l.receiver packet answer after.receiver
  pub others : after ≡ record l { receiver = after.receiver }
