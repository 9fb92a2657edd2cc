-- Packets: how a sender makes them, and what a receiver does with them.
use Rattle.std.specs.Prelude.{◌≡◌, ℕ, ◌+◌, ◌-◌, ◌<◌, Bool, false, IsTrue, ◌↔◌, Some, slice_get, slice_set}
use Rattle.lossy_link.specs.Sender.{Sending}
use Rattle.lossy_link.specs.Receiver.{Receiving, IsWanted}
use Rattle.lossy_link.specs.declared.packet.Packet.{Packet}

module _ {A : Type 0} where
  -- the packet of the item after k others, within the window, with its number
  pub record Makes (s : Sending A) (k : ℕ) (packet : Packet A) : Type 0 where
    pub within : k < s.window
    pub item : slice_get s.items k ≡ Some packet.item
    pub number : packet.number ≡ s.acknowledged + k

  -- the receiver with the packet's item held
  abbrev pub with_held : Receiving A → Packet A → Receiving A
  with_held r packet =
      record r { places = slice_set r.places (packet.number - r.next) (Some packet.item) }

  -- The packet's item is held where it is wanted, and the answer says whether it is. Otherwise
  -- nothing changes.
  pub record Receives (r : Receiving A) (packet : Packet A) (answer : Bool) (after : Receiving A)
      : Type 0 where
    pub wanted : IsTrue answer ↔ IsWanted r packet.number
    pub holds : IsTrue answer → after ≡ with_held r packet
    pub refuses : answer ≡ false → after ≡ r
