-- Runs of a link over a lossy network.
use Rattle.std.specs.Prelude.{◌≡◌, ℕ, Bool, List, [], ◌∷◌, ◌++◌, Contains}
use Rattle.lossy_link.specs.Sender.{Sending, Offers, Acknowledges, new_sender}
use Rattle.lossy_link.specs.Receiver.{Receiving, Delivers, new_receiver}
use Rattle.lossy_link.specs.Packets.{Makes, Receives}
use Rattle.lossy_link.specs.declared.packet.Packet.{Packet}

-- What happens on a link: an item is offered; the packet of the item after k others that aren't
-- acknowledged is made; a packet is received; an item is delivered; a number comes to the sender
-- as an acknowledgement.
pub data Event (A : Type 0) : Type 0 where
  Offer : A → Event A
  Make : ℕ → Event A
  Receive : Packet A → Event A
  Deliver : A → Event A
  Acknowledge : ℕ → Event A

-- A link: its two ends, all packets that were made, and all values that the receiver's `next` has
-- had. The network may bring any of these, at any time, once more or never.
pub record Link (A : Type 0) : Type 0 where
  pub sender : Sending A
  pub receiver : Receiving A
  pub packets : List (Packet A)
  pub nexts : List ℕ

module _ {A : Type 0} where
  abbrev pub new_link : ℕ → Link A
  new_link window = record {
    sender = new_sender window;
    receiver = new_receiver window;
    packets = [];
    nexts = 0 ∷ [];
  }

  -- the event leads from a link to the one after it
  abbrev pub Leads : Link A → Event A → Link A → Type 0
  Leads l (Offer item) after = (s : Sending A) × Offers l.sender item s
      × (after ≡ record l { sender = s })
  Leads l (Make k) after = (p : Packet A) × Makes l.sender k p
      × (after ≡ record l { packets = p ∷ l.packets })
  Leads l (Receive p) after = (answer : Bool) × (r : Receiving A) × Contains l.packets p
      × Receives l.receiver p answer r × (after ≡ record l { receiver = r })
  Leads l (Deliver item) after = (r : Receiving A) × Delivers l.receiver item r
      × (after ≡ record l { receiver = r; nexts = r.next ∷ l.nexts })
  Leads l (Acknowledge next) after = (s : Sending A) × Contains l.nexts next
      × Acknowledges l.sender next s × (after ≡ record l { sender = s })

  -- the events lead, one after the other, from a link to another
  abbrev pub IsLossyRun : Link A → List (Event A) → Link A → Type 0
  IsLossyRun l [] after = after ≡ l
  IsLossyRun l (event ∷ events) after =
      (then : Link A) × Leads l event then × IsLossyRun then events after

  -- the items that are offered
  abbrev pub offered : List (Event A) → List A
  offered [] = []
  offered (Offer item ∷ events) = item ∷ offered events
  offered (Make k ∷ events) = offered events
  offered (Receive p ∷ events) = offered events
  offered (Deliver item ∷ events) = offered events
  offered (Acknowledge next ∷ events) = offered events

  -- the items that are delivered
  abbrev pub delivered : List (Event A) → List A
  delivered [] = []
  delivered (Offer item ∷ events) = delivered events
  delivered (Make k ∷ events) = delivered events
  delivered (Receive p ∷ events) = delivered events
  delivered (Deliver item ∷ events) = item ∷ delivered events
  delivered (Acknowledge next ∷ events) = delivered events

  -- the first list is the beginning of the second, or all of it
  abbrev pub IsPrefix : List A → List A → Type 0
  IsPrefix front all = (rest : List A) × (all ≡ front ++ rest)
