-- A link over a network that loses, repeats and keeps back packets, and what happens on it.
use Rattle.std.specs.Prelude.{◌≡◌, ℕ, suc, ◌+◌, ◌==◌, ◌&&◌, ◌||◌, not, Bool, true, false, min, if◌then◌else◌, List, [], ◌∷◌, ◌++◌, length, map, slice_get}
use Rattle.std.specs.Option.{option_to_list}
use Rattle.std.specs.List.{flat_map, range_with_len}
use Rattle.random_order.specs.Orders.{choice, after_turns}
use Rattle.dsm_messages.specs.declared.messages.Wire.{Wire}
use Rattle.lossy_link.specs.Sender.{Sending, Acknowledges, new_sender}
use Rattle.lossy_link.specs.Receiver.{Receiving, new_receiver}
use Rattle.lossy_link.specs.Packets.{Receives}
use Rattle.lossy_link.specs.declared.packet.Packet.{Packet}

-- A link: its two ends; the packets that the network kept back at its last turn, by number; and how
-- many of the last draws for packet 0, and of those for the acknowledgement, were 0 in a row, where
-- more than 7 count as 7.
pub record LossyLink : Type 0 where
  pub sender : Sending Wire
  pub receiver : Receiving Wire
  pub kept : List (Packet Wire)
  pub lost : ℕ
  pub silent : ℕ

-- nothing was offered yet; a window is of 8 items
abbrev pub new_link : LossyLink
new_link = record {
  sender = new_sender 8;
  receiver = new_receiver 8;
  kept = [];
  lost = 0;
  silent = 0;
}

-- these are offered, in order
abbrev pub with_offered : LossyLink → List Wire → LossyLink
with_offered l wires = record l { sender = record l.sender { items = l.sender.items ++ wires } }

-- the packet of the item after k others, where there is one
abbrev pub packet_at : Sending Wire → ℕ → List (Packet Wire)
packet_at s k = map (λ item. record { number = s.acknowledged + k; item = item })
    (option_to_list (slice_get s.items k))

-- how many packets a network turn draws for
abbrev pub packets_drawn : LossyLink → ℕ
packets_drawn l = min 8 (length l.sender.items)

-- the draw after k others, from a number of the losses on
abbrev pub drawn_after : (number k : ℕ) → ℕ
drawn_after number k = choice 4 (after_turns (suc k) number)

-- What the draw for the packet after k others counts as. Where the seven last draws for packet 0
-- were 0, it is received whatever the number: twice at 1, and else once, and at 3 too it isn't kept
-- back.
abbrev pub draw_for : LossyLink → (number k : ℕ) → ℕ
draw_for l number k =
    if k == 0 && l.lost == 7 && not (drawn_after number k == 1) then 2 else drawn_after number k

-- how often a packet is received by its draw: 0 loses it, and 3 keeps it back
abbrev pub received_by : (draw : ℕ) → Packet Wire → List (Packet Wire)
received_by draw p = if draw == 1 then p ∷ p ∷ [] else if draw == 2 then p ∷ [] else []

abbrev pub kept_by : (draw : ℕ) → Packet Wire → List (Packet Wire)
kept_by draw p = if draw == 3 then p ∷ [] else []

-- what becomes of the packets after fewer than k others, each by its draw
abbrev pub each_by : ((draw : ℕ) → Packet Wire → List (Packet Wire)) → LossyLink → (number k : ℕ)
    → List (Packet Wire)
each_by fate l number k = flat_map
    (λ m. flat_map (fate (draw_for l number m)) (packet_at l.sender m)) (range_with_len 0 k)

-- the packets are received, one after the other
abbrev pub HaveCome : Receiving Wire → List (Packet Wire) → Receiving Wire → Type 0
HaveCome r [] after = after ≡ r
HaveCome r (p ∷ ps) after =
    (next : Receiving Wire) × (answer : Bool) × Receives r p answer next × HaveCome next ps after

-- how many draws in a row were 0, after one more
abbrev pub in_a_row : (row drawn : ℕ) → ℕ
in_a_row row drawn = if drawn == 0 then min 7 (row + 1) else 0

-- an acknowledgement is given to the sender: 0 loses it, unless the seven last draws were 0
abbrev pub is_given : (silent drawn : ℕ) → Bool
is_given silent drawn = silent == 7 || not (drawn == 0)

-- What the network does with a link at one of its turns, with the draws from a number of the losses
-- on: one for each packet of the window, and then one for the acknowledgement of what the receiver
-- waits for. The packets that were kept back are received first.
pub record HasNetworkTurn (number : ℕ) (l : LossyLink) (last : ℕ) (after : LossyLink)
    : Type 0 where
  pub come : HaveCome l.receiver (l.kept ++ each_by received_by l number (packets_drawn l))
      after.receiver
  pub kept : after.kept ≡ each_by kept_by l number (packets_drawn l)
  pub lost : after.lost ≡
      (if packets_drawn l == 0 then l.lost else in_a_row l.lost (drawn_after number 0))
  pub given : is_given l.silent (drawn_after number (packets_drawn l)) ≡ true
      → Acknowledges l.sender after.receiver.next after.sender
  pub not_given : is_given l.silent (drawn_after number (packets_drawn l)) ≡ false
      → after.sender ≡ l.sender
  pub silent : after.silent ≡ in_a_row l.silent (drawn_after number (packets_drawn l))
  pub draws : last ≡ after_turns (packets_drawn l + 1) number
