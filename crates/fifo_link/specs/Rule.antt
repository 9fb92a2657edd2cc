-- The rule: what was sent is what was taken and then what the ring holds. One pass at most may
-- push, and it has the list of what was sent. The same for pops.
use Rattle.std.specs.Prelude.{◌≡◌, ℕ, Bool, true, List, ◌++◌}
use mathlib.Core.Option.{some}
use lib.ListN.{get_elem?}
use Rattle.dsm_messages.specs.declared.messages.Wire.{Wire}
use Rattle.fifo_link.specs.declared.rule.Hand.{Hand}

abbrev pub hand : (sends takes : Bool) → (sent taken : List Wire) → Hand
hand a b sent taken = record { sends = a; takes = b; sent = sent; taken = taken }

-- the pass at this port has what was sent where it may push, and what was taken where it may pop
abbrev pub Fits : (sender taker : ℕ) → (sent taken : List Wire) → (port : ℕ) → Hand → Type 0
Fits sender taker sent taken port v =
    (v.sends ≡ true → (port ≡ sender) × (v.sent ≡ sent))
    × (v.takes ≡ true → (port ≡ taker) × (v.taken ≡ taken))

abbrev pub Linked : List Wire → List Hand → Type 0
Linked items views =
    (sender : ℕ) × (taker : ℕ) × (sent : List Wire) × (taken : List Wire)
    × (sent ≡ taken ++ items)
    × ((port : ℕ) (v : Hand) → get_elem? views port ≡ some v
    → Fits sender taker sent taken port v)

-- the list ends with these items
abbrev pub EndsWith : List Wire → List Wire → Type 0
EndsWith sent items = (before : List Wire) × (sent ≡ before ++ items)
