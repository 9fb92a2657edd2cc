-- Helps the code alone: the waits of a node's lanes, each lane's by itself.
use Rattle.std.specs.Prelude.{◌≡◌, ℕ, suc, if◌then◌else◌, List, [], ◌∷◌, ◌++◌, map, Option, Some, None, is_some}
use Rattle.std.specs.Option.{option_to_list}
use Rattle.home_directory.specs.declared.wait.Wait.{Wait}
use Rattle.node_machine.specs.miss_handlers.Waits.{NodeWaits, wait_of}
use Rattle.node_machine.specs.declared.protocol_state.ProtocolState.{ProtocolState}
use Rattle.lane_machine.specs.declared.lane_protocol.LaneProtocol.{LaneProtocol}
use Rattle.lane_machine.specs.declared.asking.Awaits.{Awaits}

-- the first that is there, and its place
abbrev pub first_in : List (Option Wait) → Option Wait
first_in [] = None
first_in (None ∷ os) = first_in os
first_in (Some w ∷ os) = Some w

abbrev pub place_in : List (Option Wait) → ℕ
place_in [] = 0
place_in (None ∷ os) = suc (place_in os)
place_in (Some w ∷ os) = 0

abbrev pub AtMostOne : List (Option Wait) → Type 0
AtMostOne [] = Unit {0}
AtMostOne (None ∷ os) = AtMostOne os
AtMostOne (Some w ∷ os) = first_in os ≡ None

-- the waits for a block, of each of these
abbrev pub waits_for : List NodeWaits → (b : ℕ) → List (Option Wait)
waits_for ws b = map (λ w. wait_of w b) ws

-- the wait that one of them has for a block, and the place of that one
abbrev pub wait_among : List NodeWaits → ℕ → Option Wait
wait_among ws b = first_in (waits_for ws b)

abbrev pub place_among : List NodeWaits → ℕ → ℕ
place_among ws b = place_in (waits_for ws b)

-- no two of them have a wait for the same block
abbrev pub AreApart : List NodeWaits → Type 0
AreApart ws = (b : ℕ) → AtMostOne (waits_for ws b)

abbrev pub waits_in : List LaneProtocol → List NodeWaits
waits_in places = map (λ p. p.waits) places

-- all waits of a node: those in use, and those that its lanes' places keep
abbrev pub all_waits : ProtocolState → List LaneProtocol → List NodeWaits
all_waits d places = d.waits ∷ waits_in places

-- the blocks that a lane waits for
abbrev pub awaits_of : Awaits → List ℕ
awaits_of a = option_to_list a.first ++ option_to_list a.other

-- the lane that holds the wait for a block: lane 0 where there is none
abbrev pub held_in : List NodeWaits → ℕ → ℕ
held_in ws b = if is_some (wait_among ws b) then place_among ws b else 0
