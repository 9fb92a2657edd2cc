-- Helps the code alone: turns in which no message is on its way.
use Rattle.std.specs.Prelude.{ℕ, zero, suc, ◌+◌, ◌==◌, Bool, false, if◌then◌else◌, List, Option, Some}
use Rattle.random_order.specs.Orders.{following}
use Rattle.dsm_core.specs.node_model.Core.{Event, Exec}
use Rattle.shared_sim.specs.ByOrder.{pick_among}

-- the event is a word of node i
abbrev pub is_word_of : ℕ → Option Event → Bool
is_word_of i (Some (Exec k)) = k == i
is_word_of i e = false

-- how often so many turns pick the word of node i among these events
abbrev pub picks_of : (i : ℕ) → List Event → (turns number : ℕ) → ℕ
picks_of i events zero number = 0
picks_of i events (suc turns) number =
    (if is_word_of i (pick_among events (following number)) then 1 else 0)
    + picks_of i events turns (following number)
