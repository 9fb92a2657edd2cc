-- Runs on one memory whose picks follow an order.
use Rattle.std.specs.Prelude.{◌≡◌, ℕ, ◌+◌, ◌<◌, Bool, not, ◌&&◌, ◌==◌, nat_lt, if◌then◌else◌, List, [], ◌∷◌, Option, length, map, filter, slice_index, is_some}
use Rattle.std.specs.List.{range_with_len}
use Rattle.std.specs.Option.{option_map_or}
use Rattle.rv32_program.specs.declared.End.{End}
use Rattle.rv32_program.specs.declared.End.TheVariants.{Exited, Stopped}
use Rattle.rv32_program.specs.declared.Exit.{Exit}
use Rattle.rv32_step.specs.OneMemory.{Original, State, Step, opening, step, run}
use Rattle.random_order.specs.Orders.{following, choice}

-- processor p has made one more step
abbrev pub one_more : (ℕ → ℕ) → ℕ → ℕ → ℕ
one_more steps p q = if q == p then steps q + 1 else steps q

-- a processor goes on that has no exit and has made fewer steps than the budget
abbrev pub goes_on : ℕ → (ℕ → ℕ) → State → ℕ → Bool
goes_on budget steps s p =
    not (is_some (s.processors p).exit) && nat_lt (steps p) budget

-- the processors that go on, ascending
abbrev pub live : Original → ℕ → (ℕ → ℕ) → State → List ℕ
live original budget steps s =
    filter (goes_on budget steps s) (range_with_len 0 original.nodes)

-- the processor that a number of the order picks among these
abbrev pub pick_among : List ℕ → ℕ → ℕ
pick_among processors number = slice_index processors (choice (length processors) number)

-- the picked processors: the order's next number chooses each among those that go on, until there
-- are none. The order goes on at every turn, also where one processor is left
abbrev pub FollowsOrder : Original → ℕ → ℕ → (ℕ → ℕ) → State → List ℕ → Type 0
FollowsOrder original budget number steps s [] = live original budget steps s ≡ []
FollowsOrder original budget number steps s (p ∷ ps) =
    (0 < length (live original budget steps s))
    × (p ≡ pick_among (live original budget steps s) (following number))
    × FollowsOrder original budget (following number) (one_more steps p)
    (step original s p).state ps

-- the state after the picks
abbrev pub state_after : Original → List ℕ → State
state_after original picks = run original (opening original) (map (λ p. Step p) picks)

-- how a processor ended; one without an exit was stopped by the budget
abbrev pub end_by : ℕ → Option Exit → End
end_by budget exit = option_map_or (λ e. Exited e) exit (Stopped budget)

-- the ends of so many processors
abbrev pub ends_by : ℕ → State → ℕ → List End
ends_by budget s nodes = map (λ p. end_by budget (s.processors p).exit) (range_with_len 0 nodes)

-- the ends of the processors after the picks
abbrev pub ends_after : Original → ℕ → List ℕ → List End
ends_after original budget picks = ends_by budget (state_after original picks) original.nodes

-- the original's processors on one memory, by the order of a number: the bytes printed, and how
-- each ended
pub record IsRunByOrder (original : Original) (budget number : ℕ) (output : List ℕ)
    (ends : List End) : Type 0 where
  pub picks : List ℕ
  pub ordered : FollowsOrder original budget number (λ p. 0) (opening original) picks
  pub output_is : output ≡ (state_after original picks).output
  pub ends_are : ends ≡ ends_after original budget picks
