-- Helps the code alone: processors under way by an order.
use Rattle.std.specs.Prelude.{◌≡◌, ◌≤◌, ◌^◌, ℕ, List, length, map, slice_index}
use Rattle.rv32_step.specs.OneMemory.{State, Step, run}
use Rattle.one_memory.specs.Machine.{original_of, state_of}
use Rattle.one_memory.specs.ByOrder.{live, FollowsOrder}
use Rattle.one_memory.specs.declared.by_order.OriginalRun.{OriginalRun}

-- the steps that each processor has made
abbrev pub steps_of : OriginalRun → ℕ → ℕ
steps_of r = slice_index r.steps.items

-- the parts agree
pub record IsRunning (r : OriginalRun) : Type 0 where
  pub few : r.nodes ≤ 16
  pub budget : r.budget ≤ 2 ^ 32
  pub nodes : (original_of r.machine).nodes ≡ r.nodes
  pub steps : length r.steps.items ≡ r.nodes
  pub live : r.live.items ≡ live (original_of r.machine) r.budget (steps_of r) (state_of r.machine)

-- from one run on, the processors that the order of a number picks were stepped, until none goes on
pub record HasRun (from : OriginalRun) (number : ℕ) (end : State) : Type 0 where
  pub picks : List ℕ
  pub ordered : FollowsOrder (original_of from.machine) from.budget number (steps_of from)
      (state_of from.machine) picks
  pub end_is : end
      ≡ run (original_of from.machine) (state_of from.machine) (map (λ p. Step p) picks)
