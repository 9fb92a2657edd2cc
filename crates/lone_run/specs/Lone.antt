-- The original's one processor on one memory, and how many steps it makes.
use Rattle.std.specs.Prelude.{◌≡◌, ℕ, List, [], ◌∷◌, length}
use Rattle.block_layout.specs.Layout.{Shape}
use Rattle.rv32_program.specs.Program.{Program}
use Rattle.rv32_program.specs.declared.End.{End}
use Rattle.rv32_step.specs.OneMemory.{Original, opening}
use Rattle.one_memory.specs.ByOrder.{FollowsOrder, ends_after}

-- the original with one processor
abbrev pub alone : Program → Shape → Original
alone program layout = record { program = program; layout = layout; nodes = 1 }

-- It makes so many steps and ends so: by its exit, or stopped by the budget. These are the picks of
-- its run by an order, and it doesn't matter which number makes that.
pub record IsLoneRun (original : Original) (budget steps : ℕ) (end : End) : Type 0 where
  pub picks : List ℕ
  pub ordered : (number : ℕ)
      → FollowsOrder original budget number (λ p. 0) (opening original) picks
  pub steps_are : steps ≡ length picks
  pub end_is : ends_after original budget picks ≡ end ∷ []
