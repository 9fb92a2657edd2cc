-- Programs whose rewritten code is too large.
use Rattle.std.specs.Prelude.{ℕ, Bool, List}
use Rattle.rv32_program.specs.Program.{Program}
use Rattle.templates.specs.declared.plans.PlanEntry.{PlanEntry}
use Rattle.jump_map.specs.Image.{HasTooManyWords}
use Rattle.templates.specs.WholePlan.{IsPlanOf}

-- the plan of the program, with batches or without, has so many words, which are more than an image
-- may have
pub record IsTooLarge (batches : Bool) (program : Program) (words : ℕ) : Type 0 where
  pub plan : List PlanEntry
  pub is_plan : IsPlanOf batches program.code plan
  pub many : HasTooManyWords program plan words
