-- What contracts see of a rewritten program.
use Rattle.std.specs.Prelude.{Bool, List}
use Rattle.rv32_program.specs.Program.{Program}
use Rattle.templates.specs.declared.plans.PlanEntry.{PlanEntry}
use Rattle.templates.specs.WholePlan.{IsPlanOf}
use Rattle.jump_map.specs.Image.{Cell, IsRewriting}

pub record Parts : Type 0 where
  pub image : List Cell
  pub plan : List PlanEntry

-- the plan is that of the program, with batches or without, and the image is its rewriting by it
pub record IsRewritten (batches : Bool) (program : Program) (parts : Parts) : Type 0 where
  pub plan : IsPlanOf batches program.code parts.plan
  pub rewriting : IsRewriting program parts.plan parts.image
