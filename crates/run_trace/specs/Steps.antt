-- How many steps of the original a core run stands for.
use Rattle.std.specs.Prelude.{ℕ, Bool, true, false, List}
use Rattle.std.specs.List.{count_by}
use Rattle.replay.specs.node_model.rv32_step.OneMemory.{Pick, Step, Break}
use Rattle.templates.specs.declared.plans.PlanEntry.{PlanEntry}
use Rattle.replay.specs.node_model.Node.{Work}
use Rattle.replay.specs.node_model.Core.{Core, Event}
use Rattle.replay.specs.rewriting_law.CoreRun.{picks_of}

-- a pick is a step of the original
abbrev pub is_step : Pick → Bool
is_step (Step p) = true
is_step (Break of by) = false

-- how many of the picks of a core run are steps; by the law of rewriting these picks are an
-- interleaved run of the original
abbrev pub steps_made : Work → List PlanEntry → Core → List Event → ℕ
steps_made work plan c events = count_by is_step (picks_of work plan c events)
