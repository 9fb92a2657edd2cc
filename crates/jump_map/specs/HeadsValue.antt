-- Helps the code alone: what contracts see of the places of a plan.
use Rattle.std.specs.Prelude.{ℕ, List}
use Rattle.jump_map.specs.declared.heads.PlaceStart.{PlaceStart}

-- where the words of each place begin, and how many words there are
pub record HeadsValue : Type 0 where
  pub starts : List PlaceStart
  pub total : ℕ
