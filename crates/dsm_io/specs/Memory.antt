-- Files and a sink in memory, as contracts see them.
use Rattle.std.specs.Prelude.{ℕ, List}
use Rattle.dsm_io.specs.Schedule.{Schedule}

-- files: names with their contents, of which the first pair of a name counts, and the calls that
-- fail
pub record HeldFiles : Type 0 where
  pub pairs : List (List ℕ × List ℕ)
  pub schedule : Schedule

-- a sink: the bytes taken, the puts that fail, and those of the others that are refused because
-- it is out of memory
pub record TakenBytes : Type 0 where
  pub taken : List ℕ
  pub schedule : Schedule
  pub memory : Schedule

-- a sink that never fails: the bytes taken, and how many puts were refused because it was out of
-- memory
pub record SureBytes : Type 0 where
  pub taken : List ℕ
  pub refusals : ℕ
