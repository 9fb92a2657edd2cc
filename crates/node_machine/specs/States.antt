-- Helps the code alone: what the processors of a node store together.
use Rattle.std.specs.Prelude.{◌<◌, length}
use Rattle.std.specs.Vec.{vec_capacity}
use Rattle.node_machine.specs.declared.states.SharedState.{SharedState}

-- there is room for one entry of the journal and one byte of output
pub record HasRoom (s : SharedState) : Type 0 where
  pub journal : length s.journal.items < vec_capacity s.journal
  pub output : length s.output.items < vec_capacity s.output
