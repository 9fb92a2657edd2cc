-- Helps the code alone: the completion of a wait that was taken out of the list.
use Rattle.std.specs.Prelude.{ℕ, None}
use Rattle.home_directory.specs.state_table.States.{States}
use Rattle.home_directory.specs.flag_memory.Copy.{Copy}
use Rattle.home_directory.specs.declared.wait.Wait.{Wait}
use Rattle.home_directory.specs.Table.{NodeRow, completion}
use Rattle.miss_handlers.specs.Waits.{NodeWaits}
use Rattle.miss_handlers.specs.Effects.{node_blocks, local_block, block_facts}

abbrev pub completion_of : NodeWaits → States → Copy → ℕ → Wait → NodeRow
completion_of w s c b wait =
    completion (block_facts w.layout b) (local_block (node_blocks w s c None) b) b wait
