-- Helps the code alone: what the parts of the protocol at a node change of what words see.
use Rattle.block_layout.specs.Layout.{IsValid}
use Rattle.node_model.specs.flag_memory.Copy.{CopyLaws}
use Rattle.node_model.specs.miss_handlers.Waits.{NodeWaits}
use Rattle.node_model.specs.miss_handlers.Effects.{NodeBlocks, node_blocks}
use Rattle.node_memory.specs.Shelf.{Shelf, HasLines}

-- what holds of what words see
pub record ShelfLaws (s : Shelf) : Type 0 where
  pub valid : IsValid s.copy.layout
  pub copy : CopyLaws s.copy
  pub lines : HasLines s.program s.states s.copy

-- what a node has of all blocks
abbrev pub blocks_at : NodeWaits → Shelf → NodeBlocks
blocks_at w s = node_blocks w s.states s.copy s.reservation
