-- What the type of a record says of the addresses in it.
use Rattle.std.specs.Prelude.{◌^◌, ◌<◌, All}
use Rattle.block_layout.specs.declared.layout.BlockRange.{BlockRange}
use Rattle.run_record.specs.declared.Record.{Record}

-- the start and the length have 32 bits
pub record HasWords (r : BlockRange) : Type 0 where
  pub start : r.start < 2 ^ 32
  pub length : r.length < 2 ^ 32

abbrev pub IsOfWords : Record → Type 0
IsOfWords r = All HasWords r.blocks
