-- What a contract sees of an end of a link: which link it is of, how many wires the ring holds, and
-- the wires that went through this end.
use Rattle.std.specs.Prelude.{ℕ, List}
use Rattle.atomic_table.specs.Seated.{TableId}
use Rattle.dsm_messages.specs.declared.messages.Wire.{Wire}

pub record End : Type 0 where
  pub link : TableId
  pub capacity : ℕ
  pub wires : List Wire
