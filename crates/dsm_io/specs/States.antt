-- What contracts see of files and of a sink.
use Rattle.std.specs.Prelude.{ℕ, List, Option}

-- files: what each name holds, where that is told, and how many reads and writes of it failed
pub record FilesState : Type 0 where
  pub held : List ℕ → Option (List ℕ)
  pub failed_reads : List ℕ → ℕ
  pub failed_writes : List ℕ → ℕ

-- a sink: the bytes taken so far, where they are told; how often it failed; and how many puts it
-- refused because it was out of memory
pub record SinkState : Type 0 where
  pub taken : Option (List ℕ)
  pub faults : ℕ
  pub refusals : ℕ
