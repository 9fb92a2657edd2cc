-- A run on one memory that is made pick by pick, and a position in it.
use Rattle.std.specs.Prelude.{ℕ, List, map, take}
use Rattle.elf32_read.specs.Elf.{Elf}
use Rattle.exec_map.specs.Contents.{program_of}
use Rattle.block_layout.specs.Layout.{Shape}
use Rattle.rv32_step.specs.OneMemory.{Original, State, Pick as ModelPick, IsRun, opening, run}
use Rattle.one_memory.specs.declared.Pick.{Pick}
use Rattle.one_memory.specs.Shown.{pick_of}

-- a program, the blocks of its shared lines, how many processors run it, and what happens
pub record Run : Type 0 where
  pub program : Elf
  pub layout : Shape
  pub nodes : ℕ
  pub picks : List Pick

-- a position in a run: so many of its picks have been made
pub record Stand : Type 0 where
  pub run : Run
  pub position : ℕ

abbrev pub original_in : Run → Original
original_in r = record {
  program = program_of r.program;
  layout = r.layout;
  nodes = r.nodes;
}

abbrev pub picks_in : Run → List ModelPick
picks_in r = map pick_of r.picks

-- the picks are an interleaved run of the original from its start
abbrev pub IsInterleaved : Run → Type 0
IsInterleaved r = IsRun (original_in r) (opening (original_in r)) (picks_in r)

-- the state after the first k picks
abbrev pub state_at : Run → (k : ℕ) → State
state_at r k = run (original_in r) (opening (original_in r)) (take k (picks_in r))
