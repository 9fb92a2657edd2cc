-- What `one`, `sim`, `run` and `replay` print, by the original alone: a run of its processors on
-- one memory, interleaved instruction by instruction.
use Rattle.std.specs.Prelude.{◌≡◌, ℕ, ◌*◌, ◌^◌, ◌<◌, ◌≤◌, List, ◌++◌, Option, None, Some, IfSome, All, Contains, codes, option_map}
use Rattle.std.specs.List.{flat_map}
use Rattle.std.specs.Option.{option_map_or}
use Rattle.block_layout.specs.Layout.{Shape, IsValid}
use Rattle.command_line.specs.Tasks.{Execution, Task, Run, One, Sim, Replay, task_row, read_in}
use Rattle.run_limits.specs.Ranges.{IsBudget}
use Rattle.run_record.specs.Telling.{HasWords}
use Rattle.run_record.specs.Text.{number_line, code_line, block_line}
use Rattle.dsm_io.specs.Causes.{Appends}
use Rattle.dsm_io.specs.States.{FilesState, SinkState}
use Rattle.prepared_run.specs.Interleaved.{IsLaidOutBy, TellsOfOriginal, least_steps}

-- how many processors so many nodes have, each one or so many
abbrev pub processors_on : (nodes : ℕ) → (lanes : Option ℕ) → ℕ
processors_on nodes lanes = option_map_or (λ m. nodes * m) lanes nodes

-- the text tells of a run on the processors of nodes, whose files have these contents
abbrev pub TellsOfExecution : Execution → (lanes : Option ℕ) → (List ℕ → List ℕ) → List ℕ → Type 0
TellsOfExecution e lanes contents text =
    TellsOfOriginal (contents e.file) (IsLaidOutBy (option_map contents e.layout) e.nodes)
    (processors_on e.nodes lanes) e.budget (least_steps lanes e.budget) text

-- The text begins as a record does, of a run with this layout and this budget: with the version,
-- the nodes, the budget, whether checks were batched, the number of rewritten words, which the
-- first version doesn't name, and the blocks. Behind these stand the nodes' journals, from node 0
-- on.
pub record BeginsRecord (text : List ℕ) (layout : Shape) (budget : ℕ) : Type 0 where
  pub version : ℕ
  pub batch : ℕ
  pub code : Option ℕ
  pub behind : List ℕ
  pub text_is : text ≡ number_line (codes "shasta-record ") version
      ++ (number_line (codes "nodes ") layout.nodes ++ (number_line (codes "budget ") budget
      ++ (number_line (codes "batch ") batch ++ (code_line code
      ++ (flat_map block_line layout.named ++ (codes "node 0\n" ++ behind))))))
  pub versions : version ≤ 2
  pub batches : batch ≤ 1
  pub few_words : IfSome code (λ words. words < 2 ^ 32)
  pub limit : IsBudget budget
  pub words : All HasWords layout.named
  pub valid : IsValid layout

-- the text tells of a run on as many processors as a record says, with its budget and its blocks
pub record TellsOfRecord (file kept text : List ℕ) : Type 0 where
  pub nodes : ℕ
  pub budget : ℕ
  pub tells : TellsOfOriginal file
      (λ (layout : Shape). (layout.nodes ≡ nodes) × BeginsRecord kept layout budget) nodes budget
      (least_steps None budget) text

-- the text of a command, whose files have these contents, tells of the original
abbrev pub IsTextOfOriginal : Task → (List ℕ → List ℕ) → List ℕ → Type 0
IsTextOfOriginal (Run a) contents text = TellsOfExecution a.execution None contents text
IsTextOfOriginal (Sim a) contents text = TellsOfExecution a.execution a.lanes contents text
IsTextOfOriginal (One a) contents text =
    TellsOfOriginal (contents a.file) (IsLaidOutBy (option_map contents a.layout) a.nodes) a.nodes
    a.budget a.budget text
IsTextOfOriginal (Replay a) contents text =
    TellsOfRecord (contents a.file) (contents a.record_file) text

-- the whole of such a text was put
pub record PrintsOriginal (task : Task) (contents : List ℕ → List ℕ)
    (before now : SinkState) : Type 0 where
  pub text : List ℕ
  pub is : IsTextOfOriginal task contents text
  pub put : Appends before.taken now.taken text

-- each file that the command reads is told to have its content
abbrev pub AreFilesTold : Task → FilesState → (List ℕ → List ℕ) → Type 0
AreFilesTold task files contents = (name : List ℕ) → Contains (read_in (task_row task)) name
    → files.held name ≡ Some (contents name)
