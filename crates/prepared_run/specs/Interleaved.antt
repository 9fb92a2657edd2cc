-- What the text of an outcome tells of the original alone: of a run of its processors on one memory,
-- interleaved instruction by instruction.
use Rattle.std.specs.Prelude.{◌≡◌, ℕ, ◌/◌, ◌<◌, ◌≤◌, List, [], ◌++◌, Option, None, Some, length}
use Rattle.std.specs.Option.{option_map_or}
use Rattle.elf32_read.specs.Elf.{Elf}
use Rattle.exec_map.specs.Contents.{program_of, AreSharedRanges}
use Rattle.block_layout.specs.Layout.{Shape, IsValid}
use Rattle.block_layout.specs.Text.{Name, text_lines}
use Rattle.rv32_program.specs.declared.End.{End}
use Rattle.rv32_step.specs.OneMemory.{Original, Pick, opening, IsRun, run}
use Rattle.one_memory.specs.ByOrder.{ends_by}
use Rattle.replay.specs.node_model.declared.NodeCounts.{NodeCounts}
use Rattle.replay.specs.rewriting_law.Bounds.{steps_of}
use Rattle.judged_files.specs.Executables.{IsProgramOf}
use Rattle.prepared_run.specs.Processors.{outcome_head}
use Rattle.prepared_run.specs.Outcomes.{outcome_tail}

-- What some interleaved run of the processors gives: the bytes printed, and how each ended: by its
-- exit; one that has none was stopped by the budget, and has made so many steps or more.
pub record IsInterleaved (original : Original) (budget fewest_steps : ℕ) (output : List ℕ)
    (ends : List End) : Type 0 where
  pub picks : List Pick
  pub allowed : IsRun original (opening original) picks
  pub output_is : output ≡ (run original (opening original) picks).output
  pub ends_are : ends ≡ ends_by budget (run original (opening original) picks) original.nodes
  pub worked : (p : ℕ) → p < original.nodes
      → ((run original (opening original) picks).processors p).exit ≡ None
      → fewest_steps ≤ steps_of p picks

-- The text tells of such a run of the program of the executable in a file, on so many processors,
-- whose shared lines have the blocks of such a layout. After the ends stand the lines of what
-- nodes counted, or none.
pub record TellsOfOriginal (file : List ℕ) (IsLaidOut : Shape → Type 0)
    (processors budget fewest_steps : ℕ) (text : List ℕ) : Type 0 where
  pub elf : Elf
  pub executable : IsProgramOf file elf
  pub layout : Shape
  pub lines : AreSharedRanges elf layout.shared
  pub laid_out : IsLaidOut layout
  pub output : List ℕ
  pub ends : List End
  pub counts : List NodeCounts
  pub interleaved : IsInterleaved
      (record { program = program_of elf; layout = layout; nodes = processors }) budget fewest_steps
      output ends
  pub text_is : text ≡ outcome_head (length output) ++ (output ++ outcome_tail ends counts)

-- the layout, of so many nodes, has the ranges that the lines of a text name; without a text it has
-- none, and each line is a block
abbrev pub IsLaidOutBy : Option (List ℕ) → ℕ → Shape → Type 0
IsLaidOutBy None nodes layout = (layout.nodes ≡ nodes) × (layout.named ≡ [])
IsLaidOutBy (Some text) nodes layout =
    (layout.nodes ≡ nodes) × Name (text_lines text) layout.named × IsValid layout

-- How many steps of the original a processor without an exit has made at the least, after so many
-- words of rewritten code: one for each 40 words, where each node has one processor. Of nodes of
-- several, nothing is said.
abbrev pub least_steps : (lanes : Option ℕ) → (words : ℕ) → ℕ
least_steps lanes words = option_map_or (λ m. 0) lanes (words / 40)
