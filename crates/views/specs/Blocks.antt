-- What each block cost in a recorded run, as a text.
use Rattle.std.specs.Prelude.{ℕ, List}
use Rattle.block_layout.specs.Layout.{Shape}
use Rattle.elf32_read.specs.Elf.{Elf}
use Rattle.elf_symbols.specs.Symbols.{Symbol, functions_of}
use Rattle.templates.specs.declared.plans.PlanEntry.{PlanEntry}
use Rattle.node_model.specs.Node.{Work}
use Rattle.run_record.specs.declared.Record.{Record}
use Rattle.run_trace.specs.Traced.{Traced}
use Rattle.run_trace.specs.Trace.{IsTraceOf}
use Rattle.run_trace.specs.Sums.{counts_by_node}
use Rattle.block_view.specs.Text.{IsBlocksText}
use Rattle.judged_files.specs.Inputs.{Inputs}
use Rattle.prepared_run.specs.Replays.{IsWorkOf}
use Rattle.prepared_run.specs.Text.{node_lines}

-- the text of the costs of a trace: what each node counts, in the lines that an outcome has of it,
-- and after them the lines of the blocks, where these functions name the code
abbrev pub IsCostsText : (symbols : List Symbol) → Shape → List Traced → (text : List ℕ) → Type 0
IsCostsText symbols layout trace text =
    IsBlocksText layout symbols trace (node_lines 0 (counts_by_node layout.nodes trace)) text

-- what each block cost in the run that a record asks for and tells of whole
pub record AreCostsOfRun (inputs : Inputs) (text : List ℕ) : Type 0 where
  pub kept : Record
  pub elf : Elf
  pub plan : List PlanEntry
  pub work : Work
  pub asked : IsWorkOf inputs kept elf plan work
  pub trace : List Traced
  pub is_trace : IsTraceOf work plan kept trace
  pub text_is : IsCostsText (functions_of elf) work.layout trace text
