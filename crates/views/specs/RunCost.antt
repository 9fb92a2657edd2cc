-- What checks cost in a recorded run, as a text.
use Rattle.std.specs.Prelude.{◌≡◌, ℕ, List, ◌++◌}
use Rattle.check_costs.specs.declared.counts.WordCounts.{WordCounts}
use Rattle.check_costs.specs.declared.table.Counted.TheVariants.{Steps}
use Rattle.check_costs.specs.Text.{IsTable}
use Rattle.command_line.specs.Views.{CodeArguments, RecordedFiles}
use Rattle.elf32_read.specs.Elf.{Elf}
use Rattle.elf_symbols.specs.Symbols.{Symbol, functions_of}
use Rattle.templates.specs.declared.plans.PlanEntry.{PlanEntry}
use Rattle.node_model.specs.declared.NodeCounts.{NodeCounts}
use Rattle.node_model.specs.Node.{Work}
use Rattle.run_record.specs.declared.Record.{Record}
use Rattle.run_costs.specs.Costs.{AreCostsOf}
use Rattle.judged_files.specs.Inputs.{Inputs}
use Rattle.prepared_run.specs.Replays.{IsWorkOf}
use Rattle.prepared_run.specs.Text.{node_lines}

-- the files of a recorded run whose cost is asked for
abbrev pub run_of : CodeArguments → (record_file : List ℕ) → RecordedFiles
run_of a record_file = record {
  file = a.file;
  record_file = record_file;
  verified = a.verified;
}

-- the table of what the words of a run count, and after it what each node counts, in the lines
-- that an outcome has of it
pub record IsTextOfCosts (symbols : List Symbol) (counts : List WordCounts)
    (nodes : List NodeCounts) (text : List ℕ) : Type 0
  where
    pub table : List ℕ
    pub is_table : IsTable Steps symbols counts table
    pub text_is : text ≡ table ++ node_lines 0 nodes

-- likewise of the run that a record tells of
pub record IsTextOfTold (symbols : List Symbol) (work : Work) (plan : List PlanEntry)
    (kept : Record) (text : List ℕ) : Type 0
  where
    pub counts : List WordCounts
    pub nodes : List NodeCounts
    pub costs : AreCostsOf symbols work plan kept counts nodes
    pub text_is : IsTextOfCosts symbols counts nodes text

-- likewise of the run that a record asks for and tells of whole
pub record IsRunCostText (inputs : Inputs) (text : List ℕ) : Type 0 where
  pub kept : Record
  pub elf : Elf
  pub plan : List PlanEntry
  pub work : Work
  pub asked : IsWorkOf inputs kept elf plan work
  pub told : IsTextOfTold (functions_of elf) work plan kept text

-- this text, with any status
abbrev pub IsTextOfRunCost : Inputs → List ℕ → ℕ → Type 0
IsTextOfRunCost inputs text status = IsRunCostText inputs text
