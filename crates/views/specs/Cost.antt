-- What checks cost, as a text: the table of what rewritten code counts.
use Rattle.std.specs.Prelude.{◌≡◌, ℕ, List}
use Rattle.elf32_read.specs.Elf.{Elf}
use Rattle.exec_map.specs.Contents.{program_of}
use Rattle.elf_symbols.specs.Symbols.{functions_of}
use Rattle.templates.specs.declared.code.CodeWord.{CodeWord}
use Rattle.templates.specs.declared.plans.PlanEntry.{PlanEntry}
use Rattle.templates.specs.Code.{HasCode}
use Rattle.jump_map.specs.Image.{Cell}
use Rattle.check_costs.specs.declared.counts.WordCounts.{WordCounts}
use Rattle.check_costs.specs.declared.table.Counted.TheVariants.{Instructions}
use Rattle.check_costs.specs.Counts.{AreSums, counts_of}
use Rattle.check_costs.specs.Text.{IsTable}
use Rattle.judged_files.specs.Inputs.{Inputs}
use Rattle.judged_files.specs.Code.{IsRewritingOf, choice_of}

-- the text is the table of what this rewritten code counts, function by function: in all, each of
-- its words and each code word of the original
pub record IsTableOf (elf : Elf) (plan : List PlanEntry) (image : List Cell) (text : List ℕ)
    : Type 0
  where
    pub counts : List WordCounts
    pub are_counts : counts ≡ counts_of (functions_of elf) (program_of elf).code plan
    pub code : List CodeWord
    pub is_code : HasCode (program_of elf) code
    pub sums : AreSums code image counts
    pub table : IsTable Instructions (functions_of elf) counts text

-- likewise of the rewritten code of an executable: that of the verified file, by the plan that the
-- file says, where there is one; else that by the program's plan, with batches or without
pub record IsCostText (inputs : Inputs) (text : List ℕ) : Type 0 where
  pub elf : Elf
  pub plan : List PlanEntry
  pub image : List Cell
  pub rewritten :
      IsRewritingOf (choice_of inputs.batches inputs.verified) inputs.executable elf plan image
  pub table : IsTableOf elf plan image text

-- this text, with any status
abbrev pub IsTextOfCost : Inputs → List ℕ → ℕ → Type 0
IsTextOfCost inputs text status = IsCostText inputs text
