-- What is counted of a rewriting, as a table.
use Rattle.std.proofs.Common.{◌≡◌, List, ℕ, subst, sym, ◌∙◌}
use Rattle.std.specs.Prelude.{IfOk, Result, Ok, Err}
use Rattle.elf32_read.specs.Elf.{Elf}
use Rattle.exec_map.specs.Contents.{program_of}
use Rattle.elf_symbols.specs.Symbols.{Symbol, functions_of}
use Rattle.templates.specs.declared.code.CodeWord.{CodeWord}
use Rattle.templates.specs.declared.plans.PlanEntry.{PlanEntry}
use Rattle.templates.specs.Code.{HasCode, code_of}
use Rattle.jump_map.specs.Image.{Cell}
use Rattle.check_costs.specs.declared.counts.WordCounts.{WordCounts}
use Rattle.check_costs.specs.declared.table.Counted.TheVariants.{Instructions}
use Rattle.check_costs.specs.Counts.{AreSums, counts_of}
use Rattle.check_costs.specs.Text.{IsTable}
use Rattle.views.specs.Cost.{IsTableOf}

pub is_table_of : (elf : Elf) (plan : List PlanEntry) (image : List Cell) (words : List CodeWord)
    (symbols : List Symbol) (counts : List WordCounts) (text : List ℕ) → symbols ≡ functions_of elf
    → HasCode (program_of elf) words → counts ≡ counts_of symbols (code_of words) plan
    → AreSums words image counts → IsTable Instructions symbols counts text → IsTableOf elf plan image text
is_table_of elf plan image words symbols counts text named code is sums table = record {
  counts = counts;
  are_counts = is ∙ (λ j. counts_of (named j) (sym code j) plan);
  code = words;
  is_code = code;
  sums = sums;
  table = subst (λ s. IsTable Instructions s counts text) named table;
}

-- what follows of a result's value
pub ok_as : {T E : Type 0} (P Q : T → Type 0) (r : Result T E) → ((x : T) → P x → Q x)
    → IfOk r P → IfOk r Q
ok_as P Q (Ok x) f h = f x h
ok_as P Q (Err e) f h = tt
