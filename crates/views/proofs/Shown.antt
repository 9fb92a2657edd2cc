-- What is shown of a rewriting.
use Rattle.std.proofs.Common.{◌≡◌, ℕ, ◌+◌, ◌≤◌, List, [], ◌∷◌, length, ap, arith, refl}
use Rattle.std.proofs.lemmas.List.{length-map}
use Rattle.exec_map.specs.Contents.{program_of}
use Rattle.rv32_program.specs.Program.{Program}
use Rattle.templates.specs.declared.plans.PlanEntry.{PlanEntry}
use Rattle.templates.specs.Code.{HasCode}
use Rattle.jump_map.specs.Image.{Cell, PlacedItem, IsExpansion, IsRewriting, address_of_word, head_of, most_words, plan_items, read_cell, words_at}
use Rattle.code_view.specs.Code.{IsShown}
use Rattle.code_view.specs.declared.view.CodeView.{CodeView}
use Rattle.check_costs.proofs.Runs.{has_runs}

-- each item has one word
words_count : (head : ℕ → ℕ) (at : ℕ) (items : List PlacedItem)
    → length (words_at head at items) ≡ length items
words_count head at [] = refl
words_count head at (i ∷ is) = let more = words_count head (at + 4) is in omega arith

few_words : (p : Program) (plan : List PlanEntry) (image : List Cell) → IsExpansion p plan image
    → 1 + length (plan_items p plan) ≤ most_words
few_words p plan image h =
    let count = words_count (head_of p plan) (address_of_word 1) (plan_items p plan) in
    let same = ap length h.words in
    let cells = length-map image read_cell in
    let few = h.few in
    omega (arith, count, same, cells, few)

pub is_shown : (v : CodeView) → HasCode (program_of v.program.now) v.code.now
    → IsRewriting (program_of v.program.now) v.plan.now v.image.now → IsShown v
is_shown v code h = record {
  code = code;
  runs = has_runs (program_of v.program.now) v.code.now v.plan.now v.image.now code h;
  few = few_words (program_of v.program.now) v.plan.now v.image.now h.expansion;
}
