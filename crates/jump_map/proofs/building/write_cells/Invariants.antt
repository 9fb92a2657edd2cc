use Rattle.std.proofs.Common.{◌≡◌, ◌+◌, ◌++◌, map, length, drop}
use Rattle.jump_map.specs.Image.{read_cell, plan_items, image_words, words_at, address_of_word}
use Rattle.jump_map.specs.Heads.{program_with, head_address}
use Rattle.jump_map.proofs.building.write_cells.Given as goal

abbrev pub invariant-loop-entry : goal.invariant-loop-entry
invariant-loop-entry l = record {
  words : map read_cell l.cells ++ words_at (head_address l.heads) (address_of_word (length l.cells)) (plan_items (program_with l.code) (drop l.entry-index l.entries)) ≡ image_words (program_with l.code) l.entries;
  count : length l.cells + length (plan_items (program_with l.code) (drop l.entry-index l.entries)) ≡ l.heads.total;
}
