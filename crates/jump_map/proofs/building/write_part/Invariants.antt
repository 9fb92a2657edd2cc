use Rattle.std.proofs.Common.{◌≡◌, ◌+◌, ◌++◌, length, map, drop}
use Rattle.templates.specs.Expansion.{reads}
use Rattle.jump_map.specs.Image.{read_cell, address_in, address_of_word}
use Rattle.jump_map.specs.Heads.{head_address}
use Rattle.jump_map.specs.Laying.{laid_words}
use Rattle.jump_map.proofs.building.write_part.Given as goal

abbrev pub invariant-loop-item : goal.invariant-loop-item
invariant-loop-item l = record {
  so_far : map read_cell l.cells ++ laid_words (head_address l.heads) (address_of_word (length l.cells)) (address_in l.entry l.part) l.part l.word (map reads (drop l.item-index l.items))
      ≡ map read_cell l.fn.cells ++ laid_words (head_address l.heads) (address_of_word (length l.fn.cells)) (address_in l.entry l.part) l.part 0 (map reads l.items);
  count : length l.cells ≡ length l.fn.cells + l.item-index;
  number : l.word ≡ l.item-index;
}
