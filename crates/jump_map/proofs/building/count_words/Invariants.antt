use Rattle.std.proofs.Common.{◌≡◌, ◌+◌, ◌*◌, ◌≤◌, length, drop}
use Rattle.jump_map.specs.Image.{plan_items}
use Rattle.jump_map.specs.Heads.{program_with}
use Rattle.jump_map.proofs.building.count_words.Given as goal

abbrev pub invariant-loop-entry : goal.invariant-loop-entry
invariant-loop-entry l = record {
  so_far : l.total + length (plan_items (program_with l.code) (drop l.entry-index l.entries)) ≡ 1 + length (plan_items (program_with l.code) l.entries);
  few : l.total ≤ 1 + 56 * l.entry-index;
}
