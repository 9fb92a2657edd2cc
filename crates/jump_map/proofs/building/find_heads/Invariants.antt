use Rattle.std.proofs.Common.{◌≡◌, ◌+◌, ◌++◌, length, drop}
use Rattle.templates.specs.Plans.{AscendsFrom}
use Rattle.jump_map.specs.Image.{plan_items}
use Rattle.jump_map.specs.Heads.{program_with, starts_from, end_of}
use Rattle.jump_map.proofs.building.find_heads.Given as goal

abbrev pub invariant-loop-entry : goal.invariant-loop-entry
invariant-loop-entry l = record {
  starts : l.index ++ starts_from (program_with l.code) l.next (drop l.entry-index l.entries) ≡ starts_from (program_with l.code) 1 l.entries;
  count : l.next + length (plan_items (program_with l.code) (drop l.entry-index l.entries)) ≡ l.total;
  ascends : AscendsFrom (end_of l.index) (drop l.entry-index l.entries);
}
