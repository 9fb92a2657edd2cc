use Rattle.std.proofs.Common.{map}
use Rattle.elf_symbols.specs.Given.{symbol_of}
use Rattle.check_costs.proofs.Ordering.{AreLast}
use Rattle.check_costs.proofs.functions.in_order.Given as goal

abbrev pub invariant-loop-later : goal.invariant-loop-later
invariant-loop-later l = AreLast (map symbol_of l.functions) l.sorted.items l.later
