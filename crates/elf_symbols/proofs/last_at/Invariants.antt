use Rattle.std.proofs.Common.{map, take}
use Rattle.elf_symbols.specs.Given.{IsFound, symbol_of}
use Rattle.elf_symbols.proofs.last_at.Given as goal

-- the function at the address, of those so far
abbrev pub invariant-loop-symbol : goal.invariant-loop-symbol
invariant-loop-symbol l = IsFound (map symbol_of (take l.symbol-index l.functions)) l.address l.found
