use Rattle.std.proofs.Common.{◌≡◌, map}
use Rattle.std.specs.List.{range_with_len, flat_map}
use Rattle.elf_symbols.specs.Given.{symbol_of}
use Rattle.elf_symbols.specs.Symbols.{function_in}
use Rattle.elf_symbols.proofs.table.functions_in.Given as goal

-- the functions of the numbers so far
abbrev pub invariant-loop-index : goal.invariant-loop-index
invariant-loop-index l = map symbol_of l.all.items ≡ flat_map (function_in l.table l.names) (range_with_len 0 l.index)
