use Rattle.std.proofs.Common.{map}
use Rattle.elf_symbols.specs.Given.{symbol_of}
use Rattle.elf_symbols.specs.Symbols.{function_in}
use Rattle.elf_symbols.proofs.Tables.{one_more}
use Rattle.elf_symbols.proofs.table.functions_in.Goals as goal

pub loop-index-preserved : goal.loop-index-preserved
loop-index-preserved c =
    one_more (function_in c.args.table.now c.args.names.now) c.loop-index.index (map symbol_of c.loop-index.all.items)
    (map symbol_of c.push_function.new.all.items) c.loop-index.invariant c.in_ok-push_function.ensures
