use Rattle.byte_range.specs.Window.{window_memory}
use Rattle.one_memory.proofs.CopyLemmas.{AreOwn}
use Rattle.one_memory.proofs.copying.copy_of_window.Given as goal

abbrev pub invariant-loop-address : goal.invariant-loop-address
invariant-loop-address l = AreOwn (window_memory l.from) (window_memory l.window) l.address
