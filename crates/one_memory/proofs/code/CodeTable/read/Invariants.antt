use Rattle.std.proofs.Common.{◌≡◌, ℕ, Some, IfSome}
use Rattle.std.specs.Prelude.{slice_get}
use Rattle.one_memory.specs.declared.code.CodeRegion.{CodeRegion}
use Rattle.one_memory.specs.Machine.{IsStretchOf}
use Rattle.one_memory.proofs.CodeLemmas.{IsWord, bytes_left}
use Rattle.one_memory.proofs.code.CodeTable.read.Given as goal

abbrev pub invariant-loop-next : goal.invariant-loop-next
invariant-loop-next l = record {
  far : (j : ℕ) (s : CodeRegion) → slice_get l.far.items j ≡ Some s → IsStretchOf l.program s;
  next : IfSome l.next (λ a. IsWord 0 a);
}

abbrev pub decreases-loop-next : goal.decreases-loop-next
decreases-loop-next l = bytes_left l.next
