use Rattle.std.proofs.Common.{◌≡◌, ℕ, Some}
use Rattle.std.specs.Prelude.{slice_get}
use Rattle.elf32_read.specs.Elf.{Elf}
use Rattle.one_memory.specs.declared.code.CodeRegion.{CodeRegion}
use Rattle.one_memory.specs.Machine.{IsCodeOf, IsStretchOf}
use Rattle.one_memory.proofs.code.CodeTable.copy.Given as goal

abbrev pub invariant-loop-stretch : goal.invariant-loop-stretch
invariant-loop-stretch l =
    (e : Elf) → IsCodeOf e l.self → (j : ℕ) (s : CodeRegion) → slice_get l.far.items j ≡ Some s → IsStretchOf e s
