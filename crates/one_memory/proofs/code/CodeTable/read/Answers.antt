use Rattle.std.proofs.Common.{◌≡◌, ℕ, List, Some, subst, sym}
use Rattle.std.specs.Prelude.{slice_get}
use Rattle.one_memory.specs.declared.code.CodeRegion.{CodeRegion}
use Rattle.one_memory.specs.Machine.{IsStretchOf}
use Rattle.one_memory.proofs.CodeLemmas.{each_push, next_word, from_start}
use Rattle.one_memory.proofs.code.CodeTable.read.Goals as goal

pub loop-next-preserved : goal.loop-next-preserved
loop-next-preserved c =
    let e = c.args.program.now in
    let next = c.next_code-next-in-Some in
    record {
      far = subst (λ (ss : List CodeRegion). (j : ℕ) (s : CodeRegion) → slice_get ss j ≡ Some s → IsStretchOf e s) (sym c.in_ok-push.ensures.items)
          (each_push (λ j s. IsStretchOf e s) c.loop-next.far.items c.in_ok-stretch.stretch c.loop-next.invariant.far c.in_ok-stretch.ensures.stretch);
      next = from_start _ next.result (next_word e _ next.result next.ensures.some next.ensures.low);
    }
