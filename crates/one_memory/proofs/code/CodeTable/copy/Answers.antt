use Rattle.std.proofs.Common.{◌≡◌, ℕ, List, Some, refl, sym, subst}
use Rattle.std.proofs.lemmas.Option.{slice_get_read}
use Rattle.std.specs.Prelude.{slice_get}
use Rattle.one_memory.specs.declared.code.CodeRegion.{CodeRegion}
use Rattle.one_memory.specs.Machine.{IsStretchOf}
use Rattle.one_memory.proofs.CodeLemmas.{each_push}
use Rattle.one_memory.proofs.code.CodeTable.copy.Goals as goal

pub loop-stretch-preserved : goal.loop-stretch-preserved
loop-stretch-preserved c = λ e of.
    let at = slice_get_read _ _ c.loop-stretch.stretch-index _ refl c.loop-stretch-test.true c.stretch-item.is in
    let here = subst (λ (ss : List CodeRegion). slice_get ss c.loop-stretch.stretch-index ≡ Some c.stretch-item.result) c.deref-stretch-items.ensures.value at in
    subst (λ (ss : List CodeRegion). (j : ℕ) (s : CodeRegion) → slice_get ss j ≡ Some s → IsStretchOf e s) (sym c.in_ok-push.ensures.items)
    (each_push (λ j s. IsStretchOf e s) c.loop-stretch.far.items c.in_ok-copy.field-0 (c.loop-stretch.invariant e of)
    (c.in_ok-copy.ensures e (of.far c.loop-stretch.stretch-index c.stretch-item.result here)))

pub returns : goal.returns
returns c = λ e of. record {
  near = c.in_ok-near.ensures e of.near;
  far = c.loop-stretch.invariant e of;
}
