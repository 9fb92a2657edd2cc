use Rattle.std.proofs.Common.{◌^◌, ◌<◌, subst, ℕ, List}
use Rattle.std.specs.Prelude.{slice_index}
use Rattle.byte_range.specs.Range.{Range, memory_of}
use Rattle.byte_range.proofs.RangeLemmas.{memory_of-small}
use Rattle.byte_range.proofs.range.ByteRange.law.Goals as goal

pub returns : goal.returns
returns c = record {
  small = λ outside a low.
      let inside : Range = record { base = c.self.inside.base; bytes = c.self.inside.bytes.items } in
      let each : (k : ℕ) → slice_index c.self.inside.bytes.items k < 2 ^ 8 =
      subst (λ (xs : List ℕ). (k : ℕ) → slice_index xs k < 2 ^ 8) c.deref.ensures.value c.bytes_law.ensures.small in
      subst (λ (r : Range). memory_of r outside a < 2 ^ 8) c.self.view_is (memory_of-small inside outside a each low);
}
