use Rattle.std.proofs.Common.{◌≡◌, ◌^◌, ◌<◌, ◌/◌, map, arith, refl, subst}
use Rattle.std.specs.Prelude.{is_some, true}
use Rattle.byte_range.specs.Range.{Range, memory_of}
use Rattle.byte_range.specs.Lines.{LineBytes, place_of, lines_memory}
use Rattle.byte_range.specs.Pieces.{lines_of}
use Rattle.byte_range.proofs.LineLemmas.{flat_range, line_small}
use Rattle.byte_range.proofs.lines.LineMemory.law.Goals as goal

pub returns : goal.returns
returns c = record {
  small = λ outside a.
      let i = c.self.invariant in
      let flat : Range = c.self.inside.flat in
      let is_flat : flat ≡ flat_range flat.bytes = λ t. record { base = i.flat_base t; bytes = flat.bytes } in
      subst (λ (m : LineBytes). is_some (place_of m.ranges (a / 64)) ≡ true → lines_memory m outside a < 2 ^ 8) c.self.view_is
      (λ there. line_small (record { ranges = map lines_of c.self.inside.pieces.items; bytes = flat.bytes }) outside a
      (λ k. subst (λ (r : Range). memory_of r (λ _. 0) k < 2 ^ 8) is_flat (c.law.ensures.small (λ _. 0) k (omega arith)))
      (place_of (map lines_of c.self.inside.pieces.items) (a / 64)) there refl);
}
