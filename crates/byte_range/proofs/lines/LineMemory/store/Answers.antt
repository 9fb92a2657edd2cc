use Rattle.std.proofs.Common.{◌≡◌, ℕ, ◌+◌, ◌*◌, ◌/◌, ◌%◌, map, sym, ap, ◌∙◌, arith}
use Rattle.byte_range.specs.Range.{Range, memory_of}
use Rattle.byte_range.specs.Memory.{stored}
use Rattle.byte_range.specs.Lines.{LineBytes, place_of}
use Rattle.byte_range.specs.Pieces.{lines_of}
use Rattle.byte_range.proofs.LineLemmas.{map_some, place_small, stored_in_lines, ends_in_line, flat_range}
use Rattle.byte_range.proofs.lines.LineMemory.store.Goals as goal

pub store-requires-clause-ends : goal.store-requires-clause-ends
store-requires-clause-ends c =
    let i = c.self.invariant in
    let ranges = map lines_of c.self.inside.pieces.items in
    let at = rw (← c.self.view_is) at c.in-Some.ensures in
    let m = map_some (place_of ranges (c.args.address / 64)) (λ k. 64 * k + c.args.address % 64) c.in-Some.offset (sym at) in
    let small = place_small ranges (c.args.address / 64) m.0 m.1 in
    let ends = ends_in_line c.args.width c.args.address c.requires in
    omega (arith, m.2, i.flat_len, i.flat_base)

pub returns-in-Some-clause-bytes : goal.returns-in-Some-clause-bytes
returns-in-Some-clause-bytes c outside =
    let i = c.self.invariant in
    let ranges = map lines_of c.self.inside.pieces.items in
    let at = rw (← c.self.view_is) at c.in-Some.ensures in
    let m = map_some (place_of ranges (c.args.address / 64)) (λ k. 64 * k + c.args.address % 64) c.in-Some.offset (sym at) in
    let bytes : LineBytes = record { ranges = ranges; bytes = c.self.inside.flat.bytes } in
    let old : Range = c.self.inside.flat in
    let new : Range = c.store.new.self in
    let old_flat : old ≡ flat_range old.bytes = λ t. record { base = i.flat_base t; bytes = old.bytes } in
    let new_base : new.base ≡ 0 = c.store.ensures.base ∙ i.flat_base in
    let new_flat : new ≡ flat_range new.bytes = λ t. record { base = new_base t; bytes = new.bytes } in
    let flat : memory_of (flat_range new.bytes) (λ _. 0) ≡ stored c.args.width (memory_of (flat_range old.bytes) (λ _. 0)) (64 * m.0 + c.args.address % 64) c.args.value =
    ap (λ (r : Range). memory_of r (λ _. 0)) (sym new_flat)
    ∙ c.store.ensures.bytes (λ _. 0)
    ∙ ap (λ (r : Range). stored c.args.width (memory_of r (λ _. 0)) c.in-Some.offset c.args.value) old_flat
    ∙ ap (λ (o : ℕ). stored c.args.width (memory_of (flat_range old.bytes) (λ _. 0)) o c.args.value) m.2 in
    rw (← c.self.view_is, m.1) (stored_in_lines c.args.width bytes outside new.bytes c.args.address c.args.value m.0 c.requires m.1 flat)
