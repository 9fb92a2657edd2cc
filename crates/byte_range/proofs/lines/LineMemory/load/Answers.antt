use Rattle.std.proofs.Common.{◌≡◌, ◌+◌, ◌*◌, ◌/◌, ◌%◌, map, sym, ap, ◌∙◌, arith}
use Rattle.byte_range.specs.Range.{Range, memory_of}
use Rattle.byte_range.specs.Memory.{raw}
use Rattle.byte_range.specs.Lines.{LineBytes, place_of}
use Rattle.byte_range.specs.Pieces.{lines_of}
use Rattle.byte_range.proofs.LineLemmas.{map_some, place_small, raw_in_lines, ends_in_line, flat_range}
use Rattle.byte_range.proofs.lines.LineMemory.load.Goals as goal

pub load-requires-clause-ends : goal.load-requires-clause-ends
load-requires-clause-ends c =
    let i = c.self.invariant in
    let ranges = map lines_of c.self.inside.pieces.items in
    let at = rw (← c.self.view_is) at c.in_ok-offset.ensures in
    let m = map_some (place_of ranges (c.args.address / 64)) (λ k. 64 * k + c.args.address % 64) c.in_ok-offset.offset (sym at) in
    let small = place_small ranges (c.args.address / 64) m.0 m.1 in
    let ends = ends_in_line c.args.width c.args.address c.requires in
    omega (arith, m.2, i.flat_len, i.flat_base)

pub returns-clause-value : goal.returns-clause-value
returns-clause-value c outside n is =
    let i = c.self.invariant in
    let ranges = map lines_of c.self.inside.pieces.items in
    let at = rw (← c.self.view_is) at c.in_ok-offset.ensures in
    let m = map_some (place_of ranges (c.args.address / 64)) (λ k. 64 * k + c.args.address % 64) c.in_ok-offset.offset (sym at) in
    let bytes : LineBytes = record { ranges = ranges; bytes = c.self.inside.flat.bytes } in
    let flat : Range = c.self.inside.flat in
    let is_flat : flat ≡ flat_range flat.bytes = λ t. record { base = i.flat_base t; bytes = flat.bytes } in
    let same : n ≡ c.load.result = cc in
    rw (← c.self.view_is)
    (same
    ∙ c.load.ensures.value (λ _. 0)
    ∙ ap (λ (r : Range). raw c.args.width (memory_of r (λ _. 0)) c.in_ok-offset.offset) is_flat
    ∙ ap (raw c.args.width (memory_of (flat_range flat.bytes) (λ _. 0))) m.2
    ∙ raw_in_lines c.args.width bytes outside c.args.address m.0 c.requires m.1)
