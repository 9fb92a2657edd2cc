use Rattle.std.proofs.Common.{◌+◌, ◌<◌, List, map, sym, ap, ◌∙◌, subst}
use Rattle.std.specs.Prelude.{AllPairs}
use Rattle.elf32_read.specs.Segments.{segment_of}
use Rattle.block_layout.specs.Layout.{AreRanges, is_in}
use Rattle.block_layout.specs.declared.ranges.Lines.{Lines}
use Rattle.exec_map.specs.Index.{AreNumberRanges, have, lines_of_kind, lines_of_stretch}
use Rattle.exec_map.proofs.Filtering.{lines_stretches, lines_have, firsts_ascend, filter_map-map}
use Rattle.exec_map.proofs.Sharing.{in_lines, apart_lines, ranges_lines}
use Rattle.exec_map.proofs.segments.ranges_of.Goals as goal

pub merged-requires-clause-some : goal.merged-requires-clause-some
merged-requires-clause-some c =
    let is = c.deref.ensures.value ∙ c.in_ok-of_kind.ensures ∙ filter_map-map (lines_of_kind c.args.writable) segment_of c.args.sorted.now in
    let h = subst AreNumberRanges (sym is) (lines_stretches c.args.writable (map segment_of c.args.sorted.now) c.requires) in
    h.some

pub merged-requires-clause-sorted : goal.merged-requires-clause-sorted
merged-requires-clause-sorted c =
    let is = c.deref.ensures.value ∙ c.in_ok-of_kind.ensures ∙ filter_map-map (lines_of_kind c.args.writable) segment_of c.args.sorted.now in
    let h = subst AreNumberRanges (sym is) (lines_stretches c.args.writable (map segment_of c.args.sorted.now) c.requires) in
    firsts_ascend _ h

pub returns-clause-ranges : goal.returns-clause-ranges
returns-clause-ranges c =
    let xs = map segment_of c.args.sorted.now in
    let is = c.deref.ensures.value ∙ c.in_ok-of_kind.ensures ∙ filter_map-map (lines_of_kind c.args.writable) segment_of c.args.sorted.now in
    subst AreRanges (sym (c.in_ok-ranges.ensures ∙ ap (map lines_of_stretch) c.deref-2.ensures.value))
    (ranges_lines c.args.writable xs c.in_ok-merged.merged.items c.requires c.in_ok-merged.ensures.stretches (λ n. c.in_ok-merged.ensures.numbers n ∙ ap (λ rs. have rs n) is))

pub returns-clause-lines : goal.returns-clause-lines
returns-clause-lines c = λ line.
    let xs = map segment_of c.args.sorted.now in
    let is = c.deref.ensures.value ∙ c.in_ok-of_kind.ensures ∙ filter_map-map (lines_of_kind c.args.writable) segment_of c.args.sorted.now in
    ap (λ rs. is_in rs line) (c.in_ok-ranges.ensures ∙ ap (map lines_of_stretch) c.deref-2.ensures.value)
    ∙ in_lines line c.in_ok-merged.merged.items c.in_ok-merged.ensures.stretches.some
    ∙ c.in_ok-merged.ensures.numbers line
    ∙ ap (λ rs. have rs line) is
    ∙ lines_have c.args.writable xs line c.requires.memory

pub returns-clause-apart : goal.returns-clause-apart
returns-clause-apart c =
    let P : List Lines → Type 0 = AllPairs (λ r q. r.first + r.lines < q.first) in
    subst P (sym (c.in_ok-ranges.ensures ∙ ap (map lines_of_stretch) c.deref-2.ensures.value))
    (apart_lines c.in_ok-merged.merged.items c.in_ok-merged.ensures.stretches.some c.in_ok-merged.ensures.apart)
