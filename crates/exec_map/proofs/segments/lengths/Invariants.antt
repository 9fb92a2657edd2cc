use Rattle.std.proofs.Common.{◌≡◌, map, take}
use Rattle.exec_map.specs.Index.{lines_of_stretch}
use Rattle.exec_map.proofs.segments.lengths.Given as goal

abbrev pub invariant-loop-r : goal.invariant-loop-r
invariant-loop-r l = l.ranges.items ≡ map lines_of_stretch (take l.r-index l.stretches)
