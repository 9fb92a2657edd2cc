use Rattle.std.proofs.Common.{ℕ, ◌+◌, ◌/◌, ◌<◌, ◌≤◌, map, get_or}
use Rattle.elf32_read.specs.Elf.{Segment}
use Rattle.elf32_read.specs.Segments.{segment_of}
use Rattle.exec_map.specs.Index.{end_line}
use Rattle.exec_map.proofs.segments.are_apart.Given as goal

abbrev pub invariant-loop-place : goal.invariant-loop-place
invariant-loop-place l = (k : ℕ) (d : Segment) → k + 1 < l.place → end_line (get_or (map segment_of l.sorted) k d) ≤ (get_or (map segment_of l.sorted) (k + 1) d).vaddr / 64
