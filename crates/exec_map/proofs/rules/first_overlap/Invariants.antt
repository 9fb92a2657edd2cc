use Rattle.std.proofs.Common.{◌≤◌, ℕ, map}
use Rattle.elf32_read.specs.Segments.{segment_of}
use Rattle.exec_map.specs.Refusals.{AreOverlapping}
use Rattle.exec_map.proofs.rules.first_overlap.Given as goal

abbrev pub invariant-loop-first : goal.invariant-loop-first
invariant-loop-first l = (k m : ℕ) → AreOverlapping (map segment_of l.all) k m → l.first ≤ k

abbrev pub invariant-loop-second : goal.invariant-loop-second
invariant-loop-second l = (m : ℕ) → AreOverlapping (map segment_of l.all) l.first m → l.second ≤ m
