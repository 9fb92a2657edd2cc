use Rattle.std.proofs.Common.{◌≡◌, ◌<◌, ℕ, false, get_or}
use Rattle.elf32_read.specs.declared.Segment as declared
use Rattle.elf32_read.specs.Segments.{segment_of}
use Rattle.exec_map.specs.Refusals.{is_writable_code}
use Rattle.exec_map.proofs.rules.first_writable_code.Given as goal

abbrev pub invariant-loop-place : goal.invariant-loop-place
invariant-loop-place l = (k : ℕ) (d : declared.Segment) → k < l.place → is_writable_code (segment_of (get_or l.all k d)) ≡ false
