use Rattle.std.proofs.Common.{◌≡◌, ◌<◌, ℕ, false, map, get_or}
use Rattle.elf32_read.specs.declared.Section as declared
use Rattle.elf32_read.specs.Segments.{segment_of, section_of}
use Rattle.exec_map.specs.Refusals.{is_broken_code}
use Rattle.exec_map.proofs.rules.first_broken_section.Given as goal

abbrev pub invariant-loop-place : goal.invariant-loop-place
invariant-loop-place l = (k : ℕ) (d : declared.Section) → k < l.place → is_broken_code (map segment_of l.sorted) (section_of (get_or l.sections k d)) ≡ false
