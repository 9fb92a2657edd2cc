use Rattle.std.proofs.Common.{◌≡◌, ℕ, ◌<◌, ◌≤◌, Some, map, slice_get}
use Rattle.elf32_read.specs.Elf.{Section}
use Rattle.elf32_read.specs.Segments.{section_of}
use Rattle.rewrite_verify.specs.Sections.{IsNamedAs}
use Rattle.rewrite_verify.proofs.sections.named_from.Given as goal

-- none of the sections so far has the name and the type
abbrev pub invariant-loop-k : goal.invariant-loop-k
invariant-loop-k l = (j : ℕ) (s : Section) → l.from ≤ j → j < l.k
    → slice_get (map section_of l.sections) j ≡ Some s → ¬ IsNamedAs (section_of l.wanted) s
