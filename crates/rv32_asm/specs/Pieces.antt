-- The executable of segments with their bytes.
use Rattle.std.specs.Prelude.{ℕ, ◌-◌, ◌≤◌, List, [], length, map, take, drop}
use Rattle.elf32_read.specs.Elf.{Elf, Segment}
use Rattle.rv32_asm.specs.declared.assembled.AssembledSegment.{AssembledSegment}

-- a segment's bytes stand among others
abbrev pub IsWithin : List ℕ → AssembledSegment → Type 0
IsWithin bytes p = (p.first ≤ p.end) × (p.end ≤ length bytes)

abbrev pub segment_of : List ℕ → AssembledSegment → Segment
segment_of bytes p = record {
  flags = p.flags;
  vaddr = p.start;
  memsz = p.size;
  bytes = take (p.end - p.first) (drop p.first bytes);
}

abbrev pub elf_of : ℕ → List ℕ → List AssembledSegment → Elf
elf_of entry bytes pieces =
    record { entry = entry; flags = 0; segments = map (segment_of bytes) pieces; sections = [] }
