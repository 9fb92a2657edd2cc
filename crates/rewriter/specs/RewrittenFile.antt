-- The file of a rewritten program: the original's segments, none of which can be executed; the
-- rewritten code; and the plan and the map of addresses, each in a section.
use Rattle.std.specs.Prelude.{◌≡◌, ◌≢◌, slice_get, ℕ, ◌+◌, ◌-◌, ◌%◌, Bool, if◌then◌else◌, List, [], ◌∷◌, ◌++◌, map, length, codes, unwrap_or}
use Rattle.std.specs.List.{flat_map}
use Rattle.std.specs.Int.{bytes_low_first}
use Rattle.elf32_read.specs.Elf.{Elf, Segment, Section}
use Rattle.templates.specs.declared.plans.Scratch.{Scratch}
use Rattle.templates.specs.declared.plans.Scratches.{Scratches}
use Rattle.templates.specs.declared.plans.PlanEntry.{PlanEntry}
use Rattle.templates.specs.Numbers.{number_of}
use Rattle.exec_map.specs.Contents.{program_of}
use Rattle.jump_map.specs.Image.{Cell, image_base, IsRewriting}
use Rattle.jump_map.specs.Maps.{new_of}
use Rattle.templates.specs.WholePlan.{IsPlanOf}
use Rattle.rewriter.specs.declared.file.FilePart.{FilePart}
use Rattle.rewriter.specs.declared.file.FilePart.TheVariants.{Plan, Map, Code}

-- a word, little-endian
abbrev pub word_bytes : ℕ → List ℕ
word_bytes word = bytes_low_first 0 4 word

-- a scratch register: its number, and 0x80 where it is spilled
abbrev pub scratch_byte : Scratch → ℕ
scratch_byte x = x.register + (if x.spilled then 0x80 else 0)

abbrev pub scratch_bytes : Scratches → List ℕ
scratch_bytes x = scratch_byte x.s ∷ scratch_byte x.t ∷ scratch_byte x.u ∷ []

-- the template's number, and 0x80 where a poll stands first
abbrev pub template_byte : PlanEntry → ℕ
template_byte e = number_of e.template + (if e.polls then 0x80 else 0)

-- what the plan says of a place
abbrev pub entry_bytes : PlanEntry → List ℕ
entry_bytes e = template_byte e ∷ (scratch_bytes e.single ++ (e.run ∷ scratch_bytes e.batch))

abbrev pub plan_bytes : List PlanEntry → List ℕ
plan_bytes plan = flat_map entry_bytes plan

-- where an address stands in rewritten code; 0 where it is no place
abbrev pub new_address : List Cell → ℕ → ℕ
new_address image a = unwrap_or (new_of image a) 0

-- the original address of a place, and the new one
abbrev pub mapping_bytes : List Cell → PlanEntry → List ℕ
mapping_bytes image e = word_bytes e.address ++ word_bytes (new_address image e.address)

abbrev pub map_bytes : List Cell → List PlanEntry → List ℕ
map_bytes image plan = flat_map (mapping_bytes image) plan

-- the rewritten words
abbrev pub code_bytes : List Cell → List ℕ
code_bytes image = flat_map (λ cell. word_bytes cell.word) image

-- a segment of the original, whose bytes can't be executed any more: PF_X is bit 0 of the flags
abbrev pub without_execution : Segment → Segment
without_execution s = record s { flags = s.flags - s.flags % 2 }

-- the segment of the rewritten code: readable and executable, 4 and 1
abbrev pub segment_with : List ℕ → Segment
segment_with bytes = record {
  flags = 5;
  vaddr = image_base;
  memsz = length bytes;
  bytes = bytes;
}

abbrev pub section_with : List ℕ → ℕ → List ℕ → Section
section_with name kind bytes = record {
  name = name;
  kind = kind;
  flags = 0;
  addr = 0;
  size = length bytes;
  bytes = bytes;
}

-- the section of a plan, and that of a map of addresses
abbrev pub plan_section : List ℕ → Section
plan_section bytes = section_with (codes ".shasta.plan") 0x80000001 bytes

abbrev pub map_section : List ℕ → Section
map_section bytes = section_with (codes ".shasta.map") 0x80000002 bytes

-- the fields of the file, by the bytes of the plan, the map and the code
abbrev pub elf_of_parts : Elf → ℕ → List ℕ → List ℕ → List ℕ → Elf
elf_of_parts original entry plan addresses code = record {
  entry = entry;
  flags = original.flags;
  segments = map without_execution original.segments ++ (segment_with code ∷ []);
  sections = plan_section plan ∷ map_section addresses ∷ [];
}

abbrev pub rewritten_elf : Elf → List Cell → List PlanEntry → Elf
rewritten_elf original image plan =
    elf_of_parts original (new_address image original.entry) (plan_bytes plan)
    (map_bytes image plan) (code_bytes image)

-- the first part in which an executable differs from the one that is wanted: the first section, the
-- second one, and all else
abbrev pub IsFirstDifference : Elf → Elf → FilePart → Type 0
IsFirstDifference wanted e Plan = slice_get e.sections 0 ≢ slice_get wanted.sections 0
IsFirstDifference wanted e Map =
    (slice_get e.sections 0 ≡ slice_get wanted.sections 0)
    × (slice_get e.sections 1 ≢ slice_get wanted.sections 1)
IsFirstDifference wanted e Code =
    (slice_get e.sections 0 ≡ slice_get wanted.sections 0)
    × (slice_get e.sections 1 ≡ slice_get wanted.sections 1) × (e ≢ wanted)

-- an executable isn't that of the rewriting of an original, with batches or without, and this is
-- the first part that differs
pub record IsOtherCode (batches : Bool) (original e : Elf) (part : FilePart) : Type 0 where
  pub plan : List PlanEntry
  pub image : List Cell
  pub the_plan : IsPlanOf batches (program_of original).code plan
  pub rewriting : IsRewriting (program_of original) plan image
  pub differs : IsFirstDifference (rewritten_elf original image plan) e part
