-- Helps the code alone: how far the rules on a file have been judged, and what reading rests on.
use Rattle.std.specs.Prelude.{◌≡◌, ℕ, ◌+◌, ◌*◌, ◌<◌, ◌≤◌, Bool, false, List, length}
use Rattle.elf32_read.specs.declared.headers.FileHeader.{FileHeader}
use Rattle.elf32_read.specs.declared.headers.ProgramHeader.{ProgramHeader}
use Rattle.elf32_read.specs.declared.refused.FileRule.{FileRule}
use Rattle.elf32_read.specs.Fields.{file_header, program_header}
use Rattle.elf32_read.specs.Refusals.{Fits, number_of}

-- no rule of a lower number fits
abbrev pub NoRuleBelow : List ℕ → ℕ → Type 0
NoRuleBelow file number = (r : FileRule) → Fits file r → number ≤ number_of r

-- the file has its header and both tables
pub record HasTables (file : List ℕ) (header : FileHeader) : Type 0 where
  pub is : header ≡ file_header file
  pub programs : header.e_phoff + 32 * header.e_phnum ≤ length file
  pub sections : 0 < header.e_shnum → header.e_shoff + 40 * header.e_shnum ≤ length file

-- no program header passes the test
abbrev pub NoHeader : List ℕ → (ProgramHeader → Bool) → Type 0
NoHeader file test = (k : ℕ) → k < (file_header file).e_phnum → test (program_header file k) ≡ false
