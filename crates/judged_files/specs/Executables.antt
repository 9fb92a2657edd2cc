-- The executable in a file, and how a file is refused.
use Rattle.std.specs.Prelude.{◌≡◌, ℕ, ◌⊎◌, Bool, List}
use Rattle.elf32_read.specs.Elf.{Elf}
use Rattle.elf32_read.specs.Reading.{elf_of}
use Rattle.elf32_read.specs.Refusals.{IsReadable}
use Rattle.elf32_read.specs.Refusals as files
use Rattle.elf32_read.specs.declared.refused.FileRule.{FileRule}
use Rattle.exec_map.specs.Contents.{program_of}
use Rattle.exec_map.specs.Refusals.{IsAcceptable, IsRefusedBy}
use Rattle.exec_map.specs.declared.refused.ProgramRule.{ProgramRule}
use Rattle.rewrite_verify.specs.rewriter.TooLarge.{IsTooLarge}
use Rattle.judged_files.specs.declared.refusal.Subject.{Subject}
use Rattle.judged_files.specs.declared.refusal.Subject.TheVariants.{Executable}
use Rattle.judged_files.specs.Text.{file_line, program_line, too_many_words}

-- the file is read as this executable
abbrev pub ReadsAs : List ℕ → Elf → Type 0
ReadsAs file elf = IsReadable file × (elf ≡ elf_of file)

-- the file is read as no executable, and this line says why
abbrev pub IsUnread : Subject → List ℕ → List ℕ → Type 0
IsUnread subject file line =
    (rule : FileRule) × files.IsRefusedBy file rule × (line ≡ file_line subject rule)

-- the file is read as this executable, and the executable is accepted
pub record IsProgramOf (file : List ℕ) (elf : Elf) : Type 0 where
  pub reads : ReadsAs file elf
  pub accepted : IsAcceptable elf

-- the executable isn't accepted, and this line says why
abbrev pub IsRejection : Elf → List ℕ → Type 0
IsRejection elf line =
    (rule : ProgramRule) × IsRefusedBy elf rule × (line ≡ program_line rule)

-- the file is read as no executable, or its executable isn't accepted, and this line says why
abbrev pub IsUnaccepted : List ℕ → List ℕ → Type 0
IsUnaccepted file line =
    IsUnread Executable file line ⊎ ((elf : Elf) × ReadsAs file elf × IsRejection elf line)

-- the rewritten code of the executable, with batches or without, is too large, and this line says
-- so
abbrev pub HasLongCode : Bool → Elf → List ℕ → Type 0
HasLongCode batches elf line =
    (words : ℕ) × IsTooLarge batches (program_of elf) words × (line ≡ too_many_words words)
