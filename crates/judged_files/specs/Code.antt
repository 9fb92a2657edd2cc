-- The rewritten code of an executable, by the program's plan or by that of a verified file, and how
-- a file of code, or a verified one, is refused.
use Rattle.std.specs.Prelude.{◌≡◌, ◌≢◌, ℕ, ◌⊎◌, Bool, List, Option, None, Some}
use Rattle.elf32_read.specs.Elf.{Elf}
use Rattle.exec_map.specs.Contents.{program_of}
use Rattle.templates.specs.declared.plans.PlanEntry.{PlanEntry}
use Rattle.templates.specs.WholePlan.{IsPlanOf}
use Rattle.rewrite_verify.specs.jump_map.Image.{Cell, IsRewriting}
use Rattle.rewrite_verify.specs.rewriter.declared.file.FilePart.{FilePart}
use Rattle.rewrite_verify.specs.rewriter.RewrittenFile.{rewritten_elf, IsFirstDifference}
use Rattle.rewrite_verify.specs.Refusals.{Fits}
use Rattle.rewrite_verify.specs.declared.refused.VerifyRefused.{VerifyRefused}
use Rattle.rewrite_verify.specs.declared.refused.VerifyRefused.TheVariants.{OutOfMemory}
use Rattle.judged_files.specs.declared.refusal.Subject.TheVariants.{Code}
use Rattle.judged_files.specs.Executables.{ReadsAs, IsUnread, IsProgramOf, IsUnaccepted, HasLongCode}
use Rattle.judged_files.specs.Inputs.{Inputs}
use Rattle.judged_files.specs.Text.{code_line, verify_line}

-- which rewriting of a program is run: that by the program's plan, with batches or without; or that
-- of a file, by the plan that the file says
pub data Choice : Type 0 where
  Planned : (batches : Bool) → Choice
  Verified : (file : List ℕ) → Choice

-- a verified file, where there is one, is chosen
abbrev pub choice_of : (batches : Bool) (verified : Option (List ℕ)) → Choice
choice_of batches None = Planned batches
choice_of batches (Some file) = Verified file

-- the plan, and the image by it, are chosen of those of the executable's program
abbrev pub IsChosen : Choice → Elf → List PlanEntry → List Cell → Type 0
IsChosen (Planned batches) elf plan image = IsPlanOf batches (program_of elf).code plan
IsChosen (Verified file) elf plan image = ReadsAs file (rewritten_elf elf image plan)

-- the file is read as an executable, which is that of no rewriting of the original, and the line
-- says why
pub record IsUnverified (original : Elf) (file line : List ℕ) : Type 0 where
  pub elf : Elf
  pub reads : ReadsAs file elf
  pub refused : VerifyRefused
  pub is_reason : refused ≢ OutOfMemory
  pub fits : Fits original elf refused
  pub line_is : line ≡ verify_line refused

-- there is no such rewriting, and this line says why: the code by the program's plan is too large;
-- or the file is read as no executable, or as that of no rewriting
abbrev pub IsUnchosen : Choice → Elf → List ℕ → Type 0
IsUnchosen (Planned batches) elf line = HasLongCode batches elf line
IsUnchosen (Verified file) elf line = IsUnread Code file line ⊎ IsUnverified elf file line

-- the executable isn't accepted, or it is, and has no chosen rewriting
abbrev pub IsUnrewritten : Choice → List ℕ → List ℕ → Type 0
IsUnrewritten choice file line =
    IsUnaccepted file line ⊎ ((elf : Elf) × IsProgramOf file elf × IsUnchosen choice elf line)

-- the executable in the file is accepted, and the image is the chosen rewriting of its program, by
-- this plan
pub record IsRewritingOf (choice : Choice) (file : List ℕ) (elf : Elf) (plan : List PlanEntry)
    (image : List Cell) : Type 0 where
  pub executable : IsProgramOf file elf
  pub chosen : IsChosen choice elf plan image
  pub rewriting : IsRewriting (program_of elf) plan image

-- where there is a file of code, it is read as this executable
abbrev pub IsFileOf : Elf → Option (List ℕ) → Type 0
IsFileOf wanted None = Unit {0}
IsFileOf wanted (Some file) = ReadsAs file wanted

-- the file of code is read as no executable, or as another one than this, and the line says why
abbrev pub IsOtherFile : Elf → Option (List ℕ) → List ℕ → Type 0
IsOtherFile wanted None line = ⊥
IsOtherFile wanted (Some file) line =
    IsUnread Code file line
    ⊎ ((elf : Elf) × (part : FilePart) × ReadsAs file elf × IsFirstDifference wanted elf part
    × (line ≡ code_line part))

-- the file of code isn't that of the rewritten executable, and this line says why
pub record IsCodeRefused (inputs : Inputs) (line : List ℕ) : Type 0 where
  pub elf : Elf
  pub plan : List PlanEntry
  pub image : List Cell
  pub rewritten :
      IsRewritingOf (choice_of inputs.batches inputs.verified) inputs.executable elf plan image
  pub other : IsOtherFile (rewritten_elf elf image plan) inputs.code line
