-- Why a file isn't that of a rewriting, in the order in which it is judged: each reason comes with
-- what holds where no earlier one does.
use Rattle.std.specs.Prelude.{◌≢◌, ℕ, List, length}
use Rattle.elf32_read.specs.Elf.{Elf}
use Rattle.exec_map.specs.Contents.{program_of}
use Rattle.templates.specs.declared.plans.PlanEntry.{PlanEntry}
use Rattle.templates.specs.Plans.{IsAdmissible}
use Rattle.rewriter.specs.jump_map.Image.{Cell, IsRewriting, HasTooManyWords}
use Rattle.rewriter.specs.RewrittenFile.{code_bytes, map_bytes, map_section, rewritten_elf}
use Rattle.rewrite_verify.specs.Sections.{HasOnly}
use Rattle.rewrite_verify.specs.FilePlan.{SaysPlan, HasNoPlan, HasBadPlan}
use Rattle.rewrite_verify.specs.FileCode.{HasWords, HasBadWord}
use Rattle.rewrite_verify.specs.declared.refused.VerifyRefused.{VerifyRefused}
use Rattle.rewrite_verify.specs.declared.refused.VerifyRefused.TheVariants.{NoPlan, BadPlan, CodeTooLarge, BadMap, BadCode, BadFile, OutOfMemory}

-- the file's plan is admissible, and has so many words, which are more than an image may have
pub record IsTooLarge (original e : Elf) (words : ℕ) : Type 0 where
  pub plan : List PlanEntry
  pub says : SaysPlan (program_of original).code e plan
  pub admissible : IsAdmissible (program_of original) plan
  pub many : HasTooManyWords (program_of original) plan words

-- the file's plan, and the original's rewriting by it
pub record IsByPlan (original e : Elf) (plan : List PlanEntry) (image : List Cell) : Type 0 where
  pub says : SaysPlan (program_of original).code e plan
  pub rewriting : IsRewriting (program_of original) plan image

-- the file has one section of a map, with the addresses of this rewriting
abbrev pub HasMap : Elf → List Cell → List PlanEntry → Type 0
HasMap e image plan = HasOnly e.sections (map_section (map_bytes image plan))

-- the file has no such section
pub record HasBadMap (original e : Elf) : Type 0 where
  pub plan : List PlanEntry
  pub image : List Cell
  pub by_plan : IsByPlan original e plan image
  pub no_map : HasMap e image plan → ⊥

-- the file has the plan and the map of this rewriting, and this is the address of the first word
-- that isn't its own
pub record HasBadCode (original e : Elf) (a : ℕ) : Type 0 where
  pub plan : List PlanEntry
  pub image : List Cell
  pub by_plan : IsByPlan original e plan image
  pub map : HasMap e image plan
  pub bad : HasBadWord original e image a

-- the file has the plan, the map and the words of this rewriting, but isn't its file
pub record HasBadFile (original e : Elf) : Type 0 where
  pub plan : List PlanEntry
  pub image : List Cell
  pub by_plan : IsByPlan original e plan image
  pub map : HasMap e image plan
  pub words : HasWords original e (length image) (code_bytes image)
  pub other : e ≢ rewritten_elf original image plan

-- the refusal fits the file, and none before it
abbrev pub Fits : Elf → Elf → VerifyRefused → Type 0
Fits original e NoPlan = HasNoPlan (program_of original).code e
Fits original e (BadPlan a) = HasBadPlan (program_of original).code e a
Fits original e (CodeTooLarge words) = IsTooLarge original e words
Fits original e BadMap = HasBadMap original e
Fits original e (BadCode a) = HasBadCode original e a
Fits original e BadFile = HasBadFile original e
Fits original e OutOfMemory = Unit {0}
