-- How the files of a run are refused: the executable first, then the rewriting or the verified
-- file, the file of code, and the layout.
use Rattle.std.specs.Prelude.{◌≡◌, ℕ, ◌⊎◌, List, Option, Some}
use Rattle.elf32_read.specs.Elf.{Elf}
use Rattle.exec_map.specs.Contents.{AreSharedRanges}
use Rattle.block_layout.specs.declared.ranges.Lines.{Lines}
use Rattle.block_layout.specs.declared.refused.LayoutRule.{LayoutRule}
use Rattle.block_layout.specs.Text.{IsFirstFault}
use Rattle.templates.specs.declared.plans.PlanEntry.{PlanEntry}
use Rattle.rewrite_verify.specs.jump_map.Image.{Cell}
use Rattle.rewrite_verify.specs.rewriter.RewrittenFile.{rewritten_elf}
use Rattle.judged_files.specs.Code.{choice_of, IsCodeRefused, IsFileOf, IsRewritingOf, IsUnrewritten}
use Rattle.judged_files.specs.Inputs.{Inputs}
use Rattle.judged_files.specs.Text.{layout_line}

-- the text breaks a rule of layouts of the executable's shared lines, and the line says at which
-- line first, and which rule is the lowest there
pub record IsFaultyLayout (elf : Elf) (layout : Option (List ℕ)) (nodes : ℕ) (line : List ℕ)
    : Type 0
  where
    pub text : List ℕ
    pub text_is : layout ≡ Some text
    pub shared : List Lines
    pub lines : AreSharedRanges elf shared
    pub rule : LayoutRule
    pub number : ℕ
    pub fault : IsFirstFault text shared nodes rule number
    pub line_is : line ≡ layout_line rule number

-- the executable has a rewriting, a file of code is that of it, and the layout is refused with this
-- line
pub record IsBadRunLayout (inputs : Inputs) (nodes : ℕ) (line : List ℕ) : Type 0 where
  pub elf : Elf
  pub plan : List PlanEntry
  pub image : List Cell
  pub rewritten :
      IsRewritingOf (choice_of inputs.batches inputs.verified) inputs.executable elf plan image
  pub code : IsFileOf (rewritten_elf elf image plan) inputs.code
  pub faulty : IsFaultyLayout elf inputs.layout nodes line

-- the executable isn't accepted, or has no chosen rewriting, or the file of code isn't that of the
-- rewriting
abbrev pub IsRunRefused : Inputs → List ℕ → Type 0
IsRunRefused inputs line =
    IsUnrewritten (choice_of inputs.batches inputs.verified) inputs.executable line
    ⊎ IsCodeRefused inputs line
