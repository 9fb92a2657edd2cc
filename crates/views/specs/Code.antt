-- Rewritten code, as a text.
use Rattle.std.specs.Prelude.{◌≡◌, ℕ, not, List, [], None, option_map}
use Rattle.elf32_read.specs.Elf.{Elf}
use Rattle.templates.specs.declared.plans.PlanEntry.{PlanEntry}
use Rattle.jump_map.specs.Image.{Cell}
use Rattle.code_view.specs.Code.{code_text}
use Rattle.command_line.specs.Views.{CodeArguments}
use Rattle.judged_files.specs.Code.{IsRewritingOf, IsUnrewritten, choice_of}
use Rattle.judged_files.specs.Inputs.{Inputs}

-- what is read of code that is shown, where files have these contents
abbrev pub coded : CodeArguments → (List ℕ → List ℕ) → Inputs
coded a contents = record {
  executable = contents a.file;
  code = None;
  verified = option_map contents a.verified;
  layout = None;
  text = [];
  batches = not a.no_batch;
}

-- the text of the rewritten code of an executable: that of the verified file, by the plan that the
-- file says, where there is one; else that by the program's plan, with batches or without
pub record IsCodeText (inputs : Inputs) (text : List ℕ) : Type 0 where
  pub elf : Elf
  pub plan : List PlanEntry
  pub image : List Cell
  pub rewritten :
      IsRewritingOf (choice_of inputs.batches inputs.verified) inputs.executable elf plan image
  pub text_is : text ≡ code_text elf plan image

-- the executable isn't accepted, or has no such code, and this line says why
abbrev pub IsCodeless : Inputs → List ℕ → Type 0
IsCodeless inputs line =
    IsUnrewritten (choice_of inputs.batches inputs.verified) inputs.executable line
