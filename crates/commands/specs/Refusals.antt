-- How the files of each command are refused: the executable first, then the text of a record, the
-- rewriting or the verified file, the file of code, the number of words that a record names, the
-- layout, and the events of a record.
use Rattle.std.specs.Prelude.{◌≡◌, ℕ, List}
use Rattle.elf32_read.specs.Elf.{Elf}
use Rattle.command_line.specs.Commands.{Command, Rewrite, Run, Listing, One, Sim, Replay, Generate, Assemble}
use Rattle.judged_files.specs.Code.{Planned, IsUnrewritten}
use Rattle.judged_files.specs.Executables.{IsProgramOf, IsUnaccepted}
use Rattle.judged_files.specs.Inputs.{Inputs}
use Rattle.prepared_run.specs.Replays.{IsReplayRefused, IsBadReplayLayout, IsBadRecord}
use Rattle.rv32_asm.specs.Rules.{IsFirstFault as IsFirstFaultOfText}
use Rattle.rv32_asm.specs.declared.refused.AsmRule.{AsmRule}
use Rattle.judged_files.specs.Text.{assembly_line}
use Rattle.judged_files.specs.Refusals.{IsFaultyLayout, IsBadRunLayout, IsRunRefused}

-- the executable is accepted, and the layout is refused with this line
pub record IsBadLayout (inputs : Inputs) (nodes : ℕ) (line : List ℕ) : Type 0 where
  pub elf : Elf
  pub executable : IsProgramOf inputs.executable elf
  pub faulty : IsFaultyLayout elf inputs.layout nodes line

-- a command's executable, its verified file or its file of code is refused with this line
abbrev pub IsRefused : Command → Inputs → List ℕ → Type 0
IsRefused (Rewrite a) inputs line =
    IsUnrewritten (Planned inputs.batches) inputs.executable line
IsRefused (Run a) inputs line = IsRunRefused inputs line
IsRefused (Listing a) inputs line = IsUnaccepted inputs.executable line
IsRefused (One a) inputs line = IsUnaccepted inputs.executable line
IsRefused (Sim a) inputs line = IsRunRefused inputs line
IsRefused (Replay a) inputs line = IsReplayRefused inputs line
IsRefused (Generate a) inputs line = ⊥
IsRefused (Assemble a) inputs line = ⊥

-- a command's layout is refused with this line
abbrev pub IsLayoutRefused : Command → Inputs → List ℕ → Type 0
IsLayoutRefused (Run a) inputs line = IsBadRunLayout inputs a.execution.nodes line
IsLayoutRefused (One a) inputs line = IsBadLayout inputs a.nodes line
IsLayoutRefused (Sim a) inputs line = IsBadRunLayout inputs a.execution.nodes line
IsLayoutRefused (Replay a) inputs line = IsBadReplayLayout inputs line
IsLayoutRefused command inputs line = ⊥

-- a command's record is refused with this line
abbrev pub IsRecordRefused : Command → Inputs → List ℕ → Type 0
IsRecordRefused (Replay a) inputs line = IsBadRecord inputs line
IsRecordRefused command inputs line = ⊥

-- the assembly text breaks a rule, and the line says at which line first, and which rule is the
-- lowest there
pub record IsBadAssembly (text line : List ℕ) : Type 0 where
  pub rule : AsmRule
  pub number : ℕ
  pub fault : IsFirstFaultOfText text rule number
  pub line_is : line ≡ assembly_line rule number

-- a command's assembly text is refused with this line
abbrev pub IsTextRefused : Command → Inputs → List ℕ → Type 0
IsTextRefused (Assemble a) inputs line = IsBadAssembly inputs.text line
IsTextRefused command inputs line = ⊥
