-- The run of a record, made once more, and how a record is refused.
use Rattle.std.specs.Prelude.{◌≡◌, ℕ, ◌⊎◌, List, map, length}
use Rattle.elf32_read.specs.Elf.{Elf}
use Rattle.exec_map.specs.Contents.{program_of}
use Rattle.block_layout.specs.Layout.{IsValid}
use Rattle.templates.specs.declared.plans.PlanEntry.{PlanEntry}
use Rattle.rewrite_verify.specs.jump_map.Image.{Cell}
use Rattle.replay.specs.node_model.Node.{Work}
use Rattle.replay.specs.node_model.Outcome.{Outcome}
use Rattle.replay.specs.run_record.declared.Record.{Record}
use Rattle.replay.specs.run_record.Record.{NamesOtherCode}
use Rattle.replay.specs.declared.refused.ReplayRule.{ReplayRule}
use Rattle.replay.specs.Refusals as events
use Rattle.replay.specs.Replay.{TellsWholeRun}
use Rattle.replay.specs.Told.{Told, what_told}
use Rattle.text_output.specs.declared.failure.Failure.{Failure}
use Rattle.text_output.specs.declared.failure.Failure.TheVariants as failure
use Rattle.text_output.specs.Failures.{IsRefusal}
use Rattle.judged_files.specs.Code.{choice_of, IsRewritingOf, IsUnchosen}
use Rattle.judged_files.specs.Executables.{IsProgramOf, IsUnaccepted}
use Rattle.judged_files.specs.Inputs.{Inputs}
use Rattle.judged_files.specs.Records.{AreFaultyBlocks, IsFaultyText, IsLayoutOfBlocks, IsOtherCode, IsTextOf}
use Rattle.prepared_run.specs.WholeRuns.{IsRunOfCode}
use Rattle.prepared_run.specs.Text.{event_line}

-- What a record asks to be run: the rewriting of the executable's program, by the program's plan
-- or, where one is given, that of a verified file, of as many words as the record names, on the
-- layout of the record's blocks, with the record's nodes and budget.
pub record IsWorkOf (inputs : Inputs) (kept : Record) (elf : Elf) (plan : List PlanEntry)
    (work : Work) : Type 0 where
  pub text : IsTextOf kept inputs.text
  pub rewritten :
      IsRewritingOf (choice_of kept.batch inputs.verified) inputs.executable elf plan work.image
  pub same_code : NamesOtherCode kept (length work.image) → ⊥
  pub program : work.program ≡ program_of elf
  pub laid_out : IsLayoutOfBlocks elf kept work.layout
  pub valid : IsValid work.layout
  pub limit : work.budget ≡ kept.budget

-- the outcome of the run that the record tells of
pub record IsOutcomeOfReplay (inputs : Inputs) (outcome : Outcome) : Type 0 where
  pub kept : Record
  pub elf : Elf
  pub plan : List PlanEntry
  pub work : Work
  pub asked : IsWorkOf inputs kept elf plan work
  pub told : List Told
  pub tells : TellsWholeRun work kept told
  pub of_code : IsRunOfCode (choice_of kept.batch inputs.verified) inputs.executable elf plan work
      (map what_told told) outcome

-- the record doesn't tell of a whole run: the line says which entry tells of the first event that
-- breaks a rule, or which node's journal ends too early
pub record IsBrokenRun (work : Work) (kept : Record) (line : List ℕ) : Type 0 where
  pub rule : ReplayRule
  pub node : ℕ
  pub entry : ℕ
  pub broken : events.IsFirstBroken work kept rule node entry
      ⊎ events.IsUnfinished work kept rule node entry
  pub line_is : line ≡ event_line rule node entry

-- the executable is accepted and the text is that of a record, but there is no chosen rewriting,
-- and this line says why
pub record IsUnchosenReplay (inputs : Inputs) (line : List ℕ) : Type 0 where
  pub elf : Elf
  pub executable : IsProgramOf inputs.executable elf
  pub kept : Record
  pub text : IsTextOf kept inputs.text
  pub unchosen : IsUnchosen (choice_of kept.batch inputs.verified) elf line

-- the executable isn't accepted, or not rewritten, and this line says why
abbrev pub IsReplayRefused : Inputs → List ℕ → Type 0
IsReplayRefused inputs line = IsUnaccepted inputs.executable line ⊎ IsUnchosenReplay inputs line

-- the text is that of a record and the executable has a rewriting of as many words as the record
-- names, but the record's blocks are refused with this line
pub record IsBadReplayLayout (inputs : Inputs) (line : List ℕ) : Type 0 where
  pub kept : Record
  pub text : IsTextOf kept inputs.text
  pub elf : Elf
  pub plan : List PlanEntry
  pub image : List Cell
  pub rewritten :
      IsRewritingOf (choice_of kept.batch inputs.verified) inputs.executable elf plan image
  pub same_code : NamesOtherCode kept (length image) → ⊥
  pub faulty : AreFaultyBlocks elf kept line

-- the executable is accepted, but the text is refused with this line
pub record IsNoRecord (inputs : Inputs) (line : List ℕ) : Type 0 where
  pub elf : Elf
  pub executable : IsProgramOf inputs.executable elf
  pub faulty : IsFaultyText inputs.text line

-- the text is that of a record and the executable has a rewriting, but that has another number of
-- words than the record names, which this line says
pub record IsNoRecordOfCode (inputs : Inputs) (line : List ℕ) : Type 0 where
  pub kept : Record
  pub text : IsTextOf kept inputs.text
  pub elf : Elf
  pub plan : List PlanEntry
  pub image : List Cell
  pub rewritten :
      IsRewritingOf (choice_of kept.batch inputs.verified) inputs.executable elf plan image
  pub other : IsOtherCode kept (length image) line

-- the record asks for a run, but its events are refused with this line
pub record IsBrokenRecord (inputs : Inputs) (line : List ℕ) : Type 0 where
  pub kept : Record
  pub elf : Elf
  pub plan : List PlanEntry
  pub work : Work
  pub asked : IsWorkOf inputs kept elf plan work
  pub broken : IsBrokenRun work kept line

-- the record is refused with this line: its text, the number of words that it names, or its events
abbrev pub IsBadRecord : Inputs → List ℕ → Type 0
IsBadRecord inputs line =
    IsNoRecord inputs line ⊎ (IsNoRecordOfCode inputs line ⊎ IsBrokenRecord inputs line)

-- what a record asks to be run is refused, or the record is
abbrev pub IsReplayRefusal : Inputs → Failure → Type 0
IsReplayRefusal inputs (failure.Record line) = IsBadRecord inputs line.items
IsReplayRefusal inputs f =
    IsRefusal (IsReplayRefused inputs) (IsBadReplayLayout inputs) f
