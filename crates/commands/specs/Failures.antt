-- Failures of commands, and what each says of the files and the output.
use Rattle.std.specs.Prelude.{◌≡◌, ℕ, ◌≤◌, ◌⊎◌, Bool, List, Option, None, Some, Contains, IfSome}
use Rattle.node_model.specs.Node.{Work}
use Rattle.node_model.specs.Core.{Core, IsOver}
use Rattle.node_model.specs.Outcome.{Outcome, IsOutcomeOf}
use Rattle.run_order.specs.OwnRun.{Stamped, StandsForOwnRun, run_of}
use Rattle.run_record.specs.Text.{record_text}
use Rattle.text_output.specs.declared.failure.Failure.{Failure}
use Rattle.text_output.specs.declared.failure.Failure.TheVariants.{Input, NotWritten, Refused, Layout, Record, Text, Output, OutOfMemory}
use Rattle.command_line.specs.Commands.{Command, reads}
use Rattle.dsm_io.specs.States.{SinkState, FilesState}
use Rattle.commands.specs.Answers.{IsReadFault, HasBytes, IsUnwritten, IsWriteFault, IsPutFault, IsRefusalStatus}
use Rattle.judged_files.specs.Code.{Planned, IsUnrewritten}
use Rattle.commands.specs.Records.{record_at}
use Rattle.commands.specs.Refusals.{IsRefused, IsLayoutRefused, IsRecordRefused, IsTextRefused, IsBadAssembly}
use Rattle.prepared_run.specs.Replays.{IsOutcomeOfReplay, IsReplayRefused, IsBadReplayLayout, IsBadRecord}
use Rattle.commands.specs.Headline.{IsRewrittenFile, IsAssembledFile, IsText, IsTextWith, Prints, PrintsPrefix}
use Rattle.judged_files.specs.Inputs.{Inputs}
use Rattle.text_output.specs.Failures.{status_of, FailsAs, IsWriteFailure}
use Rattle.judged_files.specs.Failures.{IsReadFailure, AreContents, AreBytes}
use Rattle.prepared_run.specs.Ready.{IsOwnOutcome}
use Rattle.commands.specs.Inputs.{FileNames, AreTold, inputs_of}

-- the inputs are the contents of the files of these names
pub record AreRead (names : FileNames) (files : FilesState) (inputs : Inputs) : Type 0 where
  pub executable : AreBytes files names.executable inputs.executable
  pub code : AreContents files names.code inputs.code
  pub verified : AreContents files names.verified inputs.verified
  pub layout : AreContents files names.layout inputs.layout
  pub text : AreBytes files names.text inputs.text
  pub batches : inputs.batches ≡ names.batches

-- a refusal of an assembly text; or a failure because it is out of memory
abbrev pub IsAssemblyRefusal : List ℕ → Failure → Type 0
IsAssemblyRefusal text (Text line) = IsBadAssembly text line.items
IsAssemblyRefusal text OutOfMemory = Unit {0}
IsAssemblyRefusal text f = ⊥

-- the outcome of the own run of a core whose nodes are over, and whose record is what the file of
-- the record holds, where that is told
pub record IsOwnRecorded (batches : Bool) (work : Work) (held : Option (List ℕ)) (o : Outcome)
    : Type 0
  where
    pub core : Core
    pub own : List Stamped
    pub stands : StandsForOwnRun work core own
    pub over : IsOver work core
    pub outcome : IsOutcomeOf work (run_of own) o
    pub is_recorded : IfSome held (λ bytes. bytes ≡ record_text (record_at batches work core))

-- how a record's run isn't made once more, or its text isn't put
abbrev pub IsReplayFailure : Inputs → Bool → SinkState → SinkState → Failure → Type 0
IsReplayFailure inputs brief before now (Record line) =
    IsBadRecord inputs line.items × (now.taken ≡ before.taken)
IsReplayFailure inputs brief before now f =
    FailsAs (IsTextWith (IsOutcomeOfReplay inputs) brief) (IsReplayRefused inputs)
    (IsBadReplayLayout inputs) before now f

-- how a command fails, with its file read by it
abbrev pub IsFailure : Command → FilesState → FilesState → SinkState → SinkState → Failure → Type 0
IsFailure command files files_now before now (Input line) =
    (now.taken ≡ before.taken) × IsReadFault command files files_now (λ l. line.items ≡ l)
IsFailure command files files_now before now (NotWritten line) =
    (now.taken ≡ before.taken) × IsWriteFault command files files_now (λ l. line.items ≡ l)
IsFailure command files files_now before now (Refused line) =
    (now.taken ≡ before.taken)
    × ((contents : List ℕ → List ℕ) → AreTold command files contents
    → IsRefused command (inputs_of command contents) line.items)
IsFailure command files files_now before now (Layout line) =
    (now.taken ≡ before.taken)
    × ((contents : List ℕ → List ℕ) → AreTold command files contents
    → IsLayoutRefused command (inputs_of command contents) line.items)
IsFailure command files files_now before now (Record line) =
    (now.taken ≡ before.taken)
    × ((contents : List ℕ → List ℕ) → AreTold command files contents
    → IsRecordRefused command (inputs_of command contents) line.items)
IsFailure command files files_now before now (Text line) =
    (now.taken ≡ before.taken)
    × ((contents : List ℕ → List ℕ) → AreTold command files contents
    → IsTextRefused command (inputs_of command contents) line.items)
IsFailure command files files_now before now Output =
    IsPutFault command files files_now before now
IsFailure command files files_now before now OutOfMemory =
    (contents : List ℕ → List ℕ) → AreTold command files contents
    → (now.taken ≡ before.taken) ⊎ PrintsPrefix command contents files_now before now

-- how a command succeeds: its whole text was put
pub record IsSuccess (command : Command) (files files_now : FilesState) (before now : SinkState)
    (status : ℕ) : Type 0 where
  pub low : status ≤ 1
  pub prints : (contents : List ℕ → List ℕ) → AreTold command files contents
      → Prints command contents files_now before now status

-- why a run gave no outcome, or its record wasn't written into the file that is named for it, and
-- what that holds then
abbrev pub IsRecordFailure : Option (List ℕ) → FilesState → FilesState → Failure → Type 0
IsRecordFailure None before now f = f ≡ OutOfMemory
IsRecordFailure (Some name) before now f = IsWriteFailure before now name f

-- where the record of a run of this work wasn't written, the run was made
abbrev pub IsMade : Work → Failure → Type 0
IsMade work (NotWritten line) = (o : Outcome) × IsOwnOutcome work o
IsMade work f = Unit {0}

-- why a rewritten file wasn't written
abbrev pub IsRewriteFailure : Bool → List ℕ → FilesState → FilesState → List ℕ → Failure → Type 0
IsRewriteFailure batches file before now name (NotWritten line) =
    ((bytes : List ℕ) × IsRewrittenFile batches file bytes)
    × IsWriteFailure before now name (NotWritten line)
IsRewriteFailure batches file before now name (Refused line) =
    IsUnrewritten (Planned batches) file line.items × ((n : List ℕ) → now.held n ≡ before.held n)
IsRewriteFailure batches file before now name f = IsWriteFailure before now name f

-- why the file of an assembly text wasn't written
abbrev pub IsAssemblyFailure : List ℕ → FilesState → FilesState → List ℕ → Failure → Type 0
IsAssemblyFailure text before now name (NotWritten line) =
    ((bytes : List ℕ) × IsAssembledFile text bytes)
    × IsWriteFailure before now name (NotWritten line)
IsAssemblyFailure text before now name (Text line) =
    IsBadAssembly text line.items × ((n : List ℕ) → now.held n ≡ before.held n)
IsAssemblyFailure text before now name f = IsWriteFailure before now name f

-- how a command fails that reads these files
abbrev pub IsPerformFailure : Command → Inputs → FilesState → FilesState → SinkState → SinkState
    → Failure → Type 0
IsPerformFailure command inputs files files_now before now (NotWritten line) =
    (now.taken ≡ before.taken)
    × (HasBytes command inputs × IsUnwritten command files files_now (λ l. line.items ≡ l))
IsPerformFailure command inputs files files_now before now (Record line) =
    IsRecordRefused command inputs line.items × (now.taken ≡ before.taken)
IsPerformFailure command inputs files files_now before now (Text line) =
    IsTextRefused command inputs line.items × (now.taken ≡ before.taken)
IsPerformFailure command inputs files files_now before now f =
    FailsAs (IsText command files_now inputs) (IsRefused command inputs)
    (IsLayoutRefused command inputs) before now f

-- a file that a command reads wasn't read
abbrev pub IsInputFailure : Command → FilesState → FilesState → Failure → Type 0
IsInputFailure command before now f =
    (name : List ℕ) × Contains (reads command) name × IsReadFailure before now name f

-- what was read is what the files are told to have
abbrev pub AreInputs : Command → FilesState → Inputs → Type 0
AreInputs command files inputs =
    (contents : List ℕ → List ℕ) → AreTold command files contents
    → inputs ≡ inputs_of command contents

-- where a command is refused, no file changes
abbrev pub AreKept : FilesState → FilesState → Failure → Type 0
AreKept before now f =
    IsRefusalStatus (status_of f)
    → (name : List ℕ) → now.held name ≡ before.held name
