-- Helps the code alone: how a view fails, and how it succeeds.
use Rattle.std.specs.Prelude.{◌≡◌, ℕ, ◌<◌, ◌⊎◌, List, [], ◌∷◌, ◌++◌, All, Option, None, Some, IfSome}
use Rattle.dsm_io.specs.Causes.{Rose}
use Rattle.dsm_io.specs.States.{FilesState, SinkState}
use Rattle.gdb_server.specs.Ends.{Streams}
use Rattle.command_line.specs.Views.{RecordedFiles, TimeArguments, View}
use Rattle.code_view.specs.Code.{code_text}
use Rattle.code_view.specs.declared.view.CodeView.{CodeView}
use Rattle.node_model.specs.Node.{Work}
use Rattle.run_record.specs.declared.Record.{Record as Kept}
use Rattle.replay.specs.Told.{Told}
use Rattle.replay.specs.Replay.{TellsWholeRun}
use Rattle.text_output.specs.declared.failure.Failure.{Failure}
use Rattle.text_output.specs.declared.failure.Failure.TheVariants.{Input, NotWritten, Refused, Layout, Record, Text, Output, OutOfMemory}
use Rattle.text_output.specs.Failures.{FailsAs, IsWriteFailure, status_of}
use Rattle.prepared_run.specs.Replays.{IsReplayRefusal, IsReplayRefused, IsBadReplayLayout, IsBadRecord}
use Rattle.judged_files.specs.Inputs.{Inputs}
use Rattle.prepared_run.specs.Ready.{work_for}
use Rattle.prepared_run.specs.declared.ready.Prepared.{Prepared}
use Rattle.views.specs.declared.trace.Selection.{Selection}
use Rattle.elf_symbols.specs.Symbols.{Symbol}
use Rattle.run_trace.specs.declared.tracer.Tracer.{Tracer}
use Rattle.run_trace.specs.declared.traced.Traced.{Traced as Stored}
use Rattle.run_trace.specs.Given.{traced_of}
use Rattle.run_trace.specs.Traced.{Traced}
use Rattle.run_trace.specs.Trace.{IsTraceOf}
use Rattle.run_trace.specs.Tracing.{HasTraced, plan_traced, record_traced, work_traced}
use Rattle.views.specs.Code.{IsCodeText}
use Rattle.views.specs.Debugger.{HasShown, HasShownPart, HasShownUpTo, IsCutShort, IsSessionText, IsUntouched}
use Rattle.views.specs.Inputs.{AreInputs, IsInputFailure, run_files}
use Rattle.views.specs.Trace.{IsTraceText}
use Rattle.views.specs.Blocks.{AreCostsOfRun, IsCostsText}
use Rattle.views.specs.Answers.{IsReadFault, IsPutFault, IsSourceFault, IsWriteFault, IsRefusalStatus, cannot_read_input}
use Rattle.views.specs.Page.{IsPageText}
use Rattle.views.specs.Time.{IsTimeText, costs_of}
use Rattle.views.specs.Headline.{AreTold, IsRefused, IsLayoutRefused, IsRecordRefused, Prints, PrintsPrefix}

-- the text of what is shown
abbrev pub shown_text : CodeView → List ℕ
shown_text v = code_text v.program.now v.plan.now v.image.now

-- the text of rewritten code, with any status
abbrev pub IsTextOfCode : Inputs → List ℕ → ℕ → Type 0
IsTextOfCode inputs text status = IsCodeText inputs text

-- the text of a trace, with any status
abbrev pub IsTextOfTrace : Inputs → Selection → List ℕ → ℕ → Type 0
IsTextOfTrace inputs s text status = IsTraceText inputs s text

-- the text of what blocks cost in a run, with any status
abbrev pub IsTextOfBlocks : Inputs → List ℕ → ℕ → Type 0
IsTextOfBlocks inputs text status = AreCostsOfRun inputs text

-- a text that is put to a debugger, with any status
abbrev pub IsTextOfSession : Inputs → List ℕ → ℕ → Type 0
IsTextOfSession inputs text status = IsSessionText inputs text

-- the text of a run by a clock, with any status
abbrev pub IsTextOfTime : Inputs → TimeArguments → List ℕ → ℕ → Type 0
IsTextOfTime inputs a text status = IsTimeText inputs a.nodes a.budget (costs_of a) text

-- there is a trace of the whole run that a record tells of, and the text is that of its costs
pub record IsTextOfRun (symbols : List Symbol) (prepared : Prepared) (kept : Kept) (text : List ℕ)
    : Type 0
  where
    pub trace : List Traced
    pub is_trace : IsTraceOf (work_for prepared) prepared.rewritten.plan kept trace
    pub text_is : IsCostsText symbols prepared.layout trace text

-- how a view fails that makes a recorded run once more, and whose texts are these
abbrev pub FailsAsRun : (List ℕ → ℕ → Type 0) → Inputs → SinkState → SinkState → Failure → Type 0
FailsAsRun IsTextFor inputs before now (Record line) =
    IsBadRecord inputs line.items × (now.taken ≡ before.taken)
FailsAsRun IsTextFor inputs before now f =
    FailsAs IsTextFor (IsReplayRefused inputs) (IsBadReplayLayout inputs) before now f

-- the record tells of a whole run
abbrev pub TellsWhole : Work → Kept → Type 0
TellsWhole work kept = (told : List Told) × TellsWholeRun work kept told

-- the trace begins with these events, and all after them have later stamps than this one
pub record AreAllUpTo (to : ℕ) (seen trace : List Traced) : Type 0 where
  pub behind : List Traced
  pub trace_is : trace ≡ seen ++ behind
  pub later : All (λ (x : Traced). to < x.stamp) behind

-- one event more is given, or all up to this stamp were
abbrev pub HasGoneOnTo : (to : ℕ) → Tracer → List Traced → Option Stored → Type 0
HasGoneOnTo to t seen None = (trace : List Traced)
    → IsTraceOf (work_traced t) (plan_traced t) (record_traced t) trace → AreAllUpTo to seen trace
HasGoneOnTo to t seen (Some x) = HasTraced t (seen ++ traced_of x ∷ [])

-- the record tells of a run that is refused, or is refused itself, or its executable is
pub record IsRunRefused (run : RecordedFiles) (files : FilesState) (f : Failure) : Type 0 where
  pub inputs : Inputs
  pub are_inputs : AreInputs files (run_files run) inputs
  pub refusal : IsReplayRefusal inputs f

-- a file holds the page of a recorded run
pub record IsPageWritten (run : RecordedFiles) (output : List ℕ) (s : Selection)
    (before now : FilesState) : Type 0
  where
    pub inputs : Inputs
    pub are_inputs : AreInputs before (run_files run) inputs
    pub written : IfSome (now.held output) (IsPageText inputs s)

-- the page of a recorded run could not be written
pub record IsPageUnwritten (run : RecordedFiles) (output : List ℕ) (s : Selection)
    (before now : FilesState) (f : Failure) : Type 0
  where
    pub inputs : Inputs
    pub are_inputs : AreInputs before (run_files run) inputs
    pub page : List ℕ
    pub is_page : IsPageText inputs s page
    pub failure : IsWriteFailure before now output f

-- each file holds what it held
abbrev pub AreSame : FilesState → FilesState → Type 0
AreSame before now = (name : List ℕ) → now.held name ≡ before.held name

-- how the page of a recorded run fails
abbrev pub IsPageFailure : RecordedFiles → (output : List ℕ) → Selection → FilesState → FilesState
    → Failure → Type 0
IsPageFailure run output s before now f =
    (AreSame before now
    × (IsInputFailure (run_files run) before now f ⊎ IsRunRefused run before f))
    ⊎ IsPageUnwritten run output s before now f

-- how a view succeeds: its whole text was put
abbrev pub IsSuccess : View → FilesState → SinkState → SinkState → Type 0
IsSuccess view files before now =
    (contents : List ℕ → List ℕ) → AreTold view files contents → Prints view contents before now

-- how a view fails, but for the input
abbrev pub IsFailure : View → FilesState → FilesState → SinkState → SinkState → Failure → Type 0
IsFailure view files files_now before now (Input line) =
    (now.taken ≡ before.taken) × IsReadFault view files files_now (λ l. line.items ≡ l)
IsFailure view files files_now before now (Refused line) =
    (now.taken ≡ before.taken)
    × ((contents : List ℕ → List ℕ) → AreTold view files contents
    → IsRefused view contents line.items)
IsFailure view files files_now before now Output = IsPutFault view files before now
IsFailure view files files_now before now OutOfMemory =
    (contents : List ℕ → List ℕ) → AreTold view files contents
    → (now.taken ≡ before.taken) ⊎ PrintsPrefix view contents before now
IsFailure view files files_now before now (NotWritten line) =
    (now.taken ≡ before.taken) × IsWriteFault view files files_now (λ l. line.items ≡ l)
IsFailure view files files_now before now (Layout line) =
    (now.taken ≡ before.taken)
    × ((contents : List ℕ → List ℕ) → AreTold view files contents
    → IsLayoutRefused view contents line.items)
IsFailure view files files_now before now (Record line) =
    (now.taken ≡ before.taken)
    × ((contents : List ℕ → List ℕ) → AreTold view files contents
    → IsRecordRefused view contents line.items)
IsFailure view files files_now before now (Text line) = ⊥

-- where a view is refused, no file changes
abbrev pub AreKept : FilesState → FilesState → Failure → Type 0
AreKept before now f =
    IsRefusalStatus (status_of f) → (name : List ℕ) → now.held name ≡ before.held name

-- how a view fails because the input did: the line says so
abbrev pub IsSourceFailure : View → FilesState → Streams → Failure → Type 0
IsSourceFailure view files io (Input line) =
    IsSourceFault view files io × (line.items ≡ cannot_read_input)
IsSourceFailure view files io f = ⊥

-- how a view fails that may read the input
abbrev pub IsShownFailure : View → FilesState → FilesState → Streams → Failure → Type 0
IsShownFailure view files files_now io f =
    IsFailure view files files_now io.output io.output_after f ⊎ IsSourceFailure view files io f

-- the input couldn't be read, and the line says so; or memory is wanted for it
abbrev pub IsInputFault : Failure → Type 0
IsInputFault (Input line) = line.items ≡ cannot_read_input
IsInputFault OutOfMemory = Unit {0}
IsInputFault f = ⊥

-- how serving a debugger fails
abbrev pub FailsAsSession : Inputs → Streams → Failure → Type 0
FailsAsSession inputs io (Input line) =
    (line.items ≡ cannot_read_input) × Rose io.input.faults io.input_after.faults
    × HasShownUpTo inputs io
FailsAsSession inputs io (Refused line) = IsReplayRefused inputs line.items × IsUntouched io
FailsAsSession inputs io (Layout line) = IsBadReplayLayout inputs line.items × IsUntouched io
FailsAsSession inputs io (Record line) = IsBadRecord inputs line.items × IsUntouched io
FailsAsSession inputs io Output =
    Rose io.output.faults io.output_after.faults × HasShownPart inputs io
FailsAsSession inputs io OutOfMemory = IsCutShort inputs io
FailsAsSession inputs io (NotWritten line) = ⊥
FailsAsSession inputs io (Text line) = ⊥

-- a debugger was served at the recorded run in these files
pub record HasShownRun (run : RecordedFiles) (files : FilesState) (io : Streams) : Type 0 where
  pub inputs : Inputs
  pub are_inputs : AreInputs files (run_files run) inputs
  pub shown : HasShown inputs io

-- serving a debugger at the recorded run in these files failed
pub record IsRunUnshown (run : RecordedFiles) (files : FilesState) (io : Streams) (f : Failure)
    : Type 0
  where
    pub inputs : Inputs
    pub are_inputs : AreInputs files (run_files run) inputs
    pub fails : FailsAsSession inputs io f

-- a file wasn't read, or serving a debugger failed
abbrev pub IsShowFailure : RecordedFiles → FilesState → FilesState → Streams → Failure → Type 0
IsShowFailure run files files_now io f =
    (IsInputFailure (run_files run) files files_now f × IsUntouched io)
    ⊎ IsRunUnshown run files io f
