-- Failures, and what each says of the files and the output.
use Rattle.std.specs.Prelude.{◌≡◌, ℕ, ◌⊎◌, List}
use Rattle.dsm_io.specs.Causes.{Rose, Appends, AppendsPrefix}
use Rattle.dsm_io.specs.States.{SinkState, FilesState}
use Rattle.text_output.specs.declared.failure.Failure.{Failure}
use Rattle.text_output.specs.declared.failure.Failure.TheVariants.{Input, NotWritten, Refused, Layout, Record, Text, Output, OutOfMemory}
use Rattle.text_output.specs.Text.{cannot_write, cannot_write_output, out_of_memory}

-- the status and the line of a failure
abbrev pub status_of : Failure → ℕ
status_of (Input line) = 3
status_of (NotWritten line) = 3
status_of (Refused line) = 4
status_of (Layout line) = 6
status_of (Record line) = 7
status_of (Text line) = 8
status_of Output = 3
status_of OutOfMemory = 5

abbrev pub line_of : Failure → List ℕ
line_of (Input line) = line.items
line_of (NotWritten line) = line.items
line_of (Refused line) = line.items
line_of (Layout line) = line.items
line_of (Record line) = line.items
line_of (Text line) = line.items
line_of Output = cannot_write_output
line_of OutOfMemory = out_of_memory

-- a refusal, by the reasons that a line tells: of an executable, and of a layout; or a failure
-- because it is out of memory
abbrev pub IsRefusal : (List ℕ → Type 0) → (List ℕ → Type 0) → Failure → Type 0
IsRefusal Reason OfLayout (Input line) = ⊥
IsRefusal Reason OfLayout (NotWritten line) = ⊥
IsRefusal Reason OfLayout (Refused line) = Reason line.items
IsRefusal Reason OfLayout (Layout line) = OfLayout line.items
IsRefusal Reason OfLayout (Record line) = ⊥
IsRefusal Reason OfLayout (Text line) = ⊥
IsRefusal Reason OfLayout Output = ⊥
IsRefusal Reason OfLayout OutOfMemory = Unit {0}

-- a refusal of a record, by the reasons that a line tells; or a failure because it is out of memory
abbrev pub IsRecordRefusal : (List ℕ → Type 0) → Failure → Type 0
IsRecordRefusal OfRecord (Record line) = OfRecord line.items
IsRecordRefusal OfRecord OutOfMemory = Unit {0}
IsRecordRefusal OfRecord f = ⊥

-- why a piece wasn't put whole
abbrev pub IsPutFailure : SinkState → SinkState → List ℕ → Failure → Type 0
IsPutFailure before now piece (Input line) = ⊥
IsPutFailure before now piece (NotWritten line) = ⊥
IsPutFailure before now piece (Refused line) = ⊥
IsPutFailure before now piece (Layout line) = ⊥
IsPutFailure before now piece (Record line) = ⊥
IsPutFailure before now piece (Text line) = ⊥
IsPutFailure before now piece Output =
    Rose before.faults now.faults × AppendsPrefix before.taken now.taken piece
IsPutFailure before now piece OutOfMemory = now.taken ≡ before.taken

-- a prefix of a text with this status was put
abbrev pub PutsPrefix : (List ℕ → ℕ → Type 0) → SinkState → SinkState → Type 0
PutsPrefix IsTextFor before now =
    (text : List ℕ) × (status : ℕ) × IsTextFor text status
    × AppendsPrefix before.taken now.taken text

-- how a command fails whose texts are these, and whose refusals are these: of executables, and of
-- the layout
abbrev pub FailsAs : (List ℕ → ℕ → Type 0) → (List ℕ → Type 0) → (List ℕ → Type 0) → SinkState
    → SinkState → Failure → Type 0
FailsAs IsTextFor Reason OfLayout before now (Input line) = ⊥
FailsAs IsTextFor Reason OfLayout before now (NotWritten line) = ⊥
FailsAs IsTextFor Reason OfLayout before now (Refused line) =
    Reason line.items × (now.taken ≡ before.taken)
FailsAs IsTextFor Reason OfLayout before now (Layout line) =
    OfLayout line.items × (now.taken ≡ before.taken)
FailsAs IsTextFor Reason OfLayout before now (Record line) = ⊥
FailsAs IsTextFor Reason OfLayout before now (Text line) = ⊥
FailsAs IsTextFor Reason OfLayout before now Output =
    Rose before.faults now.faults × PutsPrefix IsTextFor before now
FailsAs IsTextFor Reason OfLayout before now OutOfMemory =
    (now.taken ≡ before.taken) ⊎ PutsPrefix IsTextFor before now

-- the whole of a text with this status was put
abbrev pub Puts : (List ℕ → ℕ → Type 0) → ℕ → SinkState → SinkState → Type 0
Puts IsTextFor status before now =
    (text : List ℕ) × IsTextFor text status × Appends before.taken now.taken text

-- one text, with any status; and no reason at all
abbrev pub IsLike : List ℕ → List ℕ → ℕ → Type 0
IsLike one text status = text ≡ one

abbrev pub IsNever : List ℕ → Type 0
IsNever line = ⊥

-- a failure that isn't a refusal
abbrev pub IsNoRefusal : Failure → Type 0
IsNoRefusal f = (status_of f ≡ 3) ⊎ (status_of f ≡ 5)

-- why a file wasn't written, and what it holds then
abbrev pub IsWriteFailure : FilesState → FilesState → List ℕ → Failure → Type 0
IsWriteFailure before now name (NotWritten line) =
    Rose (before.failed_writes name) (now.failed_writes name) × (line.items ≡ cannot_write name)
IsWriteFailure before now name OutOfMemory =
    (now.held name ≡ before.held name)
    ⊎ Rose (before.failed_writes name) (now.failed_writes name)
IsWriteFailure before now name f = ⊥
