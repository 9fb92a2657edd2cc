-- Why a command answers as it does, and what `err` is told.
use Rattle.std.specs.Prelude.{◌≡◌, ℕ, ◌⊎◌, List, Contains, IfSome}
use Rattle.dsm_io.specs.Causes.{Rose}
use Rattle.dsm_io.specs.States.{FilesState, SinkState}
use Rattle.command_line.specs.Commands.{Command, reads, writes}
use Rattle.judged_files.specs.Inputs.{Inputs}
use Rattle.commands.specs.Inputs.{AreTold, inputs_of}
use Rattle.commands.specs.Headline.{IsWritten, PrintsPrefix}
use Rattle.judged_files.specs.Text.{cannot_read, too_long}
use Rattle.text_output.specs.Text.{cannot_write, cannot_write_output}
use Rattle.judged_files.specs.Failures.{IsTooLong}

-- a file that the command reads couldn't be read, or is too long, and the line says so
abbrev pub IsReadFault : Command → FilesState → FilesState → (List ℕ → Type 0) → Type 0
IsReadFault command before now Told =
    (name : List ℕ) × Contains (reads command) name
    × ((Rose (before.failed_reads name) (now.failed_reads name) × Told (cannot_read name))
    ⊎ (IsTooLong before now name × Told (too_long name)))

-- there are bytes that the command writes, where it reads files of these contents
abbrev pub HasBytes : Command → Inputs → Type 0
HasBytes command inputs = (bytes : List ℕ) × IsWritten command inputs bytes

-- a file that the command writes couldn't be written, and the line says so
abbrev pub IsUnwritten : Command → FilesState → FilesState → (List ℕ → Type 0) → Type 0
IsUnwritten command before now Told =
    (name : List ℕ) × Contains (writes command) name
    × Rose (before.failed_writes name) (now.failed_writes name) × Told (cannot_write name)

-- what the command writes couldn't be written, though the files that it reads define it
abbrev pub IsWriteFault : Command → FilesState → FilesState → (List ℕ → Type 0) → Type 0
IsWriteFault command before now Told =
    ((contents : List ℕ → List ℕ) → AreTold command before contents
    → HasBytes command (inputs_of command contents))
    × IsUnwritten command before now Told

-- a file that the command writes holds what it held before, or what the command writes; or it
-- couldn't be written
abbrev pub IsLeft : Command → Inputs → FilesState → FilesState → List ℕ → Type 0
IsLeft command inputs before now name =
    (now.held name ≡ before.held name)
    ⊎ (IfSome (now.held name) (IsWritten command inputs)
    ⊎ Rose (before.failed_writes name) (now.failed_writes name))

-- the files that a command writes hold what it writes
abbrev pub AreWritten : Command → Inputs → FilesState → Type 0
AreWritten command inputs now =
    (name : List ℕ) → Contains (writes command) name
    → IfSome (now.held name) (IsWritten command inputs)

-- each file that a command writes is left so
abbrev pub AreLeft : Command → Inputs → FilesState → FilesState → Type 0
AreLeft command inputs before now =
    (name : List ℕ) → Contains (writes command) name → IsLeft command inputs before now name

-- the output failed where a text that the command asks for was being put
abbrev pub IsPutFault : Command → FilesState → FilesState → SinkState → SinkState → Type 0
IsPutFault command files files_now before now =
    Rose before.faults now.faults
    × ((contents : List ℕ → List ℕ) → AreTold command files contents
    → PrintsPrefix command contents files_now before now)

-- why a command answers a fault, and the line that is told: a file failed, and nothing was put; or
-- the output failed
abbrev pub IsFault : Command → FilesState → FilesState → SinkState → SinkState
    → (List ℕ → Type 0) → Type 0
IsFault command before now out_before out Told =
    ((out.taken ≡ out_before.taken)
    × (IsReadFault command before now Told ⊎ IsWriteFault command before now Told))
    ⊎ (IsPutFault command before now out_before out × Told cannot_write_output)

-- the status of a refusal: of an executable or a file of its code, of a layout, of a record, or of
-- an assembly text
abbrev pub IsRefusalStatus : ℕ → Type 0
IsRefusalStatus status = (status ≡ 4) ⊎ ((status ≡ 6) ⊎ ((status ≡ 7) ⊎ (status ≡ 8)))
