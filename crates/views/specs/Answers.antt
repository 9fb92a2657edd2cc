-- Why the viewer answers a fault.
use Rattle.std.specs.Prelude.{◌≡◌, ℕ, ◌⊎◌, List, IfSome, Contains, codes}
use Rattle.dsm_io.specs.Causes.{Rose}
use Rattle.dsm_io.specs.States.{FilesState, SinkState}
use Rattle.command_line.specs.Views.{View, Gdb, reads, writes}
use Rattle.judged_files.specs.Failures.{IsTooLong}
use Rattle.judged_files.specs.Text.{cannot_read, too_long}
use Rattle.text_output.specs.Text.{cannot_write, cannot_write_output}
use Rattle.gdb_server.specs.Ends.{Streams}
use Rattle.views.specs.Debugger.{HasShownUpTo}
use Rattle.views.specs.Headline.{AreTold, IsWritten, PrintsPrefix}
use Rattle.views.specs.Trace.{recorded}

-- a file that the view reads couldn't be read, or is too long, and the line says so
abbrev pub IsReadFault : View → FilesState → FilesState → (List ℕ → Type 0) → Type 0
IsReadFault view before now Told =
    (name : List ℕ) × Contains (reads view) name
    × ((Rose (before.failed_reads name) (now.failed_reads name) × Told (cannot_read name))
    ⊎ (IsTooLong before now name × Told (too_long name)))

-- the file that the view writes couldn't be written, though the files that it reads define what it
-- writes, and the line says so
abbrev pub IsWriteFault : View → FilesState → FilesState → (List ℕ → Type 0) → Type 0
IsWriteFault view before now Told =
    ((contents : List ℕ → List ℕ) → AreTold view before contents
    → (bytes : List ℕ) × IsWritten view contents bytes)
    × ((name : List ℕ) × Contains (writes view) name
    × Rose (before.failed_writes name) (now.failed_writes name) × Told (cannot_write name))

-- each file that a view writes holds what it held before, or what the view writes; or it couldn't
-- be written
abbrev pub AreLeft : View → (List ℕ → List ℕ) → (before now : FilesState) → Type 0
AreLeft view contents before now =
    (name : List ℕ) → Contains (writes view) name
    → (now.held name ≡ before.held name)
    ⊎ (IfSome (now.held name) (IsWritten view contents)
    ⊎ Rose (before.failed_writes name) (now.failed_writes name))

-- the output failed where a text that the view asks for was being put
abbrev pub IsPutFault : View → FilesState → SinkState → SinkState → Type 0
IsPutFault view files before now =
    Rose before.faults now.faults
    × ((contents : List ℕ → List ℕ) → AreTold view files contents
    → PrintsPrefix view contents before now)

-- the input failed while a debugger was served
abbrev pub IsSourceFault : View → FilesState → Streams → Type 0
IsSourceFault (Gdb run memory) files io =
    Rose io.input.faults io.input_after.faults
    × ((contents : List ℕ → List ℕ) → AreTold (Gdb run memory) files contents
    → HasShownUpTo (recorded run contents) io)
IsSourceFault view files io = ⊥

-- the line that says that the input couldn't be read
abbrev pub cannot_read_input : List ℕ
cannot_read_input = cannot_read (codes "standard input")

-- why a view answers a fault, and the line that is told: its file failed, and nothing was put; or
-- the output failed; or the input did
abbrev pub IsFault : View → FilesState → FilesState → Streams → (List ℕ → Type 0) → Type 0
IsFault view before now io Told =
    ((io.output_after.taken ≡ io.output.taken)
    × (IsReadFault view before now Told ⊎ IsWriteFault view before now Told))
    ⊎ ((IsPutFault view before io.output io.output_after × Told cannot_write_output)
    ⊎ (IsSourceFault view before io × Told cannot_read_input))

-- the status of a refusal: of an executable, of the layout of a record, or of a record
abbrev pub IsRefusalStatus : ℕ → Type 0
IsRefusalStatus status = (status ≡ 4) ⊎ ((status ≡ 6) ⊎ (status ≡ 7))
