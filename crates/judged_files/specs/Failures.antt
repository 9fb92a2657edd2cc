-- Why a file isn't read, and what is read of one.
use Rattle.std.specs.Prelude.{◌≡◌, ℕ, ◌<◌, ◌≤◌, ◌⊎◌, List, [], length, Option, None, Some, IfSome, MatchOption}
use Rattle.dsm_io.specs.Causes.{Rose}
use Rattle.dsm_io.specs.States.{FilesState}
use Rattle.text_output.specs.declared.failure.Failure.{Failure}
use Rattle.text_output.specs.declared.failure.Failure.TheVariants.{Input, NotWritten, Refused, Layout, Record, Text, Output, OutOfMemory}
use Rattle.judged_files.specs.Text.{cannot_read, too_long}

-- the longest file that is read, in bytes
abbrev pub file_limit : ℕ
file_limit = 33554432

-- the file is longer than the limit; where its content isn't told, a read of it failed
abbrev pub IsTooLong : FilesState → FilesState → List ℕ → Type 0
IsTooLong before now name =
    MatchOption (before.held name) (Rose (before.failed_reads name) (now.failed_reads name))
    (λ file. file_limit < length file)

-- why a file wasn't read
abbrev pub IsReadFailure : FilesState → FilesState → List ℕ → Failure → Type 0
IsReadFailure before now name (Input line) =
    (Rose (before.failed_reads name) (now.failed_reads name) × (line.items ≡ cannot_read name))
    ⊎ (IsTooLong before now name × (line.items ≡ too_long name))
IsReadFailure before now name (NotWritten line) = ⊥
IsReadFailure before now name (Refused line) = ⊥
IsReadFailure before now name (Layout line) = ⊥
IsReadFailure before now name (Record line) = ⊥
IsReadFailure before now name (Text line) = ⊥
IsReadFailure before now name Output = ⊥
IsReadFailure before now name OutOfMemory = Unit {0}

-- the bytes are those that a name is told to hold, and no more than a file may have
pub record IsContent (held : Option (List ℕ)) (bytes : List ℕ) : Type 0 where
  pub same : IfSome held (λ content. bytes ≡ content)
  pub fits : length bytes ≤ file_limit

-- likewise where a name may be left out
abbrev pub AreContents : FilesState → Option (List ℕ) → Option (List ℕ) → Type 0
AreContents files None bytes = bytes ≡ None
AreContents files (Some name) None = ⊥
AreContents files (Some name) (Some bytes) = IsContent (files.held name) bytes

-- likewise where the bytes are none without a name
abbrev pub AreBytes : FilesState → Option (List ℕ) → List ℕ → Type 0
AreBytes files None bytes = bytes ≡ []
AreBytes files (Some name) bytes = IsContent (files.held name) bytes

-- a file that is named wasn't read
abbrev pub IsNamedFailure : FilesState → FilesState → Option (List ℕ) → Failure → Type 0
IsNamedFailure before now named f =
    (name : List ℕ) × (named ≡ Some name) × IsReadFailure before now name f
