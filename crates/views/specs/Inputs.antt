-- Helps the code alone: the files that views read.
use Rattle.std.specs.Prelude.{◌≡◌, ℕ, Bool, true, not, List, [], ◌∷◌, ◌++◌, Option, None, Some, option_map, Contains}
use Rattle.dsm_io.specs.States.{FilesState}
use Rattle.command_line.specs.Meaning.{file_name}
use Rattle.command_line.specs.Views.{CodeArguments, RecordedFiles, TimeArguments}
use Rattle.text_output.specs.declared.failure.Failure.{Failure}
use Rattle.judged_files.specs.Failures.{AreBytes, AreContents, IsContent, IsReadFailure}
use Rattle.judged_files.specs.Inputs.{Inputs, bytes_in}
use Rattle.views.specs.declared.input.FileNames.{FileNames as OfCode}

-- the files that a view reads, each where it reads one: as an executable; as a record; as a verified
-- executable; and as a layout; and whether it asks for code with batches
pub record FileNames : Type 0 where
  pub executable : List ℕ
  pub text : Option (List ℕ)
  pub verified : Option (List ℕ)
  pub layout : Option (List ℕ)
  pub batches : Bool

-- the files that a view of the code reads
abbrev pub names_of : OfCode → FileNames
names_of names = record {
  executable = names.executable.now;
  text = file_name names.text;
  verified = file_name names.verified;
  layout = file_name names.layout;
  batches = names.batches;
}

abbrev pub code_files : CodeArguments → FileNames
code_files a = record {
  executable = a.file;
  text = None;
  verified = a.verified;
  layout = None;
  batches = not a.no_batch;
}

abbrev pub run_files : RecordedFiles → FileNames
run_files run = record {
  executable = run.file;
  text = Some run.record_file;
  verified = run.verified;
  layout = None;
  batches = true;
}

abbrev pub time_files : TimeArguments → FileNames
time_files a = record {
  executable = a.file;
  text = None;
  verified = a.verified;
  layout = a.layout;
  batches = not a.no_batch;
}

-- the file of a name that may be left out
abbrev pub named : Option (List ℕ) → List (List ℕ)
named None = []
named (Some name) = name ∷ []

abbrev pub list_of : FileNames → List (List ℕ)
list_of names =
    (names.executable ∷ []) ++ (named names.text ++ (named names.verified ++ named names.layout))

-- the inputs are what such files are told to hold
pub record AreInputs (files : FilesState) (names : FileNames) (inputs : Inputs) : Type 0 where
  pub executable : IsContent (files.held names.executable) inputs.executable
  pub code : inputs.code ≡ None
  pub verified : AreContents files names.verified inputs.verified
  pub layout : AreContents files names.layout inputs.layout
  pub text : AreBytes files names.text inputs.text
  pub batches : inputs.batches ≡ names.batches

-- one of the files wasn't read
abbrev pub IsInputFailure : FileNames → FilesState → FilesState → Failure → Type 0
IsInputFailure names before now f =
    (name : List ℕ) × Contains (list_of names) name × IsReadFailure before now name f

-- what is read of such files, where they have these contents
abbrev pub inputs_in : FileNames → (List ℕ → List ℕ) → Inputs
inputs_in names contents = record {
  executable = contents names.executable;
  code = None;
  verified = option_map contents names.verified;
  layout = option_map contents names.layout;
  text = bytes_in contents names.text;
  batches = names.batches;
}
