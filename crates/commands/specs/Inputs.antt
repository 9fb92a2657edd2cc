-- The files that commands read.
use Rattle.std.specs.Prelude.{◌≡◌, ℕ, Bool, true, not, List, Option, None, Some, option_map, Contains}
use Rattle.dsm_io.specs.States.{FilesState}
use Rattle.command_line.specs.Tasks.{Execution}
use Rattle.command_line.specs.Commands.{Command, Rewrite, Run, Listing, One, Sim, Replay, Generate, Assemble, reads}
use Rattle.judged_files.specs.Inputs.{Inputs, bytes_in}

-- the files that a command reads, each where it reads one: as an executable; as the rewritten
-- executable; as a verified one, whose code is run in place of that by the program's own plan; as a
-- layout; and as a record, or as an assembly text; and whether it asks for code with batches
pub record FileNames : Type 0 where
  pub executable : Option (List ℕ)
  pub code : Option (List ℕ)
  pub verified : Option (List ℕ)
  pub layout : Option (List ℕ)
  pub text : Option (List ℕ)
  pub batches : Bool

abbrev pub no_file : FileNames
no_file = record {
  executable = None;
  code = None;
  verified = None;
  layout = None;
  text = None;
  batches = true;
}

abbrev pub execution_files : Execution → FileNames
execution_files e = record {
  executable = Some e.file;
  code = e.code;
  verified = e.verified;
  layout = e.layout;
  text = None;
  batches = not e.no_batch;
}

abbrev pub file_names : Command → FileNames
file_names (Rewrite a) =
    record no_file { executable = Some a.input; batches = not a.no_batch }
file_names (Run a) = execution_files a.execution
file_names (Listing a) = record no_file { executable = Some a.file }
file_names (One a) = record no_file { executable = Some a.file; layout = a.layout }
file_names (Sim a) = execution_files a.execution
file_names (Replay a) = record no_file {
  executable = Some a.file;
  verified = a.verified;
  text = Some a.record_file;
}
file_names (Generate a) = no_file
file_names (Assemble a) = record no_file { text = Some a.text }

-- what is read of such files, where they have these contents
abbrev pub inputs_in : FileNames → (List ℕ → List ℕ) → Inputs
inputs_in names contents = record {
  executable = bytes_in contents names.executable;
  code = option_map contents names.code;
  verified = option_map contents names.verified;
  layout = option_map contents names.layout;
  text = bytes_in contents names.text;
  batches = names.batches;
}

-- what a command reads
abbrev pub inputs_of : Command → (List ℕ → List ℕ) → Inputs
inputs_of command contents = inputs_in (file_names command) contents

-- each file that the command reads is told to have its content
abbrev pub AreTold : Command → FilesState → (List ℕ → List ℕ) → Type 0
AreTold command files contents =
    (name : List ℕ) → Contains (reads command) name → files.held name ≡ Some (contents name)
