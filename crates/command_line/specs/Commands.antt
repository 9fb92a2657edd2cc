-- The commands of the program, in one table.
use Rattle.std.specs.Prelude.{ℕ, ◌-◌, ◌^◌, Bool, List, [], ◌∷◌, Some, codes}
use Rattle.command_line.specs.Tasks.{RunArguments, OneArguments, SimArguments, ReplayArguments, IsFitTask, Row, Number, Read, Write, Flag, task_row, read_in, written_in}
use Rattle.command_line.specs.Tasks as task

-- write the rewritten executable of the one in a file into another, without batches where these are
-- not wanted
pub record RewriteArguments : Type 0 where
  pub input : List ℕ
  pub output : List ℕ
  pub no_batch : Bool

-- list the code words of the executable in a file
pub record ListArguments : Type 0 where
  pub file : List ℕ

-- write the executable that a number makes into a file
pub record GenerateArguments : Type 0 where
  pub number : ℕ
  pub output : List ℕ

-- write the executable of the assembly text in a file into another
pub record AssembleArguments : Type 0 where
  pub text : List ℕ
  pub output : List ℕ

pub data Command : Type 0 where
  Rewrite : RewriteArguments → Command
  Run : RunArguments → Command
  Listing : ListArguments → Command
  One : OneArguments → Command
  Sim : SimArguments → Command
  Replay : ReplayArguments → Command
  Generate : GenerateArguments → Command
  Assemble : AssembleArguments → Command

-- a command that runs a program is one of the commands
abbrev pub as_command : task.Task → Command
as_command (task.Run a) = Run a
as_command (task.One a) = One a
as_command (task.Sim a) = Sim a
as_command (task.Replay a) = Replay a

-- the table
abbrev pub row_of : Command → Row
row_of (Rewrite a) = record {
  word = codes "rewrite";
  places = Read (Some a.input) ∷ Write (Some a.output) ∷ [];
  options = (codes "--no-batch", Flag a.no_batch) ∷ [];
}
row_of (Run a) = task_row (task.Run a)
row_of (Listing a) = record {
  word = codes "list";
  places = Read (Some a.file) ∷ [];
  options = [];
}
row_of (One a) = task_row (task.One a)
row_of (Sim a) = task_row (task.Sim a)
row_of (Replay a) = task_row (task.Replay a)
row_of (Generate a) = record {
  word = codes "gen";
  places = Number 0 (2 ^ 32 - 1) 0 a.number ∷ Write (Some a.output) ∷ [];
  options = [];
}
row_of (Assemble a) = record {
  word = codes "asm";
  places = Read (Some a.text) ∷ Write (Some a.output) ∷ [];
  options = [];
}

-- a command lacks nothing, and has nothing too much
abbrev pub IsFit : Command → Type 0
IsFit (Run a) = IsFitTask (task.Run a)
IsFit (Sim a) = IsFitTask (task.Sim a)
IsFit command = Unit {0}

-- the names of the files that a command reads, and of those that it writes
abbrev pub reads : Command → List (List ℕ)
reads command = read_in (row_of command)

abbrev pub writes : Command → List (List ℕ)
writes command = written_in (row_of command)
