-- The views of the viewer, in a table of their own, and what it is that the words ask for a view.
use Rattle.std.specs.Prelude.{ℕ, ◌-◌, ◌^◌, Bool, IsTrue, List, [], ◌∷◌, codes, Option, None, Some, is_some, not, ◌&&◌}
use Rattle.command_line.specs.declared.view.View.{View as OfCode}
use Rattle.command_line.specs.declared.view.View.TheVariants as asked
use Rattle.command_line.specs.declared.view.CodeArguments.{CodeArguments as CodeOfCode}
use Rattle.command_line.specs.declared.view.RecordedFiles.{RecordedFiles as RecordedOfCode}
use Rattle.command_line.specs.declared.view.TimeArguments.{TimeArguments as TimeOfCode}
use Rattle.command_line.specs.Tasks.{Row, Saying, Number, MaybeNumber, MaybeAddress, Read, Write, Flag, budget_option, is_alone, nodes_option, read_in, written_in}
use Rattle.command_line.specs.Asks.{AreOfRow}
use Rattle.command_line.specs.Meaning.{file_name}

-- whose code is shown: the rewritten code of the executable in a file, or that of a verified one,
-- which may have been rewritten by another plan, where one is named; the code has no batches where
-- these aren't wanted
pub record CodeArguments : Type 0 where
  pub file : List ℕ
  pub verified : Option (List ℕ)
  pub no_batch : Bool

-- the files of a recorded run: one holds the executable, and another the record; where a verified
-- one is named, the code is that of it
pub record RecordedFiles : Type 0 where
  pub file : List ℕ
  pub record_file : List ℕ
  pub verified : Option (List ℕ)

-- what a run by a clock is of: so many nodes the rewritten code of the executable in a file, at most
-- so many words of each processor; where they are named, the code is that of a verified file, and
-- the blocks are those of the layout in a file; the code has no batches where these aren't wanted;
-- and what messages cost, in the time of one word: to be on their way, for each line of bytes, and
-- to be taken
pub record TimeArguments : Type 0 where
  pub file : List ℕ
  pub nodes : ℕ
  pub budget : ℕ
  pub verified : Option (List ℕ)
  pub layout : Option (List ℕ)
  pub no_batch : Bool
  pub latency : ℕ
  pub line : ℕ
  pub handling : ℕ

pub data View : Type 0 where
  -- tell how the viewer is called
  Help : View
  -- show rewritten code
  Code : CodeArguments → View
  -- show the events of a recorded run, in a line each: of those that have such stamps, are about
  -- the block that has the byte at an address, and are of a node, where these are given
  Trace : (run : RecordedFiles) (from to block node : Option ℕ) → View
  -- show what each block cost in a recorded run
  Blocks : (run : RecordedFiles) → View
  -- write a page that draws a recorded run, of events that have such stamps, where these are given
  Page : (run : RecordedFiles) (output : List ℕ) (from to : Option ℕ) → View
  -- run nodes by a clock, and show what they spend their time on
  Time : TimeArguments → View
  -- show what checks cost in rewritten code; or, where a record is named, in its run
  Cost : (arguments : CodeArguments) (record_file : Option (List ℕ)) → View
  -- run by a clock 1 node, 2, 4 and so on to the most, and write a page of their speed-up
  Speedup : (a : TimeArguments) (output : List ℕ) → View
  -- show a recorded run to GDB, on one memory; checkpoints of it take at most so many megabytes
  Gdb : (run : RecordedFiles) (memory : ℕ) → View

-- options that several views have
abbrev pub verify_option : Option (List ℕ) → List ℕ × Saying
verify_option name = (codes "--verify", Read name)

abbrev pub from_option : Option ℕ → List ℕ × Saying
from_option stamp = (codes "--from", MaybeNumber 0 (2 ^ 56 - 1) stamp)

abbrev pub to_option : Option ℕ → List ℕ × Saying
to_option stamp = (codes "--to", MaybeNumber 0 (2 ^ 56 - 1) stamp)

-- the most nodes of several runs
abbrev pub most_nodes_option : ℕ → List ℕ × Saying
most_nodes_option nodes = (codes "--nodes", Number 1 16 16 nodes)

-- the options of a run by a clock beside that of its nodes
abbrev pub time_options : TimeArguments → List (List ℕ × Saying)
time_options a =
    budget_option a.budget ∷ verify_option a.verified ∷ (codes "--layout", Read a.layout)
    ∷ (codes "--no-batch", Flag a.no_batch)
    ∷ (codes "--latency", Number 0 1000000 1200 a.latency)
    ∷ (codes "--line", Number 0 1000000 300 a.line)
    ∷ (codes "--handling", Number 0 1000000 300 a.handling) ∷ []

-- the options of code that is shown
abbrev pub code_options : CodeArguments → List (List ℕ × Saying)
code_options a = verify_option a.verified ∷ (codes "--no-batch", Flag a.no_batch) ∷ []

-- the place of a file that is read, where one is named
abbrev pub place_of : Option (List ℕ) → List Saying
place_of None = []
place_of (Some name) = Read (Some name) ∷ []

-- the table
abbrev pub view_row : View → Row
view_row Help = record { word = codes "--help"; places = []; options = [] }
view_row (Code a) = record {
  word = codes "code";
  places = Read (Some a.file) ∷ [];
  options = code_options a;
}
view_row (Trace run from to block node) = record {
  word = codes "trace";
  places = Read (Some run.file) ∷ Read (Some run.record_file) ∷ [];
  options =
      verify_option run.verified ∷ from_option from ∷ to_option to
      ∷ (codes "--block", MaybeAddress block) ∷ (codes "--node", MaybeNumber 0 15 node) ∷ [];
}
view_row (Blocks run) = record {
  word = codes "blocks";
  places = Read (Some run.file) ∷ Read (Some run.record_file) ∷ [];
  options = verify_option run.verified ∷ [];
}
view_row (Page run output from to) = record {
  word = codes "page";
  places = Read (Some run.file) ∷ Read (Some run.record_file) ∷ Write (Some output) ∷ [];
  options = verify_option run.verified ∷ from_option from ∷ to_option to ∷ [];
}
view_row (Time a) = record {
  word = codes "time";
  places = Read (Some a.file) ∷ [];
  options = nodes_option a.nodes ∷ time_options a;
}
view_row (Cost arguments record_file) = record {
  word = codes "cost";
  places = Read (Some arguments.file) ∷ place_of record_file;
  options = code_options arguments;
}
view_row (Speedup a output) = record {
  word = codes "speedup";
  places = Read (Some a.file) ∷ Write (Some output) ∷ [];
  options = most_nodes_option a.nodes ∷ time_options a;
}
view_row (Gdb run memory) = record {
  word = codes "gdb";
  places = Read (Some run.file) ∷ Read (Some run.record_file) ∷ [];
  options = verify_option run.verified ∷ (codes "--memory", Number 0 1000000 300 memory) ∷ [];
}

-- a view has nothing too much: beside a verified file, or a record, no word that batches aren't
-- wanted
abbrev pub IsFitView : View → Type 0
IsFitView (Code a) = IsTrue (is_alone a.verified None a.no_batch)
IsFitView (Time a) = IsTrue (is_alone a.verified None a.no_batch)
IsFitView (Cost arguments record_file) =
    IsTrue (is_alone arguments.verified None arguments.no_batch)
    × IsTrue (not (is_some record_file && arguments.no_batch))
IsFitView (Speedup a output) = IsTrue (is_alone a.verified None a.no_batch)
IsFitView view = Unit {0}

-- the names of the files that a view reads, and of those that it writes
abbrev pub reads : View → List (List ℕ)
reads view = read_in (view_row view)

abbrev pub writes : View → List (List ℕ)
writes view = written_in (view_row view)

-- the words are of the view's row, and the view has nothing too much
pub record AsksView (words : List (List ℕ)) (view : View) : Type 0 where
  pub of_row : AreOfRow (view_row view) words
  pub fits : IsFitView view

-- the view of the code, as the definitions have it
abbrev pub code_of : CodeOfCode → CodeArguments
code_of a = record { file = a.file.now; verified = file_name a.verified; no_batch = a.no_batch }

abbrev pub recorded_of : RecordedOfCode → RecordedFiles
recorded_of run = record {
  file = run.file.now;
  record_file = run.record_file.now;
  verified = file_name run.verified;
}

abbrev pub time_of : TimeOfCode → TimeArguments
time_of a = record {
  file = a.file.now;
  nodes = a.nodes;
  budget = a.budget;
  verified = file_name a.verified;
  layout = file_name a.layout;
  no_batch = a.no_batch;
  latency = a.latency;
  line = a.line;
  handling = a.handling;
}

abbrev pub meaning_of_view : OfCode → View
meaning_of_view asked.Help = Help
meaning_of_view (asked.Code a) = Code (code_of a)
meaning_of_view (asked.Trace run from to block node) =
    Trace (recorded_of run) from to block node
meaning_of_view (asked.Blocks run) = Blocks (recorded_of run)
meaning_of_view (asked.Page run output from to) = Page (recorded_of run) output.now from to
meaning_of_view (asked.Time a) = Time (time_of a)
meaning_of_view (asked.Cost arguments record_file) =
    Cost (code_of arguments) (file_name record_file)
meaning_of_view (asked.Speedup arguments output) = Speedup (time_of arguments) output.now
meaning_of_view (asked.Gdb run memory) = Gdb (recorded_of run) memory
