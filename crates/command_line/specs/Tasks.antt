-- The commands that run a program, in one table: of each its word, what stands in its places, and
-- its options.
use Rattle.std.specs.Prelude.{◌≡◌, ℕ, ◌-◌, ◌*◌, ◌^◌, ◌≤◌, Bool, not, ◌&&◌, ◌||◌, IsTrue, List, [], ◌∷◌, ◌++◌, Option, None, Some, is_some, codes}
use Rattle.std.specs.List.{flat_map}

-- what nodes run: so many nodes the rewritten code of the executable in a file, at most so many
-- words of each processor; where they are named, the code is that of the executable in a file, or
-- of a verified one, which may have been rewritten by another plan, and the blocks are those of the
-- layout in a file; a brief text has no counts; the code has no batches where these aren't wanted
pub record Execution : Type 0 where
  pub file : List ℕ
  pub nodes : ℕ
  pub budget : ℕ
  pub code : Option (List ℕ)
  pub verified : Option (List ℕ)
  pub layout : Option (List ℕ)
  pub brief : Bool
  pub no_batch : Bool

-- run nodes, each in a thread of its own; the record of the run goes into a file, where one is
-- named
pub record RunArguments : Type 0 where
  pub execution : Execution
  pub record_file : Option (List ℕ)

-- run so many processors of the original on one memory, by the order of a number, at most so many
-- steps of each, with the blocks of the layout in a file, where one is named
pub record OneArguments : Type 0 where
  pub file : List ℕ
  pub nodes : ℕ
  pub order : ℕ
  pub budget : ℕ
  pub layout : Option (List ℕ)

-- run nodes by the order of a number; where a loss is given, over links that lose packets, by the
-- order of its number; where lanes are, with so many processors on each node
pub record SimArguments : Type 0 where
  pub execution : Execution
  pub order : ℕ
  pub loss : Option ℕ
  pub lanes : Option ℕ

-- make the run of a record once more: a file holds the executable, and another the record; a
-- verified file and the text are as of nodes that run
pub record ReplayArguments : Type 0 where
  pub file : List ℕ
  pub record_file : List ℕ
  pub verified : Option (List ℕ)
  pub brief : Bool

-- a task: a command that runs a program
pub data Task : Type 0 where
  Run : RunArguments → Task
  One : OneArguments → Task
  Sim : SimArguments → Task
  Replay : ReplayArguments → Task

-- what a place or an option says: a number from low to high, which is the default where it is left
-- out; a number, or an address, that may be left out; the name of a file that is read, or of one
-- that is written, where it isn't left out; or whether a flag is there
pub data Saying : Type 0 where
  Number : (low high default number : ℕ) → Saying
  MaybeNumber : (low high : ℕ) (number : Option ℕ) → Saying
  MaybeAddress : (address : Option ℕ) → Saying
  Read : (name : Option (List ℕ)) → Saying
  Write : (name : Option (List ℕ)) → Saying
  Flag : (there : Bool) → Saying

-- a row of the table: the command's word; what its places say; and its options, by their words,
-- with what each says
pub record Row : Type 0 where
  pub word : List ℕ
  pub places : List Saying
  pub options : List (List ℕ × Saying)

-- options that several commands have
abbrev pub nodes_option : ℕ → List ℕ × Saying
nodes_option nodes = (codes "--nodes", Number 1 16 1 nodes)

abbrev pub order_option : ℕ → List ℕ × Saying
order_option order = (codes "--order", Number 0 (2 ^ 32 - 1) 0 order)

abbrev pub budget_option : ℕ → List ℕ × Saying
budget_option budget = (codes "--budget", Number 1 (2 ^ 32) 100000000 budget)

-- the options of nodes that run
abbrev pub execution_options : Execution → List (List ℕ × Saying)
execution_options e =
    nodes_option e.nodes ∷ budget_option e.budget ∷ (codes "--code", Read e.code)
    ∷ (codes "--verify", Read e.verified) ∷ (codes "--layout", Read e.layout)
    ∷ (codes "--brief", Flag e.brief) ∷ (codes "--no-batch", Flag e.no_batch) ∷ []

-- the table
abbrev pub task_row : Task → Row
task_row (Run a) = record {
  word = codes "run";
  places = Read (Some a.execution.file) ∷ [];
  options = (codes "--record", Write a.record_file) ∷ execution_options a.execution;
}
task_row (One a) = record {
  word = codes "one";
  places = Read (Some a.file) ∷ [];
  options = nodes_option a.nodes ∷ order_option a.order ∷ budget_option a.budget
      ∷ (codes "--layout", Read a.layout) ∷ [];
}
task_row (Sim a) = record {
  word = codes "sim";
  places = Read (Some a.execution.file) ∷ [];
  options = order_option a.order ∷ (codes "--loss", MaybeNumber 0 (2 ^ 32 - 1) a.loss)
      ∷ (codes "--per-node", MaybeNumber 2 4 a.lanes) ∷ execution_options a.execution;
}
task_row (Replay a) = record {
  word = codes "replay";
  places = Read (Some a.file) ∷ Read (Some a.record_file) ∷ [];
  options = (codes "--verify", Read a.verified) ∷ (codes "--brief", Flag a.brief) ∷ [];
}

-- only a run of one node may go without the record of it
abbrev pub IsKept : (record_file : Option (List ℕ)) (nodes : ℕ) → Type 0
IsKept None nodes = nodes ≡ 1
IsKept (Some file) nodes = Unit {0}

-- whether there is no verified file; or, beside it, no file of code, and no word that batches
-- aren't wanted
abbrev pub is_alone : (verified code : Option (List ℕ)) (no_batch : Bool) → Bool
is_alone verified code no_batch = not (is_some verified && (is_some code || no_batch))

-- nodes that run have no more of these than they may
abbrev pub IsAlone : Execution → Type 0
IsAlone e = IsTrue (is_alone e.verified e.code e.no_batch)

-- whether nodes may have so many processors each: only over links that lose nothing, and at most 16
-- together
abbrev pub AreFew : (nodes : ℕ) → (loss lanes : Option ℕ) → Type 0
AreFew nodes loss None = Unit {0}
AreFew nodes None (Some lanes) = nodes * lanes ≤ 16
AreFew nodes (Some loss) (Some lanes) = ⊥

-- the command lacks nothing, and has nothing too much
abbrev pub IsFitTask : Task → Type 0
IsFitTask (Run a) = IsKept a.record_file a.execution.nodes × IsAlone a.execution
IsFitTask (Sim a) = IsAlone a.execution × AreFew a.execution.nodes a.loss a.lanes
IsFitTask task = Unit {0}

-- the names of the files that a row reads, and of those that it writes
abbrev pub read_by : Saying → List (List ℕ)
read_by (Read (Some name)) = name ∷ []
read_by saying = []

abbrev pub read_in : Row → List (List ℕ)
read_in row = flat_map read_by row.places ++ flat_map (λ option. read_by option.1) row.options

abbrev pub written_by : Saying → List (List ℕ)
written_by (Write (Some name)) = name ∷ []
written_by saying = []

abbrev pub written_in : Row → List (List ℕ)
written_in row =
    flat_map written_by row.places ++ flat_map (λ option. written_by option.1) row.options
