-- What the program promises of each command.
use Rattle.std.specs.Prelude.{◌≡◌, ℕ, ◌^◌, Bool, false, List, [], Option, None, Some, IfSome, filter}
use Rattle.std.specs.List.{flat_map, range_with_len}
use Rattle.elf32_read.specs.Elf.{Elf}
use Rattle.exec_map.specs.Contents.{program_of, is_code_word, word_of}
use Rattle.rv32_text.specs.Listing.{line_of}
use Rattle.templates.specs.declared.plans.PlanEntry.{PlanEntry}
use Rattle.templates.specs.WholePlan.{IsPlanOf}
use Rattle.jump_map.specs.Image.{Cell, IsRewriting}
use Rattle.elf32_write.specs.Layout.{file_of}
use Rattle.rewriter.specs.RewrittenFile.{rewritten_elf}
use Rattle.node_model.specs.Node.{Work}
use Rattle.node_model.specs.Core.{Event, IsOver, opening_core, after}
use Rattle.node_model.specs.Outcome.{Outcome}
use Rattle.run_order.specs.OwnRun.{Stamped, StandsForOwnRun}
use Rattle.run_record.specs.Text.{record_text}
use Rattle.shared_sim.specs.ByOrder.{FollowsOrder}
use Rattle.lane_model.specs.Nodes.{LaneWork}
use Rattle.lane_model.specs.Core.{LaneEvent, opening_core as opening_lanes}
use Rattle.smp_sim.specs.ByOrder.{FollowsOrder as FollowsOrderOnLanes}
use Rattle.lossy_sim.specs.UnderWay.{StandFor}
use Rattle.lossy_sim.specs.WithLoss.{State, Turn, AreAllOver, FollowsLoss, opening_state, ordinary}
use Rattle.block_layout.specs.Layout.{Shape}
use Rattle.one_memory.specs.ByOrder.{IsRunByOrder}
use Rattle.workload.specs.Generated.{generated_elf}
use Rattle.rv32_asm.specs.Assembling.{IsAssembled}
use Rattle.command_line.specs.Tasks.{SimArguments}
use Rattle.command_line.specs.Commands.{Command, Rewrite, Run, Listing, One, Sim, Replay, Generate, Assemble}
use Rattle.dsm_io.specs.Causes.{Appends, AppendsPrefix}
use Rattle.dsm_io.specs.States.{FilesState, SinkState}
use Rattle.judged_files.specs.Executables.{IsProgramOf}
use Rattle.judged_files.specs.Inputs.{Inputs}
use Rattle.commands.specs.Inputs.{inputs_of}
use Rattle.judged_files.specs.Layouts.{IsLayoutOfExecutable}
use Rattle.commands.specs.LaneRuns.{IsLaneRunOf}
use Rattle.prepared_run.specs.Outcomes.{status_of, told, text_of}
use Rattle.commands.specs.Records.{record_of}
use Rattle.prepared_run.specs.Replays.{IsOutcomeOfReplay}
use Rattle.prepared_run.specs.WholeRuns.{IsRunOf}

-- the bytes are the record of some such run
pub record IsRecordOfRun (inputs : Inputs) (nodes budget : ℕ) (bytes : List ℕ) : Type 0 where
  pub work : Work
  pub own : List Stamped
  pub outcome : Outcome
  pub is_run : IsRunOf inputs nodes budget work own outcome
  pub bytes_are : bytes ≡ record_text (record_of inputs.batches work own)

-- The outcome of some such run, of which this is the record, where the bytes of one are told: one
-- and the same run has this outcome, and was recorded.
pub record IsOutcomeRecorded (inputs : Inputs) (nodes budget : ℕ) (recorded : Option (List ℕ))
    (outcome : Outcome) : Type 0 where
  pub work : Work
  pub own : List Stamped
  pub is_run : IsRunOf inputs nodes budget work own outcome
  pub is_recorded : IfSome recorded
      (λ bytes. bytes ≡ record_text (record_of inputs.batches work own))

-- The outcome of the run by the order of a number: at each turn it picks one of the events that are
-- allowed, until each node is over. The core that these events lead to stands for its own run,
-- whose outcome this is.
pub record IsOutcomeOfLosslessSim (inputs : Inputs) (nodes order budget : ℕ) (outcome : Outcome)
    : Type 0
  where
    pub work : Work
    pub own : List Stamped
    pub is_run : IsRunOf inputs nodes budget work own outcome
    pub events : List Event
    pub ordered : FollowsOrder work order (opening_core work) events
    pub over : IsOver work (after work (opening_core work) events)
    pub stands : StandsForOwnRun work (after work (opening_core work) events) own

-- The outcome of the run by the order of a number over links that lose packets, by the order of a
-- loss: of the turns of nodes and network that the rule gives until each node is over. The nodes'
-- events lead to a core of which these are the nodes, with what is under way on the links, and
-- which stands for its own run, whose outcome this is.
pub record IsOutcomeOfLossySim (inputs : Inputs) (nodes order budget loss : ℕ) (outcome : Outcome)
    : Type 0
  where
    pub work : Work
    pub own : List Stamped
    pub is_run : IsRunOf inputs nodes budget work own outcome
    pub turns : List Turn
    pub last : State
    pub follows : FollowsLoss work 1 (opening_state work order loss) turns last
    pub over : AreAllOver work last
    pub stand : StandFor work.layout.nodes last.nodes last.links
        (after work (opening_core work) (ordinary turns))
    pub stands : StandsForOwnRun work (after work (opening_core work) (ordinary turns)) own

-- The outcome of the run by the order of a number on nodes of so many processors each: at each turn
-- it picks one of the events that are allowed, until each node is over.
pub record IsOutcomeOfLaneSim (inputs : Inputs) (nodes lanes order budget : ℕ) (outcome : Outcome)
    : Type 0
  where
    pub work : LaneWork
    pub events : List LaneEvent
    pub is_run : IsLaneRunOf inputs nodes lanes budget work events outcome
    pub ordered : FollowsOrderOnLanes work order (opening_lanes work) events

-- by the links and the processors of a node that are asked for
abbrev pub IsOutcomeOfSim : Inputs → (nodes order budget : ℕ) → (lanes loss : Option ℕ) → Outcome
    → Type 0
IsOutcomeOfSim inputs nodes order budget None None outcome =
    IsOutcomeOfLosslessSim inputs nodes order budget outcome
IsOutcomeOfSim inputs nodes order budget None (Some loss) outcome =
    IsOutcomeOfLossySim inputs nodes order budget loss outcome
IsOutcomeOfSim inputs nodes order budget (Some lanes) loss outcome =
    IsOutcomeOfLaneSim inputs nodes lanes order budget outcome

-- the outcome of the original's processors on one memory, by the order of a number, with the blocks
-- of the layout; no node counts anything
pub record IsOutcomeByOrder (inputs : Inputs) (nodes order budget : ℕ) (outcome : Outcome) : Type 0
  where
    pub elf : Elf
    pub executable : IsProgramOf inputs.executable elf
    pub layout : Shape
    pub laid_out : IsLayoutOfExecutable elf inputs.layout nodes layout
    pub ordered : IsRunByOrder (record { program = program_of elf; layout = layout; nodes = nodes })
        budget order outcome.output outcome.ends
    pub counts : outcome.counts ≡ []

-- the lines of the code words below an address, ascending
unfoldable pub listing_below : Elf → ℕ → List ℕ
listing_below elf n =
    flat_map (λ a. line_of a (word_of elf a)) (filter (is_code_word elf) (range_with_len 0 n))

-- the lines of all code words
abbrev pub listing : Elf → List ℕ
listing elf = listing_below elf (2 ^ 32)

-- the listing of the executable in a file
pub record IsListingOf (file text : List ℕ) : Type 0 where
  pub elf : Elf
  pub executable : IsProgramOf file elf
  pub lines : text ≡ listing elf

abbrev pub IsListingText : List ℕ → List ℕ → ℕ → Type 0
IsListingText file text status = IsListingOf file text × (status ≡ 0)

-- the bytes are the file of the rewritten program of the executable in a file, with batches or
-- without
pub record IsRewrittenFile (batches : Bool) (file bytes : List ℕ) : Type 0 where
  pub elf : Elf
  pub executable : IsProgramOf file elf
  pub plan : List PlanEntry
  pub the_plan : IsPlanOf batches (program_of elf).code plan
  pub image : List Cell
  pub rewriting : IsRewriting (program_of elf) plan image
  pub bytes_are : bytes ≡ file_of (rewritten_elf elf image plan)

-- nothing is printed beside the file
pub record IsRewrittenText (batches : Bool) (file text : List ℕ) (status : ℕ) : Type 0 where
  pub bytes : List ℕ
  pub is : IsRewrittenFile batches file bytes
  pub text_is : text ≡ []
  pub status_is : status ≡ 0

-- the bytes are the file of the executable of an assembly text
pub record IsAssembledFile (text bytes : List ℕ) : Type 0 where
  pub elf : Elf
  pub assembled : IsAssembled text elf
  pub bytes_are : bytes ≡ file_of elf

-- nothing is printed beside that file
pub record IsAssembledText (assembly text : List ℕ) (status : ℕ) : Type 0 where
  pub bytes : List ℕ
  pub is : IsAssembledFile assembly bytes
  pub text_is : text ≡ []
  pub status_is : status ≡ 0

-- nothing is printed
abbrev pub IsNoText : List ℕ → ℕ → Type 0
IsNoText text status = (text ≡ []) × (status ≡ 0)

-- the text of an outcome with these facts, which may be brief, and its status
pub record IsTextWith (Is : Outcome → Type 0) (brief : Bool) (text : List ℕ) (status : ℕ) : Type 0
  where
    pub outcome : Outcome
    pub is : Is outcome
    pub text_is : text ≡ text_of (told brief outcome)
    pub status_is : status ≡ status_of outcome

-- the text of such a run by an order
abbrev pub IsTextOfSim : SimArguments → Inputs → List ℕ → ℕ → Type 0
IsTextOfSim a inputs =
    IsTextWith (IsOutcomeOfSim inputs a.execution.nodes a.order a.execution.budget a.lanes a.loss)
    a.execution.brief

-- what a file that may be left out holds, where it is named and that is told
abbrev pub held_by : FilesState → Option (List ℕ) → Option (List ℕ)
held_by files None = None
held_by files (Some name) = files.held name

-- the text that a command asks for, where it reads these files, and the status, beside what the
-- files hold then: of a run that is recorded, the text is of the run whose record the file holds
abbrev pub IsText : Command → FilesState → Inputs → List ℕ → ℕ → Type 0
IsText (Rewrite a) files inputs text status =
    IsRewrittenText inputs.batches inputs.executable text status
IsText (Run a) files inputs text status =
    IsTextWith (IsOutcomeRecorded inputs a.execution.nodes a.execution.budget
    (held_by files a.record_file)) a.execution.brief text status
IsText (One a) files inputs text status =
    IsTextWith (IsOutcomeByOrder inputs a.nodes a.order a.budget) false text status
IsText (Sim a) files inputs text status = IsTextOfSim a inputs text status
IsText (Listing a) files inputs text status = IsListingText inputs.executable text status
IsText (Replay a) files inputs text status =
    IsTextWith (IsOutcomeOfReplay inputs) a.brief text status
IsText (Generate a) files inputs text status = IsNoText text status
IsText (Assemble a) files inputs text status = IsAssembledText inputs.text text status

-- the whole text was put, and the files hold what goes with it
pub record Prints (command : Command) (contents : List ℕ → List ℕ)
    (files : FilesState) (before now : SinkState) (status : ℕ) : Type 0 where
  pub text : List ℕ
  pub is : IsText command files (inputs_of command contents) text status
  pub put : Appends before.taken now.taken text

-- a prefix of the text was put, and the files hold what goes with the text
pub record PrintsPrefix (command : Command) (contents : List ℕ → List ℕ)
    (files : FilesState) (before now : SinkState) : Type 0 where
  pub text : List ℕ
  pub status : ℕ
  pub is : IsText command files (inputs_of command contents) text status
  pub put : AppendsPrefix before.taken now.taken text

-- the bytes that a command writes into its file
abbrev pub IsWritten : Command → Inputs → List ℕ → Type 0
IsWritten (Rewrite a) inputs bytes =
    IsRewrittenFile inputs.batches inputs.executable bytes
IsWritten (Run a) inputs bytes =
    IsRecordOfRun inputs a.execution.nodes a.execution.budget bytes
IsWritten (Generate a) inputs bytes = bytes ≡ file_of (generated_elf a.number)
IsWritten (Assemble a) inputs bytes = IsAssembledFile inputs.text bytes
IsWritten command inputs bytes = ⊥
