-- A run by a clock, as a text: what it computes, and what its nodes spend their time on.
use Rattle.std.specs.Prelude.{◌≡◌, ℕ, ◌+◌, not, List, [], ◌∷◌, ◌++◌, None, option_map, All, codes}
use Rattle.std.specs.Fmt.{decimal}
use Rattle.node_model.specs.Node.{Work}
use Rattle.node_model.specs.Outcome.{Outcome}
use Rattle.run_order.specs.OwnRun.{Stamped}
use Rattle.elf32_read.specs.Elf.{Elf}
use Rattle.templates.specs.declared.plans.PlanEntry.{PlanEntry}
use Rattle.timed_sim.specs.declared.costs.Costs.{Costs}
use Rattle.timed_sim.specs.declared.costs.Spent.{Spent}
use Rattle.timed_sim.specs.Clock.{IsOutcomeByClock, clock_of}
use Rattle.dsm_io.specs.Causes.{Appends}
use Rattle.dsm_io.specs.States.{SinkState}
use Rattle.command_line.specs.Views.{TimeArguments}
use Rattle.judged_files.specs.Inputs.{Inputs}
use Rattle.prepared_run.specs.Interleaved.{IsLaidOutBy, TellsOfOriginal, least_steps}
use Rattle.prepared_run.specs.Outcomes.{text_of}
use Rattle.prepared_run.specs.Ready.{IsAskedWork}
use Rattle.prepared_run.specs.WholeRuns.{IsRunOf}

-- what a node has spent its time on, in words
abbrev pub spent_text : Spent → List ℕ
spent_text s =
    codes " words " ++ (decimal s.words ++ (codes " waits-to-read " ++ (decimal s.to_read
    ++ (codes " waits-to-write " ++ (decimal s.to_write ++ (codes " handling "
    ++ (decimal s.handling ++ (codes " idle " ++ decimal s.idle))))))))

-- a line for each node, from this number on: the time of the run, and what the node spent it on
abbrev pub spent_lines : ℕ → (time : ℕ) → List Spent → List ℕ
spent_lines i time [] = []
spent_lines i time (s ∷ ss) =
    codes "node " ++ (decimal i ++ (codes " time " ++ (decimal time ++ (spent_text s
    ++ (codes "\n" ++ spent_lines (i + 1) time ss)))))

-- the lines of the nodes, the steps of all processors of the original, and the time of the run
abbrev pub time_text : List Spent → (steps time : ℕ) → List ℕ
time_text spent steps time =
    spent_lines 0 time spent ++ (codes "steps " ++ (decimal steps ++ (codes "\ntime "
    ++ (decimal time ++ codes "\n"))))

-- what `time` reads, where files have these contents, and what messages cost
abbrev pub timed : TimeArguments → (List ℕ → List ℕ) → Inputs
timed a contents = record {
  executable = contents a.file;
  code = None;
  verified = option_map contents a.verified;
  layout = option_map contents a.layout;
  text = [];
  batches = not a.no_batch;
}

abbrev pub costs_of : TimeArguments → Costs
costs_of a = record { latency = a.latency; line = a.line; handling = a.handling }

-- The text of a run by a clock: that of its outcome, as `sim` puts the one of a run by an order;
-- after it what the nodes have spent their time on, which adds up to the time of the run, and how
-- many steps of the original the run makes, by the plan of the rewriting that was asked for.
pub record IsTimeText (inputs : Inputs) (nodes budget : ℕ) (costs : Costs) (text : List ℕ) : Type 0
  where
    pub elf : Elf
    pub plan : List PlanEntry
    pub work : Work
    pub asked : IsAskedWork inputs nodes budget elf plan work
    pub own : List Stamped
    pub outcome : Outcome
    pub is_run : IsRunOf inputs nodes budget work own outcome
    pub spent : List Spent
    pub time : ℕ
    pub steps : ℕ
    pub by_clock : IsOutcomeByClock work plan costs outcome spent time steps
    pub sums : All (λ s. clock_of s ≡ time) spent
    pub text_is : text ≡ text_of outcome ++ time_text spent steps time

-- The whole of such a text was put. The text of the outcome tells of the original alone: of a run
-- of its processors on one memory, interleaved instruction by instruction, where one without an
-- exit has made at least a step for each 40 words of the budget.
pub record PrintsTime (a : TimeArguments) (contents : List ℕ → List ℕ) (before now : SinkState)
    : Type 0
  where
    pub text : List ℕ
    pub is : IsTimeText (timed a contents) a.nodes a.budget (costs_of a) text
    pub tells : TellsOfOriginal (contents a.file)
        (IsLaidOutBy (option_map contents a.layout) a.nodes) a.nodes a.budget
        (least_steps None a.budget) (text_of is.outcome)
    pub put : Appends before.taken now.taken text
