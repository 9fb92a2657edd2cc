-- The speed-up of a program: runs by a clock on more and more nodes, and the page of them.
use Rattle.std.specs.Prelude.{◌≡◌, ℕ, nat_lt, Bool, true, false, List, [], ◌∷◌, ◌++◌, filter, Option, None, Some, is_some, All, Contains}
use Rattle.std.specs.List.{list_any}
use Rattle.elf32_read.specs.Elf.{Elf}
use Rattle.rv32_program.specs.declared.Exit.TheVariants as exit
use Rattle.rv32_program.specs.declared.End.{End}
use Rattle.rv32_program.specs.declared.End.TheVariants.{Exited, Stopped}
use Rattle.templates.specs.declared.plans.PlanEntry.{PlanEntry}
use Rattle.node_model.specs.Node.{Work}
use Rattle.node_model.specs.Outcome.{Outcome}
use Rattle.run_order.specs.OwnRun.{Stamped}
use Rattle.lone_run.specs.Lone.{IsLoneRun, alone}
use Rattle.timed_sim.specs.declared.costs.Costs.{Costs}
use Rattle.timed_sim.specs.declared.costs.Spent.{Spent}
use Rattle.timed_sim.specs.Clock.{IsOutcomeByClock, clock_of, total_spent}
use Rattle.speedup_page.specs.declared.page.Parameters.{Parameters}
use Rattle.speedup_page.specs.declared.row.Trap.{Trap}
use Rattle.speedup_page.specs.declared.row.Trap.TheVariants as trap
use Rattle.speedup_page.specs.declared.row.Ended.{Ended}
use Rattle.speedup_page.specs.declared.row.Ended.TheVariants as ended
use Rattle.speedup_page.specs.declared.row.Base.{Base}
use Rattle.speedup_page.specs.declared.row.Base.TheVariants as base
use Rattle.speedup_page.specs.declared.row.Row.{Row}
use Rattle.speedup_page.specs.declared.row.Shares.{Shares}
use Rattle.speedup_page.specs.Page.{page_text}
use Rattle.command_line.specs.Views.{TimeArguments}
use Rattle.judged_files.specs.Inputs.{Inputs}
use Rattle.judged_files.specs.Refusals.{IsBadRunLayout}
use Rattle.prepared_run.specs.Ready.{IsAskedWork}
use Rattle.prepared_run.specs.WholeRuns.{IsRunOf}
use Rattle.views.specs.Time.{costs_of}

-- 1. The runs

-- the numbers of nodes: 1, 2, 4 and 8, as far as they are below the most; and the most
abbrev pub counts_to : (most : ℕ) → List ℕ
counts_to most = filter (λ n. nat_lt n most) (1 ∷ 2 ∷ 4 ∷ 8 ∷ []) ++ most ∷ []

-- whether the budget stopped a processor
abbrev pub is_stopped : End → Bool
is_stopped (Stopped budget) = true
is_stopped (Exited exit) = false

-- the trap by which a processor ended, if it did
abbrev pub trap_of : End → Option Trap
trap_of (Exited (exit.Code code)) = None
trap_of (Exited (exit.Ebreak a)) = Some trap.Ebreak
trap_of (Exited (exit.Illegal a)) = Some trap.Illegal
trap_of (Exited (exit.Misaligned a)) = Some trap.Misaligned
trap_of (Exited (exit.Access a)) = Some trap.Access
trap_of (Exited (exit.Fetch a)) = Some trap.Fetch
trap_of (Stopped budget) = None

-- the first trap of several processors
abbrev pub first_or : Option Trap → Option Trap → Option Trap
first_or None other = other
first_or (Some t) other = Some t

abbrev pub first_trap : List End → Option Trap
first_trap [] = None
first_trap (e ∷ es) = first_or (trap_of e) (first_trap es)

-- HOW A RUN ENDED: by a trap, where a processor did; else stopped, where the budget stopped one; and
-- else whole
abbrev pub ended_by : Option Trap → (stopped : Bool) → Ended
ended_by None true = ended.Stopped
ended_by None false = ended.Whole
ended_by (Some t) stopped = ended.Trapped t

abbrev pub ended_of : List End → Ended
ended_of ends = ended_by (first_trap ends) (list_any is_stopped ends)

abbrev pub shares_of : Spent → Shares
shares_of s = record {
  words = s.words;
  to_read = s.to_read;
  to_write = s.to_write;
  handling = s.handling;
  idle = s.idle;
}

abbrev pub row_from : (nodes : ℕ) → List End → List Spent → (time steps : ℕ) → Row
row_from nodes ends spent time steps = record {
  nodes = nodes;
  ended = ended_of ends;
  time = time;
  steps = steps;
  spent = shares_of (total_spent spent);
}

-- THE ROW of so many nodes is that of their run by the clock: its time; how many steps of the
-- original it makes; and what the nodes spend together, each the time of the run
pub record IsRowOf (inputs : Inputs) (budget : ℕ) (costs : Costs) (nodes : ℕ) (row : Row) : Type 0
  where
    pub elf : Elf
    pub plan : List PlanEntry
    pub work : Work
    pub asked : IsAskedWork inputs nodes budget elf plan work
    pub own : List Stamped
    pub outcome : Outcome
    pub is_run : IsRunOf inputs nodes budget work own outcome
    pub spent : List Spent
    pub time : ℕ
    pub steps : ℕ
    pub by_clock : IsOutcomeByClock work plan costs outcome spent time steps
    pub sums : All (λ s. clock_of s ≡ time) spent
    pub row_is : row ≡ row_from nodes outcome.ends spent time steps

-- a row for each
abbrev pub AreRowsOf : Inputs → (budget : ℕ) → Costs → (counts : List ℕ) → List Row → Type 0
AreRowsOf inputs budget costs [] [] = Unit {0}
AreRowsOf inputs budget costs (n ∷ ns) (r ∷ rs) =
    IsRowOf inputs budget costs n r × AreRowsOf inputs budget costs ns rs
AreRowsOf inputs budget costs counts rows = ⊥

-- 2. The base

-- the number of steps, where the processor ends by its exit call
abbrev pub base_by : (steps : ℕ) → Ended → Base
base_by steps ended.Whole = base.Steps steps
base_by steps (ended.Trapped t) = base.Trapped t
base_by steps ended.Stopped = base.Stopped

abbrev pub base_from : (steps : ℕ) → End → Base
base_from steps e = base_by steps (ended_of (e ∷ []))

-- THE BASE is how many steps the original makes on one processor and one memory, as `one` runs it
pub record IsBaseOf (inputs : Inputs) (budget : ℕ) (base : Base) : Type 0 where
  pub elf : Elf
  pub plan : List PlanEntry
  pub work : Work
  pub asked : IsAskedWork inputs 1 budget elf plan work
  pub steps : ℕ
  pub end : End
  pub is_run : IsLoneRun (alone work.program work.layout) budget steps end
  pub base_is : base ≡ base_from steps end

-- 3. The page

abbrev pub parameters_of : TimeArguments → Parameters
parameters_of a = record {
  nodes = a.nodes;
  budget = a.budget;
  latency = a.latency;
  line = a.line;
  handling = a.handling;
  layout = is_some a.layout;
  verified = is_some a.verified;
  no_batch = a.no_batch;
}

-- of the runs on 1, 2, 4 and so on to the most nodes
pub record IsSpeedupPage (inputs : Inputs) (a : TimeArguments) (text : List ℕ) : Type 0 where
  pub base : Base
  pub is_base : IsBaseOf inputs a.budget base
  pub rows : List Row
  pub are_rows : AreRowsOf inputs a.budget (costs_of a) (counts_to a.nodes) rows
  pub text_is : text ≡ page_text (parameters_of a) base rows

-- the layout is refused with this line, for one of the numbers of nodes
abbrev pub IsBadLayoutOf : Inputs → (counts : List ℕ) → List ℕ → Type 0
IsBadLayoutOf inputs counts line =
    (n : ℕ) × Contains counts n × IsBadRunLayout inputs n line
