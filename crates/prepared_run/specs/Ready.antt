-- Parts of a run that are ready: what their own runs are.
use Rattle.std.specs.Prelude.{◌≡◌, ℕ, List}
use Rattle.elf32_read.specs.Elf.{Elf}
use Rattle.exec_map.specs.Contents.{program_of}
use Rattle.templates.specs.declared.plans.PlanEntry.{PlanEntry}
use Rattle.replay.specs.node_model.Node.{Work}
use Rattle.replay.specs.node_model.Core.{Core, IsOver}
use Rattle.replay.specs.node_model.Outcome.{Outcome, IsOutcomeOf}
use Rattle.replay.specs.run_order.OwnRun.{Stamped, StandsForOwnRun, run_of}
use Rattle.replay.specs.run_record.declared.Record.{Record as Kept}
use Rattle.replay.specs.dsm_core.CoreParts.{work_with}
use Rattle.prepared_run.specs.declared.ready.Prepared.{Prepared}
use Rattle.prepared_run.specs.WholeRuns.{IsRunOfCode, IsRunOf}
use Rattle.rewrite_verify.specs.rewriter.RewrittenFile.{rewritten_elf}
use Rattle.judged_files.specs.Code.{Choice, IsFileOf, IsRewritingOf, choice_of}
use Rattle.prepared_run.specs.Replays.{IsWorkOf}
use Rattle.judged_files.specs.Inputs.{Inputs}
use Rattle.judged_files.specs.Layouts.{IsLayoutOfExecutable}

-- what the nodes run by prepared parts
abbrev pub work_for : Prepared → Work
work_for p = work_with p.program p.rewritten.image p.layout p.budget

-- a core of this work whose nodes are over and that stands for its own run, and the outcome of that
pub record IsOwnOutcome (work : Work) (o : Outcome) : Type 0 where
  pub core : Core
  pub own : List Stamped
  pub stands : StandsForOwnRun work core own
  pub over : IsOver work core
  pub outcome : IsOutcomeOf work (run_of own) o

-- the own runs of cores of this work whose nodes are over are runs of the code of the executable in
-- a file
abbrev pub GivesCode : Choice → List ℕ → Elf → List PlanEntry → Work → Type 0
GivesCode choice file elf plan work =
    (core : Core) (own : List Stamped) (o : Outcome) → StandsForOwnRun work core own
    → IsOver work core → IsOutcomeOf work (run_of own) o
    → IsRunOfCode choice file elf plan work own o

-- and runs of the inputs
abbrev pub GivesRuns : Inputs → (nodes budget : ℕ) → Work → Type 0
GivesRuns inputs nodes budget work =
    (core : Core) (own : List Stamped) (o : Outcome) → StandsForOwnRun work core own
    → IsOver work core → IsOutcomeOf work (run_of own) o → IsRunOf inputs nodes budget work own o

-- What the inputs ask to be run: the chosen rewriting of the executable's program, by this plan,
-- which a file of code that is given holds; on so many nodes, and the blocks of its shared lines
-- that their layout gives; and at most so many words of each processor.
pub record IsAskedWork (inputs : Inputs) (nodes budget : ℕ) (elf : Elf) (plan : List PlanEntry)
    (work : Work) : Type 0 where
  pub rewritten : IsRewritingOf (choice_of inputs.batches inputs.verified) inputs.executable elf
      plan work.image
  pub program : work.program ≡ program_of elf
  pub code : IsFileOf (rewritten_elf elf work.image plan) inputs.code
  pub laid_out : IsLayoutOfExecutable elf inputs.layout nodes work.layout
  pub count : work.layout.nodes ≡ nodes
  pub limit : work.budget ≡ budget

-- the work is what the record asks to be run
pub record IsReadyFor (inputs : Inputs) (kept : Kept) (work : Work) : Type 0 where
  pub elf : Elf
  pub plan : List PlanEntry
  pub asked : IsWorkOf inputs kept elf plan work
  pub gives : GivesCode (choice_of kept.batch inputs.verified) inputs.executable elf plan work
