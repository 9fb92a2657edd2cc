-- When events are a whole run of an executable's rewritten code.
use Rattle.std.specs.Prelude.{◌≡◌, ◌≢◌, ℕ, ◌/◌, ◌<◌, ◌≤◌, List, [], ◌++◌, Some, map}
use Rattle.rv32_program.specs.declared.End.TheVariants.{Stopped}
use Rattle.templates.specs.declared.plans.PlanEntry.{PlanEntry}
use Rattle.replay.specs.node_model.Node.{Work, Resume, Ended, Waiting}
use Rattle.replay.specs.node_model.Core.{Core, Event, IsCoreRun, IsOver, opening_core, after}
use Rattle.replay.specs.node_model.Outcome.{Outcome, AreFrugal, ends_after, counts_after}
use Rattle.replay.specs.run_order.OwnRun.{Stamped, StandsForOwnRun, run_of}
use Rattle.elf32_read.specs.Elf.{Elf}
use Rattle.exec_map.specs.Contents.{program_of}
use Rattle.judged_files.specs.Code.{Choice, IsRewritingOf, IsFileOf, choice_of}
use Rattle.replay.specs.rewriting_law.Ascents.{AscendsBetweenPolls}
use Rattle.replay.specs.rewriting_law.Bounds.{RunsRewritten, steps_of}
use Rattle.replay.specs.rewriting_law.CoreRun.{picks_of}
use Rattle.replay.specs.rewriting_law.Interleaving.{Interleaves, IsCoherent, original_after}
use Rattle.replay.specs.rewriting_law.Licence.{AllLicensed}
use Rattle.rewrite_verify.specs.rewriter.RewrittenFile.{rewritten_elf}
use Rattle.judged_files.specs.Inputs.{Inputs}
use Rattle.judged_files.specs.Layouts.{IsLayoutOfExecutable}

-- one of the lists between n nodes holds a message
abbrev pub HasMail : ℕ → Core → Type 0
HasMail n c = (j : ℕ) × (k : ℕ) × (j < n) × (k < n) × (c.list j k ≢ [])

-- the events are a whole run of the nodes, from the start until each has ended, with this outcome
pub record IsWholeRun (work : Work) (plan : List PlanEntry) (events : List Event) (o : Outcome) :
    Type 0 where
  pub run : IsCoreRun work (opening_core work) events
  pub ends : ends_after work events ≡ map (λ e. Some e) o.ends
  pub counts : o.counts ≡ counts_after work events
  -- by the words that commit, it is a run of the original processors on one memory: with the same
  -- values read, the same bytes printed, and the same exits
  pub original : Interleaves work plan events
  pub output : o.output ≡ (original_after work plan events).output
  -- each word that commits makes a licensed access, and at every moment the nodes' copies are
  -- coherent with that memory
  pub licensed : AllLicensed work plan (opening_core work) events
  pub coherent : (before behind : List Event) → before ++ behind ≡ events
      → IsCoherent work (after work (opening_core work) before)
      (original_after work plan before).shared
  -- a processor is stopped only where it has executed the whole budget
  pub stopped : (i b : ℕ) → i < work.layout.nodes
      → ((after work (opening_core work) events).nodes i).phase ≡ Ended (Stopped b)
      → (b ≡ work.budget)
      × (((after work (opening_core work) events).nodes i).executed ≡ work.budget)
  -- and then it has made a step of the original for each 40 words of the budget
  pub steps : (i b : ℕ) → i < work.layout.nodes
      → ((after work (opening_core work) events).nodes i).phase ≡ Ended (Stopped b)
      → b / 40 ≤ steps_of i (picks_of work plan (opening_core work) events)
  -- between two polls of a node its steps ascend from the third on, so they are few
  pub polls : (i : ℕ) → i < work.layout.nodes → AscendsBetweenPolls work plan events i
  -- the nodes have sent no more messages than their misses may cost
  pub messages : AreFrugal work.layout.nodes o.counts
  -- whenever a node waits, some list holds a message; at the end none does
  pub waits : (before behind : List Event) (i : ℕ) (resume : Resume) → before ++ behind ≡ events
      → i < work.layout.nodes
      → ((after work (opening_core work) before).nodes i).phase ≡ Waiting resume
      → HasMail work.layout.nodes (after work (opening_core work) before)
  pub empty : (j k : ℕ) → j < work.layout.nodes → k < work.layout.nodes
      → (after work (opening_core work) events).list j k ≡ []

-- The outcome of a run of the rewritten code of the executable in a file, which is the chosen
-- rewriting: by the plan of the program, with batches or without; or that of a verified file, by
-- the file's plan. The events are the nodes' own, as their journals tell them, by stamp, and at one
-- stamp by node; after them each node is over.
pub record IsRunOfCode (choice : Choice) (file : List ℕ) (elf : Elf) (plan : List PlanEntry)
    (work : Work) (own : List Stamped) (outcome : Outcome) : Type 0 where
  pub rewritten : IsRewritingOf choice file elf plan work.image
  pub program : work.program ≡ program_of elf
  pub runs : RunsRewritten work
  pub stands : StandsForOwnRun work (after work (opening_core work) (run_of own)) own
  pub over : IsOver work (after work (opening_core work) (run_of own))
  pub whole : IsWholeRun work plan (run_of own) outcome

-- The outcome of a run of the executable's rewritten code on so many nodes: by the program's plan,
-- or, where a verified file is given, the code of that file. A file of code that is given holds
-- that code; and the blocks of the shared lines are those of a layout that is given, or each line
-- is one.
pub record IsRunOf (inputs : Inputs) (nodes budget : ℕ) (work : Work) (own : List Stamped)
    (outcome : Outcome) : Type 0 where
  pub elf : Elf
  pub plan : List PlanEntry
  pub of_code : IsRunOfCode (choice_of inputs.batches inputs.verified) inputs.executable elf plan
      work own outcome
  pub code : IsFileOf (rewritten_elf elf work.image plan) inputs.code
  pub laid_out : IsLayoutOfExecutable elf inputs.layout nodes work.layout
  pub count : work.layout.nodes ≡ nodes
  pub limit : work.budget ≡ budget
