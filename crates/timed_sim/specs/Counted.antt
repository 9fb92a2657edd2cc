-- Helps the code alone: how many steps of the original events make.
use Rattle.std.specs.Prelude.{◌≡◌, List, Option, Some, None}
use Rattle.templates.specs.declared.plans.PlanEntry.{PlanEntry}
use Rattle.word_visits.specs.TallyTables.{AreTalliesIn, tallies_of}
use Rattle.dsm_core.specs.node_model.Node.{Work}
use Rattle.dsm_core.specs.node_model.Core.{Core, Event, Exec, Take}
use Rattle.run_trace.specs.declared.committing.CommitSight.{CommitSight}
use Rattle.run_trace.specs.Committing.{IsCommitSight}
use Rattle.run_trace.specs.Kinds.{AreKindsOf}
use Rattle.run_trace.specs.Visited.{AreTalliesOf}
use Rattle.timed_sim.specs.declared.counting.StepCount.{StepCount}

-- it counts the steps of rewritten code that has this plan
pub record CountsFor (work : Work) (plan : List PlanEntry) (c : StepCount) : Type 0 where
  pub plan_is : c.plan.now ≡ plan
  pub kinds : AreKindsOf work.program plan work.image c.kinds
  pub tallies : AreTalliesOf c.kinds (tallies_of c.tallies)
  pub table : AreTalliesIn work.image c.tallies

-- this was seen before an event, of what tells whether its word commits
abbrev pub IsSightAt : Work → List PlanEntry → Core → Event → Option CommitSight → Type 0
IsSightAt work plan c (Exec i) None = ⊥
IsSightAt work plan c (Exec i) (Some s) = IsCommitSight work plan (c.nodes i) s
IsSightAt work plan c (Take i j) sight = Unit {0}
