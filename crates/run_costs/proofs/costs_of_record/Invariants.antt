use Rattle.run_trace.specs.replay.dsm_core.CoreParts.{work_in}
use Rattle.run_trace.specs.Tracing.{events_to_trace}
use Rattle.run_costs.proofs.Whole.{IsOnWay}
use Rattle.run_costs.proofs.costs_of_record.Given as goal

-- the words of the events so far were counted
abbrev pub invariant-loop-counting : goal.invariant-loop-counting
invariant-loop-counting l = IsOnWay l.symbols (work_in l.work) l.plan l.rec l.counting

abbrev pub decreases-loop-counting : goal.decreases-loop-counting
decreases-loop-counting l = events_to_trace l.counting.tracer
