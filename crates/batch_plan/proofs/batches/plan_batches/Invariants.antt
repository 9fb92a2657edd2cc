use Rattle.templates.specs.Code.{code_of}
use Rattle.batch_plan.proofs.BatchLemmas.{IsBatched}
use Rattle.batch_plan.proofs.batches.plan_batches.Given as goal

-- the entries so far have their runs
abbrev pub invariant-loop-k : goal.invariant-loop-k
invariant-loop-k l = IsBatched (code_of l.live) l.initial.plan l.plan l.k l.free
