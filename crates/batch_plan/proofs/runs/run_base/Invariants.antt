use Rattle.templates.specs.Code.{code_of}
use Rattle.batch_plan.specs.Stretches.{IsStretchOf}
use Rattle.batch_plan.proofs.runs.run_base.Given as goal

-- so many words may be the beginning of a run
abbrev pub invariant-loop-count : goal.invariant-loop-count
invariant-loop-count l = IsStretchOf (code_of l.code) l.address l.count l.stretch
