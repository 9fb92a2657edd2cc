use Rattle.std.proofs.Common.{◌≡◌}
use Rattle.templates.specs.Code.{code_of}
use Rattle.templates.specs.Runs.{reach_at}
use Rattle.templates.proofs.batches.reach_of_run.Given as goal

abbrev pub invariant-loop-k : goal.invariant-loop-k
invariant-loop-k l = l.reach ≡ reach_at (code_of l.code) l.address l.k
