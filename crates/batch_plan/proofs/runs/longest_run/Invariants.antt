use Rattle.templates.specs.Code.{code_of}
use Rattle.batch_plan.specs.Stretches.{IsStretchOf}
use Rattle.batch_plan.proofs.RunLemmas.{IsLongest}
use Rattle.batch_plan.proofs.runs.longest_run.Given as goal

-- so many words may be the beginning of a run, and the longest run among them is known
abbrev pub invariant-loop-words : goal.invariant-loop-words
invariant-loop-words l =
    record {
      stretch : IsStretchOf (code_of l.code) l.address l.words l.stretch;
      longest : IsLongest (code_of l.code) l.address l.words l.longest;
    }
