use Rattle.std.proofs.Common.{◌≡◌, length}
use Rattle.templates.specs.Code.{code_of}
use Rattle.templates.specs.Runs.{code_from}
use Rattle.templates.proofs.commits.words_of_run.Given as goal

abbrev pub invariant-loop-k : goal.invariant-loop-k
invariant-loop-k l = l.words ≡ length (code_from (code_of l.code) l.address l.k)
