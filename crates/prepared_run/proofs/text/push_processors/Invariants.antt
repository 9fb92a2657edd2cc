use Rattle.std.proofs.Common.{◌≡◌, ◌++◌, drop}
use Rattle.prepared_run.specs.Processors.{processor_lines}
use Rattle.prepared_run.proofs.text.push_processors.Given as goal

-- the lines that are to come, behind those that there are, make the whole
abbrev pub invariant-loop-processor : goal.invariant-loop-processor
invariant-loop-processor l = l.text.items ++ processor_lines l.processor (drop l.processor l.ends) ≡ l.initial.text.items ++ processor_lines 0 l.ends
