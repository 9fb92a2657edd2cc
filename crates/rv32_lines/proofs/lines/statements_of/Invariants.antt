use Rattle.std.proofs.Common.{length}
use Rattle.rv32_lines.proofs.LinesRead.{SaysSoFar}
use Rattle.rv32_lines.proofs.lines.statements_of.Given as goal

abbrev pub invariant-loop-rest : goal.invariant-loop-rest
invariant-loop-rest l = SaysSoFar l.text l.rest l.statements.items

abbrev pub decreases-loop-rest : goal.decreases-loop-rest
decreases-loop-rest l = length l.rest
