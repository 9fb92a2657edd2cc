use Rattle.std.proofs.Common.{List}
use Rattle.rv32_lines.specs.Statements.{Statement}
use Rattle.rv32_asm.specs.Standing.{IsSoundReading}
use Rattle.rv32_asm.proofs.Entering.{EntrySoFar}
use Rattle.rv32_asm.proofs.assembled.entry_of.Given as goal

abbrev pub invariant-loop-statement : goal.invariant-loop-statement
invariant-loop-statement l =
    (all : List Statement) → IsSoundReading l.statements l.labels all → EntrySoFar all l.statement-index l.first
