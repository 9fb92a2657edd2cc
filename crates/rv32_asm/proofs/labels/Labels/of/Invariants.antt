use Rattle.std.proofs.Common.{◌*◌, ◌^◌, ◌≤◌, List}
use Rattle.rv32_lines.specs.Statements.{Statement}
use Rattle.rv32_lines.specs.Reading.{AreReadStatements}
use Rattle.rv32_asm.specs.Standing.{counted}
use Rattle.rv32_asm.proofs.Labelling.{NamedSoFar}
use Rattle.rv32_asm.proofs.labels.Labels.of.Given as goal

abbrev pub invariant-loop-line : goal.invariant-loop-line
invariant-loop-line l = record {
  room : counted l.place ≤ l.line * 2 ^ 63;
  so_far : (all : List Statement) → AreReadStatements l.statements all → NamedSoFar all l.line l.place l.first;
}
