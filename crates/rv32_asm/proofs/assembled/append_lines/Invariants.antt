use Rattle.std.proofs.Common.{◌*◌, ◌^◌, ◌≤◌, List}
use Rattle.rv32_lines.specs.Statements.{Statement}
use Rattle.rv32_asm.specs.Standing.{counted, IsSoundReading}
use Rattle.rv32_asm.proofs.Collecting.{BytesSoFar}
use Rattle.rv32_asm.proofs.assembled.append_lines.Given as goal

abbrev pub invariant-loop-statement : goal.invariant-loop-statement
invariant-loop-statement l = record {
  room : counted l.place ≤ l.statement-index * 2 ^ 63;
  so_far : (all : List Statement) → IsSoundReading l.statements l.labels all
      → BytesSoFar all l.statement-index l.place l.fn.bytes.items l.bytes.items;
}
