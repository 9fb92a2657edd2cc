use Rattle.std.proofs.Common.{◌≡◌, ℕ, ◌*◌, ◌^◌, ◌≤◌, List, take}
use Rattle.rv32_lines.specs.Statements.{Statement}
use Rattle.rv32_lines.specs.Reading.{AreReadStatements}
use Rattle.rv32_asm.specs.Places.{place_behind}
use Rattle.rv32_asm.specs.Standing.{counted, place_of, AreFitting}
use Rattle.rv32_asm.proofs.Dividing.{PiecesSoFar}
use Rattle.rv32_asm.proofs.assembled.pieces_of.Given as goal

abbrev pub invariant-loop-statement : goal.invariant-loop-statement
invariant-loop-statement l = record {
  room : counted l.place ≤ l.statement-index * 2 ^ 63;
  place_is : (all : List Statement) → AreReadStatements l.statements all
      → place_of l.place ≡ place_behind (take l.statement-index all);
  so_far : (all : List Statement) (appended : List (List ℕ)) → AreReadStatements l.statements all
      → AreFitting all appended
      → PiecesSoFar all appended l.statement-index l.place l.pieces.items;
}
