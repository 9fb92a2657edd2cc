use Rattle.std.proofs.Common.{arith}
use Rattle.block_layout.proofs.Pieces.{small_of_piece, has_piece, lacks_piece}
use Rattle.block_layout.proofs.layout.Layout.has_line.Goals as goal

pub overflow_mul-first : goal.overflow_mul-first
overflow_mul-first c = omega (arith, (small_of_piece _ _ _ c.piece_of-piece.ensures).low_line)

pub overflow_add-first : goal.overflow_add-first
overflow_add-first c = omega (arith, (small_of_piece _ _ _ c.piece_of-piece.ensures).low_line)

pub returns-then-line-first : goal.returns-then-line-first
returns-then-line-first c = has_piece c.args.self.now c.args.block c.args.line c.piece_of-piece.result c.piece_of-piece.ensures c.if-line-first.true

pub returns-else-line-first : goal.returns-else-line-first
returns-else-line-first c = lacks_piece c.args.self.now c.args.block c.args.line c.piece_of-piece.result c.piece_of-piece.ensures c.if-line-first.false
