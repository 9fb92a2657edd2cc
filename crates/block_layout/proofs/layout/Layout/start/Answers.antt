use Rattle.std.proofs.Common.{arith}
use Rattle.block_layout.proofs.Pieces.{small_of_piece, start_of_piece}
use Rattle.block_layout.proofs.layout.Layout.start.Goals as goal

pub overflow_mul-result : goal.overflow_mul-result
overflow_mul-result c = omega (arith, (small_of_piece _ _ _ c.piece_of-piece.ensures).low_start)

pub overflow_add-result : goal.overflow_add-result
overflow_add-result c = omega (arith, (small_of_piece _ _ _ c.piece_of-piece.ensures).low_start)

pub returns : goal.returns
returns c = start_of_piece c.args.self.now c.args.block c.piece_of-piece.result c.piece_of-piece.ensures
