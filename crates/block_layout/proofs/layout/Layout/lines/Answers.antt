use Rattle.block_layout.proofs.Pieces.{small_of_piece, lines_is}
use Rattle.block_layout.proofs.layout.Layout.lines.Goals as goal

pub returns-clause-lines : goal.returns-clause-lines
returns-clause-lines c = lines_is c.args.self.now c.args.block c.piece_of.result c.piece_of.ensures

pub returns-clause-few : goal.returns-clause-few
returns-clause-few c = (small_of_piece c.args.self.now c.args.block c.piece_of.result c.piece_of.ensures).few
