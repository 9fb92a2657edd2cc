use Rattle.std.proofs.Common.{sym, ◌∙◌, arith}
use Rattle.block_layout.proofs.Numbers.{block_of_none}
use Rattle.block_layout.proofs.Pieces.{block_begun, none_begun, small_begun, some_size}
use Rattle.block_layout.proofs.layout.Layout.block_of.Goals as goal

pub returns-in_err-piece : goal.returns-in_err-piece
returns-in_err-piece c = c.from_residual.ensures ∙ sym (block_of_none c.args.self.now c.args.line c.in_err-piece.ensures)

pub nonzero_div-place : goal.nonzero_div-place
nonzero_div-place c = some_size c.args.self.now c.in_ok-piece.piece c.in_ok-piece.ensures.valid c.in_ok-piece.ensures.is

pub overflow_add-result : goal.overflow_add-result
overflow_add-result c = omega (arith, (small_begun c.args.self.now c.args.line c.in_ok-piece.piece _ c.in_ok-piece.ensures c.if-place-piece.true).low_block)

pub returns-then-place-piece : goal.returns-then-place-piece
returns-then-place-piece c = block_begun c.args.self.now c.args.line c.in_ok-piece.piece c.in_ok-piece.ensures c.if-place-piece.true

pub returns-else-place-piece : goal.returns-else-place-piece
returns-else-place-piece c = none_begun c.args.self.now c.args.line c.in_ok-piece.piece c.in_ok-piece.ensures c.if-place-piece.false
