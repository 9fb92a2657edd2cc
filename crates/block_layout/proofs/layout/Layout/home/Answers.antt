use Rattle.std.proofs.Common.{◌≡◌, ◌+◌, ◌-◌, ◌*◌, ap, ◌∙◌, arith}
use Rattle.block_layout.specs.Layout.{Shape, home, home_in_turn}
use Rattle.block_layout.proofs.Pieces.{small_of_piece, home_of_piece}
use Rattle.block_layout.proofs.Numbers.{home_law}
use Rattle.block_layout.proofs.layout.Layout.home.Goals as goal

pub overflow_mul-first : goal.overflow_mul-first
overflow_mul-first c = omega (arith, (small_of_piece _ _ _ c.piece_of-piece.ensures).low_line)

pub overflow_add-first : goal.overflow_add-first
overflow_add-first c = omega (arith, (small_of_piece _ _ _ c.piece_of-piece.ensures).low_line)

pub overflow_mul-result : goal.overflow_mul-result
overflow_mul-result c = omega (arith, (small_of_piece _ _ _ c.piece_of-piece.ensures).low_line)

pub returns-in-Some-clause-home : goal.returns-in-Some-clause-home
returns-in-Some-clause-home c =
    let e = home_of_piece c.args.self.now c.args.block c.piece_of-piece.result c.piece_of-piece.ensures in
    rw c.in-Some.is at e

pub returns-in-Some-clause-node : goal.returns-in-Some-clause-node
returns-in-Some-clause-node c =
    let e = home_of_piece c.args.self.now c.args.block c.piece_of-piece.result c.piece_of-piece.ensures in
    let f : c.in-Some.home ≡ home c.args.self.now c.args.block = rw c.in-Some.is at e in
    omega (arith, home_law c.args.self.now c.args.block c.piece_of-piece.ensures.valid c.requires)

pub returns-in-None-clause-home : goal.returns-in-None-clause-home
returns-in-None-clause-home c =
    let e = home_of_piece c.args.self.now c.args.block c.piece_of-piece.result c.piece_of-piece.ensures in
    let nodes : c.from.result ≡ c.args.self.now.nodes = c.from.ensures ∙ ap (λ (s : Shape). s.nodes) c.self.view_is in
    ap (λ n. home_in_turn n (c.piece_of-piece.result.first + (c.args.block - c.piece_of-piece.result.block) * c.piece_of-piece.result.size)) nodes ∙ (rw c.in-None.is at e)
