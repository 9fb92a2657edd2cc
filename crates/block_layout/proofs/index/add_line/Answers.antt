use Rattle.std.proofs.Common.{◌≡◌, ◌%◌, true, refl, sym, ap, ◌∙◌, arith}
use Rattle.block_layout.specs.Layout.{begins_block, size_at}
use Rattle.block_layout.proofs.Numbers.{shared_low}
use Rattle.block_layout.proofs.Building.{size_here, home_here, some_here, begins_here, goes_on_here, few_blocks, few_lines, line_goes_on, pieces_end, pieces_count, line_begins}
use Rattle.block_layout.proofs.index.add_line.Goals as goal

pub nonzero_rem-line : goal.nonzero_rem-line
nonzero_rem-line g c = omega (arith, size_here g.s c.args.named.now c.args.line c.block_at-size.result.0 c.requires.1.0 c.block_at-size.ensures.size, some_here g.s c.args.line c.requires.0 c.requires.1.1.0)

pub overflow_add-index : goal.overflow_add-index
overflow_add-index g c = omega (arith, few_lines g.s c.args.line c.args.index.now c.requires.1.1.1, shared_low g.s c.args.line c.requires.0 c.requires.1.1.0)

pub returns-then-line-size-ne0 : goal.returns-then-line-size-ne0
returns-then-line-size-ne0 g c =
    let size : c.block_at-size.result.0 ≡ size_at g.s c.args.line = size_here g.s c.args.named.now c.args.line c.block_at-size.result.0 c.requires.1.0 c.block_at-size.ensures.size in
    let not_here : c.args.line % size_at g.s c.args.line ≡ 0 → ⊥ = λ e. c.if-line-size-ne0.true (ap (λ n. c.args.line % n) size ∙ e) in
    line_goes_on g.s c.args.line c.args.index.now _ c.requires.1.1.1 c.requires.1.1.0 (goes_on_here g.s c.args.line not_here) refl refl refl

pub add_piece-requires-clause-ends : goal.add_piece-requires-clause-ends
add_piece-requires-clause-ends g c =
    let size : c.block_at-size.result.0 ≡ size_at g.s c.args.line = size_here g.s c.args.named.now c.args.line c.block_at-size.result.0 c.requires.1.0 c.block_at-size.ensures.size in
    let begins : begins_block g.s c.args.line ≡ true = begins_here g.s c.args.line c.requires.1.1.0 (ap (λ n. c.args.line % n) (sym size) ∙ c.if-line-size-ne0.false) in
    pieces_end g.s c.args.line c.args.index.now c.requires.0 begins c.requires.1.1.1

pub add_piece-requires-clause-counts : goal.add_piece-requires-clause-counts
add_piece-requires-clause-counts g c =
    pieces_count g.s c.args.line c.args.index.now (omega (arith, shared_low g.s c.args.line c.requires.0 c.requires.1.1.0)) c.requires.1.1.1

pub overflow_add-index-2 : goal.overflow_add-index-2
overflow_add-index-2 g c = omega (arith, few_blocks g.s c.args.line c.args.index.now c.requires.1.1.1, shared_low g.s c.args.line c.requires.0 c.requires.1.1.0)

pub overflow_add-index-3 : goal.overflow_add-index-3
overflow_add-index-3 g c = omega (arith, few_lines g.s c.args.line c.args.index.now c.requires.1.1.1, shared_low g.s c.args.line c.requires.0 c.requires.1.1.0)

pub returns : goal.returns
returns g c =
    let size : c.block_at-size.result.0 ≡ size_at g.s c.args.line = size_here g.s c.args.named.now c.args.line c.block_at-size.result.0 c.requires.1.0 c.block_at-size.ensures.size in
    let begins : begins_block g.s c.args.line ≡ true = begins_here g.s c.args.line c.requires.1.1.0 (ap (λ n. c.args.line % n) (sym size) ∙ c.if-line-size-ne0.false) in
    line_begins g.s c.args.line c.args.index.now _ _ c.requires.0 c.requires.1.1.1 c.requires.1.1.0 begins refl size refl (home_here g.s c.args.named.now c.args.line c.block_at-size.result.1 c.requires.1.0 c.block_at-size.ensures.home) refl refl c.in_ok-add_piece.ensures refl refl
