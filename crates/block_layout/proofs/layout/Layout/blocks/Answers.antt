use Rattle.std.proofs.Common.{◌≡◌, subst}
use Rattle.block_layout.specs.Layout.{Shape, blocks}
use Rattle.block_layout.proofs.Pieces.{all_blocks}
use Rattle.block_layout.proofs.layout.Layout.blocks.Goals as goal

pub returns-clause-blocks : goal.returns-clause-blocks
returns-clause-blocks c =
    let P : Shape → Type 0 = λ s. c.self.inside.index.blocks ≡ blocks s in
    subst P c.self.view_is (all_blocks _ c.self.inside.index c.self.invariant)
