use Rattle.std.proofs.Common.{◌≡◌, subst}
use Rattle.block_layout.specs.Layout.{Shape, shared_lines}
use Rattle.block_layout.proofs.Pieces.{all_lines}
use Rattle.block_layout.proofs.layout.Layout.shared_lines.Goals as goal

pub returns : goal.returns
returns c =
    let P : Shape → Type 0 = λ s. c.self.inside.index.lines ≡ shared_lines s in
    subst P c.self.view_is (all_lines _ c.self.inside.index c.self.invariant)
