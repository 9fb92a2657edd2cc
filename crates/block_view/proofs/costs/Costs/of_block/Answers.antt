use Rattle.std.proofs.Common.{◌≡◌, ap, ◌∙◌, slice_index_or, arith}
use Rattle.block_view.specs.declared.costs.BlockCosts.{BlockCosts}
use Rattle.block_view.specs.Kept.{counts_at}
use Rattle.block_view.proofs.Texts.{found_counts}
use Rattle.block_view.proofs.costs.Costs.of_block.Goals as goal

pub returns-clause-counts : goal.returns-clause-counts
returns-clause-counts c =
    let x = c.index.result.now in
    let items = c.args.self.now.blocks.items in
    let there : x ≡ slice_index_or items c.args.block x = grind (arith, c.index.ensures) in
    ap (λ (s : BlockCosts). counts_at s.nodes.items) there ∙ found_counts items c.args.block x c.requires
