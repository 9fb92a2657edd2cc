use Rattle.std.proofs.Common.{◌≡◌, ◌++◌, drop, take, All}
use Rattle.block_view.specs.Kept.{layout_in, kept_in, sites_in}
use Rattle.block_view.specs.Text.{block_lines, IsAscending}
use Rattle.block_view.proofs.sums.Sums.push_blocks.Given as goal

-- the lines that are to come, behind those that there are, make the whole
abbrev pub invariant-loop-block : goal.invariant-loop-block
invariant-loop-block l = record {
  text :
      l.out.items ++ block_lines (layout_in l.self) l.symbols (kept_in l.self) (drop l.block-index l.ranked)
      ≡ l.initial.out.items ++ block_lines (layout_in l.self) l.symbols (kept_in l.self) l.ranked;
  ascending : All (λ r. IsAscending (sites_in l.self.costs.blocks.items r.block)) (take l.block-index l.ranked);
}
