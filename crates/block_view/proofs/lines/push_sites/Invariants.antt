use Rattle.std.proofs.Common.{◌≡◌, ◌++◌}
use Rattle.block_view.specs.Text.{site_lines}
use Rattle.block_view.proofs.lines.push_sites.Given as goal

-- the lines that are to come, behind those that there are, make the whole
abbrev pub invariant-loop-address : goal.invariant-loop-address
invariant-loop-address l =
    l.out.items ++ site_lines l.symbols l.address-iterator
    ≡ l.initial.out.items ++ site_lines l.symbols l.misses.entries
