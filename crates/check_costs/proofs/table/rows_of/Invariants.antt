use Rattle.std.proofs.Common.{◌≡◌, map}
use Rattle.std.specs.Prelude.{nat_lt}
use Rattle.std.specs.List.{filter, range_with_len}
use Rattle.check_costs.specs.Text.{row_at, AreUpTo}
use Rattle.check_costs.proofs.table.rows_of.Given as goal

-- the rows of the functions so far
abbrev pub invariant-loop-function : goal.invariant-loop-function
invariant-loop-function l = record {
  value : l.rows.items
      ≡ filter (λ r. nat_lt 0 r.counts.words) (map (row_at l.counts) (range_with_len 0 l.function));
  ascending : AreUpTo l.rows.items l.function;
}
