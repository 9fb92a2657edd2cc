use Rattle.std.proofs.Common.{◌≡◌, ◌-◌, ◌≤◌, ◌%◌, ◌++◌, length, take}
use Rattle.rv32_lines.proofs.Pairs.{paired}
use Rattle.rv32_lines.proofs.bytes.append_bytes.Given as goal

abbrev pub invariant-loop-place : goal.invariant-loop-place
invariant-loop-place l = record {
  within : l.place ≤ length l.digits;
  even : l.place % 2 ≡ 0;
  so_far : l.out.items ≡ l.fn.out.items ++ paired (take l.place l.digits);
}

abbrev pub decreases-loop-place : goal.decreases-loop-place
decreases-loop-place l = length l.digits - l.place
