use Rattle.std.proofs.Common.{◌≡◌, ℕ, ◌&&◌, not, cond, ltb, length}
use Rattle.llsc.specs.Reservation.{cleared}
use Rattle.lane_machine.specs.Waits.{waits_in}
use Rattle.lane_machine.specs.Places.{pools_in, reserved_in, is_spared}
use Rattle.lane_machine.proofs.taking.clear.Given as goal

abbrev pub invariant-loop-k : goal.invariant-loop-k
invariant-loop-k l = record {
  reserved : (j : ℕ) → reserved_in l.places.items j ≡ cond (ltb j l.k && not (is_spared l.spared j))
      (cleared l.layout l.block (reserved_in l.fn.places.items j)) (reserved_in l.fn.places.items j);
  count : length l.places.items ≡ length l.fn.places.items;
  waits : waits_in l.places.items ≡ waits_in l.fn.places.items;
  pools : pools_in l.places.items ≡ pools_in l.fn.places.items;
}
