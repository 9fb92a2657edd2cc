use Rattle.std.proofs.Common.{◌≡◌, ◌≤◌, length}
use Rattle.std.specs.Vec.{vec_capacity}
use Rattle.lane_machine.proofs.FirstPlaces.{AreFirst}
use Rattle.lane_machine.proofs.shared.first_places.Given as goal

abbrev pub invariant-loop-lane : goal.invariant-loop-lane
invariant-loop-lane l = record {
  len : length l.places.items ≡ l._lane;
  room : l.lanes ≤ vec_capacity l.places;
  first : AreFirst l.layout l.places.items;
}
