use Rattle.std.proofs.Common.{◌≡◌, length}
use Rattle.home_directory.specs.Lists.{AreEmpty}
use Rattle.home_directory.proofs.request_lists.RequestLists.new.Given as goal

abbrev pub invariant-loop-place : goal.invariant-loop-place
invariant-loop-place l = record {
  len : length l.places.items ≡ l.place;
  empty : AreEmpty l.places.items l.empty l.place;
}
