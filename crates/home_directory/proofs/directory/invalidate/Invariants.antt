use Rattle.std.proofs.Common.{◌≡◌, ◌≤◌, length}
use Rattle.home_directory.specs.Home.{others, invals, count_of}
use Rattle.home_directory.specs.Effects.{entry_of}
use Rattle.home_directory.proofs.directory.invalidate.Given as goal

abbrev pub invariant-loop-node : goal.invariant-loop-node
invariant-loop-node l = record {
  sent : l.sends.items ≡ invals (others (entry_of l.entry).sharers l.but) l.block l.requester l.node;
  count : l.acks ≡ count_of (others (entry_of l.entry).sharers l.but) l.node;
  len : length l.sends.items ≤ l.node;
  few : l.acks ≤ l.node;
}
