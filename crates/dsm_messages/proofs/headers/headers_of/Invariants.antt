-- The headers that are to come, behind those that there are, make the whole.
use Rattle.std.proofs.Common.{◌≡◌, ◌++◌, ◌≤◌, drop, map, length}
use Rattle.dsm_messages.specs.Headers.{sent_by}
use Rattle.dsm_messages.proofs.headers.headers_of.Given as goal

abbrev pub invariant-loop-post : goal.invariant-loop-post
invariant-loop-post l = record {
  items : l.headers.items ++ map sent_by (drop l.post-index l.sends.items) ≡ map sent_by l.sends.items;
  len : length l.headers.items ≤ l.post-index;
}
