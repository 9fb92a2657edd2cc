use Rattle.std.proofs.Common.{◌≡◌, ◌++◌, List, length, map}
use Rattle.dsm_messages.specs.declared.messages.Wire.{Wire}
use Rattle.fifo_link.specs.End.{End}
use Rattle.node_threads.specs.Mesh.{BeginRows, GathersRow}
use Rattle.node_threads.specs.Works.{links_of}
use Rattle.node_threads.proofs.gather.gather_row.Given as goal

abbrev pub invariant-ends : goal.invariant-ends
invariant-ends g l = record {
  links : BeginRows (links_of l.sends.items) (map (λ v. links_of v.items) l.takes.items);
  outboxes : length l.outboxes.items ≡ length l.sends.items;
  then : (ls : List (List Wire)) (us : List (List End))
      → GathersRow l.sends.items (map (λ o. o.items) l.outboxes.items) (map (λ v. v.items) l.takes.items) ls us
      → GathersRow l.fn.sends.items (map (λ o. o.items) l.fn.outboxes.items) (map (λ v. v.items) l.fn.takes.items) (map (λ o. o.items) l.lists.items ++ ls) (map (λ v. v.items) l.rest.items ++ us);
}

abbrev pub decreases-ends : goal.decreases-ends
decreases-ends g l = length l.sends.items
