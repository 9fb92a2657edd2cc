use Rattle.std.proofs.Common.{◌++◌, List, length, map}
use Rattle.dsm_messages.specs.declared.messages.Wire.{Wire}
use Rattle.node_threads.specs.Mesh.{Crosses, Gathers, AsLong}
use Rattle.node_threads.specs.Works.{links_of}
use Rattle.node_threads.proofs.gather.gather.Given as goal

abbrev pub invariant-rows : goal.invariant-rows
invariant-rows g l = record {
  links : Crosses (map (λ v. links_of v.items) l.sends.items) (map (λ v. links_of v.items) l.takes.items);
  outboxes : AsLong (map (λ v. map (λ o. o.items) v.items) l.outboxes.items) (map (λ v. v.items) l.sends.items);
  then : (ls : List (List (List Wire)))
      → Gathers (map (λ v. v.items) l.sends.items) (map (λ v. map (λ o. o.items) v.items) l.outboxes.items) (map (λ v. v.items) l.takes.items) ls
      → Gathers (map (λ v. v.items) l.fn.sends.items) (map (λ v. map (λ o. o.items) v.items) l.fn.outboxes.items) (map (λ v. v.items) l.fn.takes.items) (map (λ v. map (λ o. o.items) v.items) l.lists.items ++ ls);
}

abbrev pub decreases-rows : goal.decreases-rows
decreases-rows g l = length l.sends.items
