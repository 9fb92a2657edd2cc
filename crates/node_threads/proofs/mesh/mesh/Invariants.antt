use Rattle.std.proofs.Common.{◌≡◌, length, map}
use Rattle.node_threads.specs.Mesh.{Fresh, Crosses}
use Rattle.node_threads.specs.Works.{links_of}
use Rattle.node_threads.proofs.mesh.mesh.Given as goal

abbrev pub invariant-empty : goal.invariant-empty
invariant-empty l = record {
  takes : Fresh 0 (map (λ v. v.items) l.takes.items);
  many : length l.takes.items ≡ l.counter;
}

abbrev pub invariant-nodes : goal.invariant-nodes
invariant-nodes l = record {
  sends : Fresh l.n (map (λ v. v.items) l.sends.items);
  many : length l.takes.items ≡ l.n;
  done : length l.sends.items ≡ l.counter;
  takes : Fresh l.counter (map (λ v. v.items) l.takes.items);
  cross : Crosses (map (λ v. links_of v.items) l.sends.items) (map (λ v. links_of v.items) l.takes.items);
}
