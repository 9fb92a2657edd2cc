use Rattle.std.proofs.Common.{◌≡◌, ℕ, ◌<◌, ◌≤◌, List, get_or, length, None}
use Rattle.lane_machine.specs.declared.node.SmpNode.{SmpNode}
use Rattle.lane_machine.specs.SmpNodesInUse.{IsSameNode}
use Rattle.smp_sim.specs.InUse.{HaveRests}
use Rattle.smp_sim.proofs.runs.put_back.Given as goal

abbrev pub invariant-loop-node : goal.invariant-loop-node
invariant-loop-node l = record {
  long : length l.nodes.items ≡ length l.fn.nodes.items;
  done : (ys : List SmpNode) → length ys ≡ length l.fn.nodes.items
      → HaveRests l.fn.nodes.items l.fn.used ys → (i : ℕ) (x y : SmpNode) → i < l.node
      → IsSameNode (get_or ys i y) (get_or l.nodes.items i x);
  left : (i : ℕ) (x : SmpNode) → l.node ≤ i
      → get_or l.nodes.items i x ≡ get_or l.fn.nodes.items i x;
  used_left : (i : ℕ) → l.node ≤ i → get_or l.used i None ≡ get_or l.fn.used i None;
}
