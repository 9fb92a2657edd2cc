use Rattle.std.proofs.Common.{◌≡◌, ℕ, ◌+◌, ◌<◌, ◌≤◌, length, get_or}
use Rattle.node_machine.specs.node_words.node_memory.Shelf.{local_of}
use Rattle.lane_model.specs.node_model.Node.{Node}
use Rattle.node_machine.specs.NodeState.{AreCountsBelow}
use Rattle.lane_model.specs.Nodes.{LaneNode}
use Rattle.lane_model.specs.Turns.{counted}
use Rattle.lane_machine.specs.declared.stored.StoredLane.{StoredLane}
use Rattle.lane_machine.specs.Waits.{wait_among, waits_in}
use Rattle.lane_machine.specs.Stored.{HasGoneOn, HaveParts, ended_in, part_of}
use Rattle.lane_machine.proofs.taking.resume_lanes.Given as goal

abbrev pub invariant-loop-k : goal.invariant-loop-k
invariant-loop-k l = record {
  count : length l.lanes ≡ length l.fn.lanes;
  done : (j : ℕ) (d : StoredLane) → j < l.k
      → HasGoneOn (local_of l.fn.body.local).state (wait_among (waits_in l.places)) (get_or l.fn.lanes j d) (get_or l.lanes j d);
  left : (j : ℕ) (d : StoredLane) → l.k ≤ j → get_or l.lanes j d ≡ get_or l.fn.lanes j d;
  counts : (n : Node) (x : LaneNode) → n.wait ≡ wait_among (waits_in l.places)
      → n.local.state ≡ (local_of l.fn.body.local).state → n.counts ≡ l.fn.body.counts → HaveParts l.fn.lanes x
      → l.body.counts ≡ counted n x.lanes l.k;
  below : (most : ℕ) → AreCountsBelow most l.fn.body.counts → AreCountsBelow (most + l.k) l.body.counts;
  ended : (x : LaneNode) → ((j : ℕ) (d : StoredLane) → j < l.k → x.lanes j ≡ part_of (get_or l.lanes j d))
      → l.ended ≡ ended_in x l.k;
  few : l.ended ≤ l.k;
  lane : l.body.lane ≡ l.fn.body.lane;
  local : l.body.local ≡ l.fn.body.local;
}
