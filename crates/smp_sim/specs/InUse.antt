-- Helps the code alone: nodes of which a lane is in use.
use Rattle.std.specs.Prelude.{◌≡◌, ℕ, ◌+◌, ◌<◌, Bool, true, false, List, [], ◌∷◌, ◌++◌, length, slice_index_or, Option, None}
use Rattle.lane_model.specs.Core.{LaneEvent, May}
use Rattle.lane_law.specs.dsm_protocol.Queue.{Queue, wires_of}
use Rattle.lane_machine.specs.declared.node.SmpNode.{SmpNode}
use Rattle.lane_machine.specs.SmpNodesInUse.{IsSameNode, RestsAs}
use Rattle.lane_machine.specs.declared.work.SmpWork.{SmpWork}
use Rattle.lane_machine.specs.SmpNodes.{lane_work}
use Rattle.smp_sim.specs.CoreParts.{IsCore, IsRunTo, core_with, parts_of}
use Rattle.smp_sim.specs.ByOrder.{choices}

-- each node is one of ys once its lane in use is put back
abbrev pub HaveRests : List SmpNode → List (Option ℕ) → List SmpNode → Type 0
HaveRests xs used ys = (i : ℕ) (x y : SmpNode) → i < length xs
    → RestsAs (slice_index_or xs i x) (slice_index_or used i None) (slice_index_or ys i y)

-- so are n nodes, and no message is on its way to one that has a lane in use
pub record AreAtRest (n : ℕ) (lists : List Queue) (xs : List SmpNode) (used : List (Option ℕ))
    (ys : List SmpNode) : Type 0 where
  pub count : length ys ≡ length xs
  pub each : HaveRests xs used ys
  pub quiet : (i j : ℕ) → i < n → j < n → (slice_index_or used i None ≡ None → ⊥)
      → wires_of lists n j i ≡ []

-- the nodes are the same, one by one
pub record AreSameNodes (xs ys : List SmpNode) : Type 0 where
  pub count : length ys ≡ length xs
  pub each : (i : ℕ) (x y : SmpNode) → i < length xs
      → IsSameNode (slice_index_or xs i x) (slice_index_or ys i y)

-- nodes and lists that a core is at rest may make an event
pub record MayTurnOn (w : SmpWork) (lists : List Queue) (xs : List SmpNode)
    (used : List (Option ℕ)) (e : LaneEvent) : Type 0 where
  pub rests : List SmpNode
  pub output : List ℕ
  pub at_rest : AreAtRest w.layout.now.nodes lists xs used rests
  pub core : IsCore (parts_of w rests lists output)
  pub may : May (lane_work w) (core_with (lane_work w) rests lists) e

-- the nodes ys have made the event, where it is done: a silent word, after which the same is allowed
pub record HaveTurned (w : SmpWork) (lists : List Queue) (ys : List SmpNode) (output : List ℕ)
    (e : LaneEvent) (done : Bool) (xs : List SmpNode) (used : List (Option ℕ)) : Type 0 where
  pub rests : List SmpNode
  pub at_rest : AreAtRest w.layout.now.nodes lists xs used rests
  pub core : IsCore (parts_of w rests lists output)
  pub listed : choices (lane_work w) (core_with (lane_work w) rests lists)
      ≡ choices (lane_work w) (core_with (lane_work w) ys lists)
  pub made : done ≡ true → (run : List LaneEvent) → IsRunTo run (parts_of w ys lists output)
      → IsRunTo (run ++ e ∷ []) (parts_of w rests lists output)
  pub kept : done ≡ false → (run : List LaneEvent) → IsRunTo run (parts_of w ys lists output)
      → IsRunTo run (parts_of w rests lists output)
