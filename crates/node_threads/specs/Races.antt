-- Nodes that made events apart, each in its thread, and the lists between them.
use Rattle.std.specs.Prelude.{◌≡◌, ℕ, ◌<◌, List, ◌++◌, length, Vec}
use Rattle.std.specs.declared.alloc.Global.{Global}
use Rattle.std.specs.declared.collections.VecDeque.{VecDeque}
use Rattle.dsm_messages.specs.declared.messages.Wire.{Wire}
use Rattle.dsm_protocol.specs.node_model.Node.{Work, Node}
use Rattle.dsm_core.specs.node_machine.declared.node_state.NodeState.{NodeState}
use Rattle.dsm_core.specs.run_order.Apart.{LocalEvent, LeadsBy, HaveDone, taken_from, sent_to}
use Rattle.dsm_core.specs.CoreParts.{CoreParts, work_of, core_of}
use Rattle.dsm_core.specs.CoreSteps.{node_or}
use Rattle.node_threads.specs.Crew.{RowsOf, AreNodesOf, list_of}

-- the nodes have made some history each, and the rows of lists have changed by them
pub record HaveRaced (work : Work) (olds : List NodeState)
    (old : List (Vec (VecDeque Wire Global) Global))
    (news : List NodeState) (new : List (Vec (VecDeque Wire Global) Global)) : Type 0 where
  pub count : length news ≡ length olds
  pub rows : length new ≡ length olds
  pub square : RowsOf (length olds) new
  pub works : AreNodesOf work news
  pub history : ℕ → List LocalEvent
  pub leads : (i : ℕ) (n : Node) → LeadsBy work (node_or olds i n) (history i) (node_or news i n)
  pub lists : (j k : ℕ) (n : Node) → j < length olds → k < length olds
      → taken_from j (history k) ++ list_of new j k
      ≡ list_of old j k ++ sent_to work k (node_or olds j n) (history j)

-- the nodes have made some history each, and run what they ran
pub record HaveGoneApart (p q : CoreParts) : Type 0 where
  pub work : work_of q ≡ work_of p
  pub history : ℕ → List LocalEvent
  pub done : HaveDone (work_of p) (core_of p) (core_of q) history
