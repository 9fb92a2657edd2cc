use Rattle.std.proofs.Common.{◌≡◌, ◌<◌, ℕ, length}
use Rattle.std.specs.Prelude.{Some, slice_get}
use Rattle.templates.specs.declared.code.CodeWord.{CodeWord}
use Rattle.liveness.specs.declared.node.FlowNode.{FlowNode}
use Rattle.liveness.specs.Nodes.{IsNode}
use Rattle.liveness.proofs.node.nodes_of.Given as goal

abbrev pub invariant-loop-k : goal.invariant-loop-k
invariant-loop-k l = record {
  count : length l.nodes.items ≡ l.k;
  each : (i : ℕ) (w : CodeWord) (node : FlowNode) → i < l.k → slice_get l.graph i ≡ Some w → slice_get l.nodes.items i ≡ Some node → IsNode l.graph w node;
}
