use Rattle.std.proofs.Common.{◌≡◌, ◌<◌, ℕ, length, get_or}
use Rattle.std.specs.Prelude.{Some, slice_get}
use Rattle.templates.specs.declared.code.CodeWord.{CodeWord}
use Rattle.liveness.specs.declared.node.FlowNode.{FlowNode}
use Rattle.liveness.specs.Nodes.{IsUnneeded}
use Rattle.liveness.proofs.sets.dead_sets.Given as goal

abbrev pub invariant-loop-k : goal.invariant-loop-k
invariant-loop-k l = record {
  count : length l.dead.items ≡ l.k;
  each : (i : ℕ) (w : CodeWord) (node : FlowNode) → i < l.k → slice_get l.words i ≡ Some w → slice_get l.nodes i ≡ Some node → IsUnneeded w.instruction node l.sets (get_or l.dead.items i 0);
}
