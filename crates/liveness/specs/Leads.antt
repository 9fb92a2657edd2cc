-- Helps the code alone: the edges of nodes.
use Rattle.std.specs.Prelude.{◌≡◌, ℕ, ◌<◌, ◌/◌, List, Some, length, slice_get}
use Rattle.liveness.specs.declared.node.FlowNode.{FlowNode}
use Rattle.liveness.specs.Chains.{IsInto}
use Rattle.liveness.specs.Nodes.{Next}

-- each edge of the first n nodes stands in the chain of the node that it leads into
abbrev pub Leads : List FlowNode → ℕ → List ℕ → List ℕ → Type 0
Leads nodes n heads links =
    (p b : ℕ) (node : FlowNode) → p < n → slice_get nodes p ≡ Some node → Next node b
    → b < length heads → (e : ℕ) × (e / 2 ≡ p) × IsInto heads links e b
