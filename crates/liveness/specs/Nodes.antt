-- Helps the code alone: code words by their numbers, and sets of registers as numbers of 32 bits.
use Rattle.std.specs.Prelude.{◌≡◌, ◌≢◌, ℕ, ◌<◌, ◌⊎◌, ◌↔◌, IsTrue, List, Option, Some, None, get_or, slice_get, length}
use Rattle.rv32_decode.specs.Registers.{IsMember, destination}
use Rattle.rv32_decode.specs.declared.Instr.{Instr}
use Rattle.rv32_program.specs.Liveness.{Uses, leaves_code, IsDeadAfter, Live as IsLive}
use Rattle.templates.specs.declared.code.CodeWord.{CodeWord}
use Rattle.templates.specs.Code.{code_of}
use Rattle.flow_graph.specs.Edges.{edges_of}
use Rattle.liveness.specs.declared.node.FlowNode.{FlowNode}

-- b is a successor of the node
abbrev pub Next : FlowNode → ℕ → Type 0
Next node b = (node.first ≡ Some b) ⊎ (node.second ≡ Some b)

-- register r is live at a node
pub data Live (nodes : List FlowNode) (r : ℕ) : ℕ → Type 0 where
  uses : {i : ℕ} (node : FlowNode) → slice_get nodes i ≡ Some node → IsMember node.uses r
      → Live nodes r i
  passes : {i : ℕ} (node : FlowNode) (b : ℕ) → slice_get nodes i ≡ Some node
      → ¬ IsMember node.defs r → Next node b → Live nodes r b → Live nodes r i

-- the node needs the register where its successors need these sets
abbrev pub Needs : FlowNode → List ℕ → ℕ → Type 0
Needs node sets r =
    IsMember node.uses r
    ⊎ ((¬ IsMember node.defs r) × (b : ℕ) × Next node b × IsMember (get_or sets b 0) r)

-- the set after an edge
abbrev pub set_of : List ℕ → Option ℕ → ℕ
set_of sets None = 0
set_of sets (Some b) = get_or sets b 0

-- the node stands for a code word
pub record IsNode (words : List CodeWord) (w : CodeWord) (node : FlowNode) : Type 0 where
  pub uses : (r : ℕ) → r ≢ 0 → r < 32 → (IsMember node.uses r ↔ Uses w.instruction r)
  pub defs : (r : ℕ) → r ≢ 0 → r < 32
      → (IsMember node.defs r ↔ (destination w.instruction ≡ Some r))
  pub first : node.first ≡ (edges_of words w).first
  pub second : node.second ≡ (edges_of words w).second

-- the nodes stand for the code words
pub record AreNodes (words : List CodeWord) (nodes : List FlowNode) : Type 0 where
  pub count : length nodes ≡ length words
  pub each : (k : ℕ) (w : CodeWord) (node : FlowNode) → slice_get words k ≡ Some w
      → slice_get nodes k ≡ Some node → IsNode words w node

-- the registers that no successor needs, where the instruction doesn't leave the code
abbrev pub IsUnneeded : Instr → FlowNode → List ℕ → ℕ → Type 0
IsUnneeded i node sets set =
    (r : ℕ) → r < 32 → (IsMember set r
    ↔ ((IsTrue (leaves_code i) → ⊥) × ((b : ℕ) → Next node b → IsMember (get_or sets b 0) r → ⊥)))

-- the sets at and after each code word are those of the registers that are live there, and dead
pub record AreExact (words : List CodeWord) (live dead : List ℕ) : Type 0 where
  pub at_count : length live ≡ length words
  pub dead_count : length dead ≡ length words
  pub at_each : (k r : ℕ) (w : CodeWord) → r ≢ 0 → r < 32 → slice_get words k ≡ Some w
      → (IsMember (get_or live k 0) r ↔ IsLive (code_of words) r w.address)
  pub dead_each : (k r : ℕ) (w : CodeWord) → r ≢ 0 → r < 32 → slice_get words k ≡ Some w
      → (IsMember (get_or dead k 0) r ↔ IsDeadAfter (code_of words) r w.address w.instruction)
