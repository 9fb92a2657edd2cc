-- The bytes that nodes printed, merged by stamp and node.
use Rattle.std.specs.Prelude.{ℕ, List, map}
use Rattle.node_model.specs.declared.OutByte.{OutByte}
use Rattle.node_model.specs.Node.{Node}
use Rattle.run_order.specs.Sorted.{AreSortedOf}

-- a byte with its stamp and the node that printed it
pub record Printed : Type 0 where
  pub stamp : ℕ
  pub node : ℕ
  pub byte : ℕ

-- what node i printed
abbrev pub printed_of : (i : ℕ) → OutByte → Printed
printed_of i o = record { stamp = o.stamp; node = i; byte = o.byte }

abbrev pub stamp_of : Printed → ℕ
stamp_of p = p.stamp

abbrev pub printer : Printed → ℕ
printer p = p.node

abbrev pub byte_in : Printed → ℕ
byte_in p = p.byte

-- these are the bytes that n nodes printed, sorted by (stamp, node)
abbrev pub AreMerged : (n : ℕ) → (ℕ → Node) → List Printed → Type 0
AreMerged n nodes bytes =
    AreSortedOf stamp_of printer n (λ i. map (printed_of i) (nodes i).output) bytes
