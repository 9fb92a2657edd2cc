-- The bytes that nodes printed, gathered node by node.
use Rattle.std.specs.Prelude.{ℕ, zero, suc, ◌+◌, ◌*◌, List, [], ◌++◌, map}
use Rattle.run_order.specs.node_model.declared.OutByte.{OutByte}
use Rattle.run_order.specs.node_model.Node.{Node}
use Rattle.dsm_core.specs.declared.outcome.Printed.{Printed}

-- what node i printed
abbrev pub printed_of : (i : ℕ) → OutByte → Printed
printed_of i o = record { stamp = o.stamp; node = i; byte = o.byte }

-- what the nodes below n printed
abbrev pub printed_below : (ℕ → Node) → (n : ℕ) → List Printed
printed_below nodes zero = []
printed_below nodes (suc k) = printed_below nodes k ++ map (printed_of k) (nodes k).output

-- a number that ascends by (stamp, node)
abbrev pub place_of : Printed → ℕ
place_of p = p.stamp * 256 + p.node

abbrev pub byte_of : Printed → ℕ
byte_of p = p.byte
