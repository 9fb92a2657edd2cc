use Rattle.std.proofs.Common.{◌≡◌, take}
use Rattle.workload.specs.Generated.{code_bytes}
use Rattle.workload.proofs.generated.code_bytes.Given as goal

abbrev pub invariant-loop-instruction : goal.invariant-loop-instruction
invariant-loop-instruction l = l.bytes.items ≡ code_bytes (take l.instruction-index l.code)
