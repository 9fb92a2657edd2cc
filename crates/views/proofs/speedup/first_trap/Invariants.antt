use Rattle.std.proofs.Common.{◌≡◌, drop}
use Rattle.views.specs.Speedup.{first_trap}
use Rattle.views.proofs.speedup.first_trap.Given as goal

-- the first trap of those that are to come is that of all
abbrev pub invariant-loop-end : goal.invariant-loop-end
invariant-loop-end l = first_trap (drop l.end-index l.ends) ≡ first_trap l.ends
