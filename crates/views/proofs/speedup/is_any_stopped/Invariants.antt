use Rattle.std.proofs.Common.{◌≡◌, drop}
use Rattle.std.specs.List.{list_any}
use Rattle.views.specs.Speedup.{is_stopped}
use Rattle.views.proofs.speedup.is_any_stopped.Given as goal

-- one of those that are to come was stopped where one of all was
abbrev pub invariant-loop-end : goal.invariant-loop-end
invariant-loop-end l = list_any is_stopped (drop l.end-index l.ends) ≡ list_any is_stopped l.ends
