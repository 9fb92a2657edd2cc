use Rattle.std.proofs.Common.{◌-◌, ◌^◌}
use Rattle.std.specs.Option.{option_map_or}
use Rattle.exec_map.proofs.Accepting.{SupportedUpTo}
use Rattle.exec_map.proofs.rules.first_unsupported.Given as goal

abbrev pub invariant-loop-next : goal.invariant-loop-next
invariant-loop-next l = SupportedUpTo l.e l.next

abbrev pub decreases-loop-next : goal.decreases-loop-next
decreases-loop-next l = option_map_or (λ a. 2 ^ 31 - a) l.next 0
