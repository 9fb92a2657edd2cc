use Rattle.std.proofs.Common.{◌≡◌, drop}
use Rattle.recorded_run.specs.Commands.{number_behind}
use Rattle.recorded_run.proofs.command.number_of.Given as goal

abbrev pub invariant-loop-digit : goal.invariant-loop-digit
invariant-loop-digit l =
    number_behind l.number (drop l.digit-index l.digits) ≡ number_behind 0 l.digits
