use Rattle.std.proofs.Common.{◌≡◌, drop}
use Rattle.gdb_remote.specs.Hexadecimal.{number_behind}
use Rattle.gdb_remote.proofs.hexadecimal.number_of.Given as goal

abbrev pub invariant-loop-digit : goal.invariant-loop-digit
invariant-loop-digit l =
    number_behind l.number (drop l.digit-index l.text) ≡ number_behind 0 l.text
