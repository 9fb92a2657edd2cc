use Rattle.std.proofs.Common.{◌≡◌, take}
use Rattle.std.specs.Str.Parse.{digits_value}
use Rattle.rv32_lines.specs.Reading.{radix, capped}
use Rattle.rv32_lines.proofs.numerals.value_of.Given as goal

abbrev pub invariant-loop-digit : goal.invariant-loop-digit
invariant-loop-digit l = l.value ≡ capped (digits_value (radix l.base) (take l.digit-index l.digits))
