use Rattle.std.proofs.Common.{◌≡◌, take}
use Rattle.std.specs.Str.Parse.{AllDigits, digits_value}
use Rattle.block_layout.proofs.text.number_in.Given as goal

abbrev pub invariant-loop-byte : goal.invariant-loop-byte
invariant-loop-byte l = record {
  all : AllDigits l.radix (take l.byte-index l.digits);
  value : digits_value l.radix (take l.byte-index l.digits) ≡ l.number;
}
