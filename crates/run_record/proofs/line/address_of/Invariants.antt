use Rattle.std.proofs.Common.{◌≡◌, ◌<◌, ◌^◌, take}
use Rattle.run_record.proofs.Digits.{last_digits}
use Rattle.run_record.proofs.line.address_of.Given as goal

abbrev pub invariant-loop-digit : goal.invariant-loop-digit
invariant-loop-digit l = record {
  small : l.address < 16 ^ l.digit-index;
  so_far : take l.digit-index l.digits ≡ last_digits l.digit-index l.address;
}
