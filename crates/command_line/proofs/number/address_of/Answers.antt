use Rattle.std.proofs.Common.{rules}
use Rattle.command_line.proofs.Addresses.{no_address}
use Rattle.command_line.proofs.number.address_of.Goals as goal

pub returns-in-Err : goal.returns-in-Err
returns-in-Err c = λ a h.
    no_address c.args.text.now c.in_ok-digits.digits.now c.in_ok-digits.ensures (search rules)
    c.in-Err.ensures.value a h
