use Rattle.std.proofs.Common.{arith}
use Rattle.std.proofs.lemmas.Bool.Decides.{nat_tests}
use Rattle.std.proofs.lemmas.Nat.Bits.{and_high}
use Rattle.exec_map.proofs.segment.is_code_section.Goals as goal

pub returns-then-s-ne0-2 : goal.returns-then-s-ne0-2
returns-then-s-ne0-2 c =
    let one = and_high c.args.s.now.flags 1 1 in
    let two = and_high c.args.s.now.flags 1 2 in
    grind (arith, nat_tests)

pub returns-else-s-ne0-2 : goal.returns-else-s-ne0-2
returns-else-s-ne0-2 c =
    let one = and_high c.args.s.now.flags 1 1 in
    let two = and_high c.args.s.now.flags 1 2 in
    grind (arith, nat_tests)
