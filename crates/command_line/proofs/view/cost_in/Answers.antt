use Rattle.std.proofs.Common.{arith}
use Rattle.command_line.specs.Reading.{given_by}
use Rattle.command_line.proofs.Times.{says_low}
use Rattle.command_line.proofs.view.cost_in.Goals as goal

pub returns-in_err-cost : goal.returns-in_err-cost
returns-in_err-cost c =
    let kind = c.requires.kind in
    let low = says_low (given_by c.args.matches.now) c.args.setting 0 1000000 kind.0 c.in_ok-number.number kind.1.1
    kind.2 c.in_ok-number.ensures in
    absurd (c.in_err-cost.ensures (omega arith, low))
