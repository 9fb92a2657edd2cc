use Rattle.std.proofs.Common.{◌≡◌, [], None, refl, rules, ap, length, arith}
use Rattle.command_line.specs.declared.table.Kind.TheVariants.{MaybeNumber}
use Rattle.command_line.specs.Table.{kind_of}
use Rattle.command_line.specs.Reading.{given_by}
use Rattle.command_line.proofs.Rows.{maybe_by, maybe_few}
use Rattle.command_line.proofs.maybe_number_in.Goals as goal

pub returns-in-Nothing : goal.returns-in-Nothing
returns-in-Nothing c =
    let kind : kind_of c.args.setting ≡ MaybeNumber c.in-MaybeNumber.low c.in-MaybeNumber.high =
    search rules in
    maybe_by (given_by c.args.matches.now) c.args.setting []
    (MaybeNumber c.in-MaybeNumber.low c.in-MaybeNumber.high) None c.in-Nothing.ensures kind refl

pub returns-in-Two : goal.returns-in-Two
returns-in-Two c n h =
    let long = ap length c.in-Two.ensures in
    maybe_few (given_by c.args.matches.now) c.args.setting n (omega (arith, long)) h

pub returns-in-More : goal.returns-in-More
returns-in-More c n h =
    let long = c.in-More.ensures in
    maybe_few (given_by c.args.matches.now) c.args.setting n (omega (arith, long)) h
