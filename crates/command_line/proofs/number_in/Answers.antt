use Rattle.std.proofs.Common.{◌≡◌, [], refl, rules, ap, length, arith}
use Rattle.command_line.specs.declared.table.Kind.TheVariants.{Number}
use Rattle.command_line.specs.Table.{kind_of}
use Rattle.command_line.specs.Reading.{given_by}
use Rattle.command_line.proofs.Rows.{says_by, says_read, says_few}
use Rattle.command_line.proofs.number_in.Goals as goal

pub returns-in-Nothing : goal.returns-in-Nothing
returns-in-Nothing c =
    let kind : kind_of c.args.setting ≡ Number c.in-Number.low c.in-Number.high c.in-Number.default =
    search rules in
    says_by (given_by c.args.matches.now) c.args.setting []
    (Number c.in-Number.low c.in-Number.high c.in-Number.default) c.in-Number.default
    c.in-Nothing.ensures kind refl

pub returns-in-One : goal.returns-in-One
returns-in-One c =
    let kind : kind_of c.args.setting ≡ Number c.in-Number.low c.in-Number.high c.in-Number.default =
    search rules in
    says_read (given_by c.args.matches.now) c.args.setting c.in-One.word.now
    c.in-Number.low c.in-Number.high c.in-Number.default c.number_of.result
    c.in-One.ensures kind c.number_of.ensures

pub returns-in-Two : goal.returns-in-Two
returns-in-Two c n h =
    let long = ap length c.in-Two.ensures in
    says_few (given_by c.args.matches.now) c.args.setting n (omega (arith, long)) h

pub returns-in-More : goal.returns-in-More
returns-in-More c n h =
    let long = c.in-More.ensures in
    says_few (given_by c.args.matches.now) c.args.setting n (omega (arith, long)) h
