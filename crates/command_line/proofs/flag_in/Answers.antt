use Rattle.std.proofs.Common.{[], refl, ap, length, arith, true, false}
use Rattle.command_line.specs.Reading.{given_by}
use Rattle.command_line.proofs.Rows.{flag_at, flag_few}
use Rattle.command_line.proofs.flag_in.Goals as goal

pub returns-in-Nothing : goal.returns-in-Nothing
returns-in-Nothing c = record {
  there =
      flag_at (given_by c.args.matches.now) c.args.setting [] false c.in-Nothing.ensures refl;
}

pub returns-in-One : goal.returns-in-One
returns-in-One c = record {
  there =
      flag_at (given_by c.args.matches.now) c.args.setting _ true c.in-One.ensures refl;
}

pub returns-in-Two : goal.returns-in-Two
returns-in-Two c = record {
  there = λ b h.
      let long = ap length c.in-Two.ensures in
      flag_few (given_by c.args.matches.now) c.args.setting b (omega (arith, long)) h;
}

pub returns-in-More : goal.returns-in-More
returns-in-More c = record {
  there = λ b h.
      let long = c.in-More.ensures in
      flag_few (given_by c.args.matches.now) c.args.setting b (omega (arith, long)) h;
}
