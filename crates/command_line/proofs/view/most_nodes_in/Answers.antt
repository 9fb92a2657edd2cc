use Rattle.std.proofs.Common.{length, ap, arith}
use Rattle.command_line.specs.Reading.{given_by}
use Rattle.command_line.proofs.Times.{most_few, most_one, most_sixteen}
use Rattle.command_line.proofs.view.most_nodes_in.Goals as goal

pub returns-in-Nothing : goal.returns-in-Nothing
returns-in-Nothing c =
    most_sixteen (given_by c.args.matches.now) c.of.result c.in-Nothing.ensures c.of.ensures

pub returns-in-One : goal.returns-in-One
returns-in-One c =
    most_one (given_by c.args.matches.now) c.in-One.field-0.now c.nodes_in.result c.in-One.ensures c.nodes_in.ensures

pub returns-in-Two : goal.returns-in-Two
returns-in-Two c n h =
    let long = ap length c.in-Two.ensures in
    most_few (given_by c.args.matches.now) n (omega (arith, long)) h

pub returns-in-More : goal.returns-in-More
returns-in-More c n h =
    let long = c.in-More.ensures in
    most_few (given_by c.args.matches.now) n (omega (arith, long)) h
