use Rattle.std.proofs.Common.{refl}
use Rattle.run_record.proofs.LineFeeds.{first_line, only_line}
use Rattle.run_record.proofs.lines.first_line_length.Goals as goal

pub returns-in-Some-clause-line : goal.returns-in-Some-clause-line
returns-in-Some-clause-line c = first_line c.args.text.now c.in-Some.end c.in-Some.ensures

pub returns-in-None-clause-line : goal.returns-in-None-clause-line
returns-in-None-clause-line c = only_line c.args.text.now _ c.requires c.in-None.ensures refl
