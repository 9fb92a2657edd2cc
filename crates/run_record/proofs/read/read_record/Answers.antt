use Rattle.run_record.proofs.Whole.{refused_by, complete_by}
use Rattle.run_record.proofs.read.read_record.Goals as goal

pub returns-clause-refused : goal.returns-clause-refused
returns-clause-refused c = refused_by c.args.text.now c.record_of.result c.record_of.ensures.err

pub returns-clause-complete : goal.returns-clause-complete
returns-clause-complete c = complete_by c.args.text.now c.record_of.result c.record_of.ensures.text c.record_of.ensures.record c.record_of.ensures.words c.record_of.ensures.err
