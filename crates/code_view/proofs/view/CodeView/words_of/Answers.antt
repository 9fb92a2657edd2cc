use Rattle.exec_map.specs.Contents.{program_of}
use Rattle.templates.specs.Code.{code_of}
use Rattle.code_view.proofs.Lines.{count_by}
use Rattle.code_view.proofs.view.CodeView.words_of.Goals as goal

pub returns-clause-value : goal.returns-clause-value
returns-clause-value c =
    count_by (program_of c.args.self.now.program.now) c.args.entry.now (code_of c.args.self.now.code.now) c.at.result
    c.batch_words_of.result c.sequence_length-single.result c.requires.shown.code c.at.ensures.value
    c.batch_words_of.ensures.value c.sequence_length-single.ensures.value
