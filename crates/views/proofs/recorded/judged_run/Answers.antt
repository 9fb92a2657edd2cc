use Rattle.std.proofs.Common.{ap}
use Rattle.std.proofs.lemmas.Result.{err_from_is_err_and}
use Rattle.block_layout.specs.Layout.{Shape}
use Rattle.judged_files.specs.Given.{bytes_of}
use Rattle.views.proofs.Runs.{broken_refused}
use Rattle.views.proofs.recorded.judged_run.Goals as goal

pub judge_events-requires-clause-record : goal.judge_events-requires-clause-record
judge_events-requires-clause-record c = c.in_ok-prepared.ensures.asked.text.is_record

pub judge_events-requires-clause-nodes : goal.judge_events-requires-clause-nodes
judge_events-requires-clause-nodes c = ap (λ (s : Shape). s.nodes) c.in_ok-prepared.ensures.asked.laid_out.layout_is

pub returns-in_err-judge_events-clause-refused : goal.returns-in_err-judge_events-clause-refused
returns-in_err-judge_events-clause-refused c =
    let e = err_from_is_err_and c.from_residual-in_err-judge_events.result
    c.from_residual-in_err-judge_events.ensures.1 in
    rw (e.1, e.2) (broken_refused (bytes_of c.args.inputs.now) c.in_ok-prepared.prepared c.in_ok-prepared.kept
    c.in_err-judge_events.field-0.0 c.in_ok-prepared.ensures.asked c.in_err-judge_events.ensures.refused)

pub returns-clause-whole : goal.returns-clause-whole
returns-clause-whole c = (c.in_ok-judge_events.ensures.ok.told, c.in_ok-judge_events.ensures.ok.whole)
