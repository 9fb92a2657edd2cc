use Rattle.std.proofs.lemmas.Result.{IfOk-weaker}
use Rattle.word_visits.specs.VisitTables.{visits_of}
use Rattle.run_trace.proofs.Visited.{first_are, none_yet}
use Rattle.run_trace.proofs.tracer.Tracer.no_visits.Goals as goal

pub returns-clause-visits : goal.returns-clause-visits
returns-clause-visits c =
    first_are c.args.self.now c.args.image.now c.no_visits.result c.requires.image c.no_visits.ensures.value
    c.no_visits.ensures.micros

pub returns-clause-none : goal.returns-clause-none
returns-clause-none c =
    IfOk-weaker c.no_visits.result _ _ (λ v is. none_yet c.args.self.now.kinds (visits_of v) is)
    c.no_visits.ensures.value
