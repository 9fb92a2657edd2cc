-- Words of a stretch, and which of them commit.
use Rattle.std.proofs.Common.{refl}
use Rattle.replay.specs.dsm_core.CoreParts.{core_of}
use Rattle.word_visits.specs.VisitTables.{visits_of}
use Rattle.replay.specs.Way.{core_in}
use Rattle.replay.proofs.Runs.{running_of}
use Rattle.run_trace.specs.declared.tracer.Tracer.{Tracer}
use Rattle.run_trace.specs.Tracing.{work_traced, plan_traced}
use Rattle.run_trace.proofs.Passes.{same_by}
use Rattle.run_trace.proofs.Tracings.{events_traced}
use Rattle.run_trace.proofs.Visited.{commit_by_number, may_last, visits_still}
use Rattle.run_trace.proofs.tracer.Tracer.make_silent_words.Goals as goal

pub make_silent_words-requires-clause-running : goal.make_silent_words-requires-clause-running
make_silent_words-requires-clause-running c =
    running_of c.args.self.now.replayer c.requires.traced.1.before c.requires.traced.1.made

pub make_silent_words-requires-clause-goes_over : goal.make_silent_words-requires-clause-goes_over
make_silent_words-requires-clause-goes_over c = c.requires.visits.micros

pub returns-clause-made : goal.returns-clause-made
returns-clause-made c = λ seen h.
    let t = c.args.self.now in
    let u : Tracer = record { replayer = c.make_silent_words.new.self; plan = t.plan; kinds = t.kinds } in
    let m = c.make_silent_words.ensures.made h.before h.made in
    events_traced t u seen m.more _ h m.made m.events (same_by t u c.make_silent_words.ensures.same refl refl)

pub returns-clause-commits : goal.returns-clause-commits
returns-clause-commits c =
    let t = c.args.self.now in
    let i = c.args.stretch.now.node in
    let h = c.requires.traced.1 in
    let e = c.make_silent_words.ensures in
    let p = e.passed in
    let may = may_last (work_traced t) (core_of (core_in c.make_silent_words.new.self)) p.last i p.alike p.may in
    commit_by_number (work_traced t) (plan_traced t) t.kinds i c.make_silent_words.result
    (core_of (core_in t.replayer)) p.last (visits_of c.args.visits.now) (visits_of c.make_silent_words.new.by)
    h.kinds c.requires.visits.look p.goes_on may e.learns

pub returns-clause-visits : goal.returns-clause-visits
returns-clause-visits c =
    let t = c.args.self.now in
    let e = c.make_silent_words.ensures in
    let u : Tracer = record { replayer = c.make_silent_words.new.self; plan = t.plan; kinds = t.kinds } in
    visits_still t u c.make_silent_words.result ((core_of (core_in t.replayer)).nodes c.args.stretch.now.node)
    c.args.visits.now c.make_silent_words.new.by (same_by t u e.same refl refl) c.requires.visits e.stays
    e.learns
