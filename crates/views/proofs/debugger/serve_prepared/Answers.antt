use Rattle.std.proofs.Common.{inl, inr, refl, subst}
use Rattle.std.proofs.lemmas.Result.{err_from_is_err_and}
use Rattle.byte_source.specs.Sources.{SourceState}
use Rattle.dsm_io.specs.States.{SinkState}
use Rattle.recorded_run.specs.Shown.{shown_from}
use Rattle.recorded_run.specs.Tells.{Does, Moves, Tells}
use Rattle.gdb_server.specs.Ends.{Fails}
use Rattle.gdb_server.specs.declared.ServeError.TheVariants.{Input, Output, OutOfMemory}
use Rattle.views.specs.Debugger.{streams, IsShown}
use Rattle.views.proofs.Debugged.{is_shown, refused_session, unheard_session}
use Rattle.views.proofs.Runs.{broken_refused}
use Rattle.views.proofs.debugger.serve_prepared.Goals as goal

pub returns-in_err-graph-clause-failure : goal.returns-in_err-graph-clause-failure
returns-in_err-graph-clause-failure g c = λ inputs asked.
    let e = err_from_is_err_and c.from_residual.result c.from_residual.ensures.1 in
    rw (e.1, e.2) (inl (record { input = refl; output = refl }))

pub returns-in_err-picks-clause-failure : goal.returns-in_err-picks-clause-failure
returns-in_err-picks-clause-failure g c = λ inputs asked.
    let source : SourceState = g.S.Source.state c.args.source.now in
    let out : SinkState = g.O.Sink.state c.args.out.now in
    let e = err_from_is_err_and c.from_residual-in_err-picks.result c.from_residual-in_err-picks.ensures.1 in
    rw (e.1, e.2) (refused_session inputs (streams source source out out) c.in_err-picks.field-0.0
    (record { input = refl; output = refl })
    (broken_refused inputs c.args.prepared.now c.args.kept.now c.in_err-picks.field-0.0 asked
    c.in_err-picks.ensures.refused))

pub new-requires-clause-interleaved : goal.new-requires-clause-interleaved
new-requires-clause-interleaved g c = c.in_ok-picks.ensures.allowed

pub returns-in_err-run-clause-failure : goal.returns-in_err-run-clause-failure
returns-in_err-run-clause-failure g c = λ inputs asked.
    let e = err_from_is_err_and c.from_residual-in_err-run.result c.from_residual-in_err-run.ensures.1 in
    rw (e.1, e.2) (inl (record { input = refl; output = refl }))

pub returns-in-Ok-clause-ok : goal.returns-in-Ok-clause-ok
returns-in-Ok-clause-ok g c = λ inputs asked.
    let prepared = c.args.prepared.now in
    let picks = c.in_ok-picks.picks.items in
    let first = c.in_ok-run.run' in
    let shown : IsShown inputs first =
    is_shown inputs prepared c.args.kept.now picks c.image.result.now c.plan-plan.result.now first asked
    c.in_ok-picks.ensures.picks c.in_ok-picks.ensures.allowed c.image.ensures.value c.plan-plan.ensures.value
    c.in_ok-run.ensures in
    record {
      first = first;
      shown = shown;
      end = c.in-Ok.field-0;
      last = c.serve.new.target;
      served = c.in-Ok.ensures.served;
    }

pub returns-in-Err-Input-clause-failure : goal.returns-in-Err-Input-clause-failure
returns-in-Err-Input-clause-failure g c = λ inputs asked.
    let prepared = c.args.prepared.now in
    let picks = c.in_ok-picks.picks.items in
    let first = c.in_ok-run.run' in
    let shown : IsShown inputs first =
    is_shown inputs prepared c.args.kept.now picks c.image.result.now c.plan-plan.result.now first asked
    c.in_ok-picks.ensures.picks c.in_ok-picks.ensures.allowed c.image.ensures.value c.plan-plan.ensures.value
    c.in_ok-run.ensures in
    let io = streams (g.S.Source.state c.args.source.now) (g.S.Source.state c.serve.new.source)
    (g.O.Sink.state c.args.out.now) (g.O.Sink.state c.serve.new.out) in
    let fails : Fails shown_from Does Moves Tells first io Input =
    subst (Fails shown_from Does Moves Tells first io) c.in-Err-Input.field-0-is c.in-Err-Input.ensures.fails in
    unheard_session inputs io c.unread.result c.unread.ensures fails.1
    (record { first = first; shown = shown; stopped = fails.0 })

pub returns-in-Err-Output-clause-failure : goal.returns-in-Err-Output-clause-failure
returns-in-Err-Output-clause-failure g c = λ inputs asked.
    let prepared = c.args.prepared.now in
    let picks = c.in_ok-picks.picks.items in
    let first = c.in_ok-run.run' in
    let shown : IsShown inputs first =
    is_shown inputs prepared c.args.kept.now picks c.image.result.now c.plan-plan.result.now first asked
    c.in_ok-picks.ensures.picks c.in_ok-picks.ensures.allowed c.image.ensures.value c.plan-plan.ensures.value
    c.in_ok-run.ensures in
    let io = streams (g.S.Source.state c.args.source.now) (g.S.Source.state c.serve.new.source)
    (g.O.Sink.state c.args.out.now) (g.O.Sink.state c.serve.new.out) in
    let fails : Fails shown_from Does Moves Tells first io Output =
    subst (Fails shown_from Does Moves Tells first io) c.in-Err-Output.field-0-is c.in-Err-Output.ensures.fails in
    (fails.1, record { first = first; shown = shown; broken = fails.0 })

pub returns-clause-failure : goal.returns-clause-failure
returns-clause-failure g c = λ inputs asked.
    let prepared = c.args.prepared.now in
    let picks = c.in_ok-picks.picks.items in
    let first = c.in_ok-run.run' in
    let shown : IsShown inputs first =
    is_shown inputs prepared c.args.kept.now picks c.image.result.now c.plan-plan.result.now first asked
    c.in_ok-picks.ensures.picks c.in_ok-picks.ensures.allowed c.image.ensures.value c.plan-plan.ensures.value
    c.in_ok-run.ensures in
    let io = streams (g.S.Source.state c.args.source.now) (g.S.Source.state c.serve.new.source)
    (g.O.Sink.state c.args.out.now) (g.O.Sink.state c.serve.new.out) in
    let fails : Fails shown_from Does Moves Tells first io OutOfMemory =
    subst (Fails shown_from Does Moves Tells first io) c.in-Err-OutOfMemory.field-0-is c.in-Err-OutOfMemory.ensures.fails in
    inr (inr (record { first = first; shown = shown; broken = fails }))
