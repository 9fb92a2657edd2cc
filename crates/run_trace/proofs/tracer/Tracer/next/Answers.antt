-- One event more.
use Rattle.std.proofs.Common.{◌<◌, [], ◌∷◌, ◌++◌, sym, subst}
use Rattle.run_trace.specs.Given.{traced_of}
use Rattle.run_trace.specs.declared.tracer.Tracer.{Tracer}
use Rattle.run_trace.specs.Tracing.{HasTraced, events_to_trace}
use Rattle.run_trace.proofs.Tracings.{traced_on}
use Rattle.run_trace.proofs.tracer.Tracer.next.Goals as goal
use Rattle.run_trace.proofs.tracer.Tracer.next.Goals.{in-Exec+in_ok-traced-in-Exec, in-Take+in_ok-traced-in-Take}

pub returns-clause-next : goal.returns-clause-next
returns-clause-next c = λ seen h.
    let t = c.args.self.now in
    let x = c.match-event.traced in
    elim c.match-event.branch [
      | in-Exec+in_ok-traced-in-Exec w ↦
          (let e = w.in_ok-traced-in-Exec.ensures in
          subst (λ u. HasTraced u (seen ++ traced_of x ∷ [])) (sym w.self-is)
          (subst (λ y. HasTraced w.word.new.self (seen ++ traced_of y ∷ [])) (sym w.traced-is)
          (traced_on t w.word.new.self seen _ _ h (e.made h.before h.made) e.same)))
      | in-Take+in_ok-traced-in-Take w ↦
          (let e = w.in_ok-traced-in-Take.ensures in
          subst (λ u. HasTraced u (seen ++ traced_of x ∷ [])) (sym w.self-is)
          (subst (λ y. HasTraced w.take.new.self (seen ++ traced_of y ∷ [])) (sym w.traced-is)
          (traced_on t w.take.new.self seen _ _ h (e.made h.before h.made) e.same)))
    ]

pub returns-clause-fewer : goal.returns-clause-fewer
returns-clause-fewer c =
    let t = c.args.self.now in
    elim c.match-event.branch [
      | in-Exec+in_ok-traced-in-Exec w ↦ subst (λ (u : Tracer). events_to_trace u < events_to_trace t) (sym w.self-is)
          w.in_ok-traced-in-Exec.ensures.fewer
      | in-Take+in_ok-traced-in-Take w ↦ subst (λ (u : Tracer). events_to_trace u < events_to_trace t) (sym w.self-is)
          w.in_ok-traced-in-Take.ensures.fewer
    ]
