use Rattle.std.proofs.Common.{◌≡◌, List, ℕ, ap, ◌∙◌, subst}
use Rattle.std.proofs.lemmas.Result.{err_from_is_err_and}
use Rattle.dsm_core.specs.CoreParts.{outcome_of}
use Rattle.dsm_io.specs.Causes.{Appends}
use Rattle.dsm_io.specs.States.{SinkState}
use Rattle.rv32_program.specs.declared.End.{End}
use Rattle.node_model.specs.declared.NodeCounts.{NodeCounts}
use Rattle.node_model.specs.Outcome.{Outcome}
use Rattle.text_output.specs.Failures.{FailsAs, IsNever, IsPutFailure}
use Rattle.text_output.proofs.Pieces.{joins}
use Rattle.prepared_run.specs.Outcomes.{IsTextOfOutcome, text_of}
use Rattle.views.specs.Time.{time_text}
use Rattle.views.proofs.Timed.{outcome_unput, times_unput}
use Rattle.views.proofs.time.put_timed.Goals as goal

-- an outcome by its parts
abbrev of : List ℕ → List End → List NodeCounts → Outcome
of output ends counts = record { output = output; ends = ends; counts = counts }

pub returns-in_err-put_outcome-clause-failure : goal.returns-in_err-put_outcome-clause-failure
returns-in_err-put_outcome-clause-failure g c =
    let start : SinkState = g.O.Sink.state c.args.out.now in
    let now : SinkState = g.O.Sink.state c.put_outcome.new.out in
    let t = c.args.timed.now in
    let o : Outcome = outcome_of t.outcome in
    let output = c.deref-2.result.now in
    let ends = c.deref-3.result.now in
    let counts = c.deref-4.result.now in
    let same : of output ends counts ≡ o =
    ap (λ x. of x ends counts) c.deref-2.ensures.value ∙ ap (λ x. of o.output x counts) c.deref-3.ensures.value
    ∙ ap (λ x. of o.output o.ends x) c.deref-4.ensures.value in
    let p = err_from_is_err_and c.from_residual-in_err-put_outcome.result
    c.from_residual-in_err-put_outcome.ensures.1 in
    rw (p.1, p.2) (outcome_unput o (time_text t.spent.items t.steps t.time) start now c.in_err-put_outcome.field-0.0
    (subst (λ x. FailsAs (IsTextOfOutcome x) IsNever IsNever start now c.in_err-put_outcome.field-0.0) same
    c.in_err-put_outcome.ensures.failure))

pub returns-in_err-put-clause-failure : goal.returns-in_err-put-clause-failure
returns-in_err-put-clause-failure g c =
    let start : SinkState = g.O.Sink.state c.args.out.now in
    let before : SinkState = g.O.Sink.state c.put_outcome.new.out in
    let now : SinkState = g.O.Sink.state c.put.new.out in
    let t = c.args.timed.now in
    let o : Outcome = outcome_of t.outcome in
    let output = c.deref-2.result.now in
    let ends = c.deref-3.result.now in
    let counts = c.deref-4.result.now in
    let same : of output ends counts ≡ o =
    ap (λ x. of x ends counts) c.deref-2.ensures.value ∙ ap (λ x. of o.output x counts) c.deref-3.ensures.value
    ∙ ap (λ x. of o.output o.ends x) c.deref-4.ensures.value in
    let text : c.in_ok-put_outcome.ensures.ok.0 ≡ text_of o =
    c.in_ok-put_outcome.ensures.ok.1.0 ∙ ap text_of same in
    let first : Appends start.taken before.taken (text_of o) =
    subst (Appends start.taken before.taken) text c.in_ok-put_outcome.ensures.ok.2 in
    let lines : c.deref-5.result.now ≡ time_text t.spent.items t.steps t.time = c.deref-5.ensures.value
    ∙ c.in_ok-lines.ensures ∙ ap (λ x. time_text x t.steps t.time) c.deref.ensures.value in
    let p = err_from_is_err_and c.from_residual-in_err-put.result c.from_residual-in_err-put.ensures.1 in
    rw (p.1, p.2) (times_unput (text_of o) (time_text t.spent.items t.steps t.time) start before now
    c.in_err-put.field-0.0 first c.in_ok-put_outcome.ensures.faults
    (subst (λ x. IsPutFailure before now x c.in_err-put.field-0.0) lines c.in_err-put.ensures.failure))

pub returns-clause-ok : goal.returns-clause-ok
returns-clause-ok g c =
    let start : SinkState = g.O.Sink.state c.args.out.now in
    let before : SinkState = g.O.Sink.state c.put_outcome.new.out in
    let now : SinkState = g.O.Sink.state c.put.new.out in
    let t = c.args.timed.now in
    let o : Outcome = outcome_of t.outcome in
    let output = c.deref-2.result.now in
    let ends = c.deref-3.result.now in
    let counts = c.deref-4.result.now in
    let same : of output ends counts ≡ o =
    ap (λ x. of x ends counts) c.deref-2.ensures.value ∙ ap (λ x. of o.output x counts) c.deref-3.ensures.value
    ∙ ap (λ x. of o.output o.ends x) c.deref-4.ensures.value in
    let text : c.in_ok-put_outcome.ensures.ok.0 ≡ text_of o =
    c.in_ok-put_outcome.ensures.ok.1.0 ∙ ap text_of same in
    let first : Appends start.taken before.taken (text_of o) =
    subst (Appends start.taken before.taken) text c.in_ok-put_outcome.ensures.ok.2 in
    let lines : c.deref-5.result.now ≡ time_text t.spent.items t.steps t.time = c.deref-5.ensures.value
    ∙ c.in_ok-lines.ensures ∙ ap (λ x. time_text x t.steps t.time) c.deref.ensures.value in
    joins start.taken before.taken now.taken (text_of o) (time_text t.spent.items t.steps t.time) first
    (subst (Appends before.taken now.taken) lines c.in_ok-put.ensures.ok)
