use Rattle.std.proofs.Common.{◌≡◌, [], ◌++◌, length, refl, sym, ap, ◌∙◌, subst, append-nil, append_assoc}
use Rattle.std.proofs.lemmas.Result.{err_from_is_err_and}
use Rattle.dsm_io.specs.Causes.{Appends}
use Rattle.dsm_io.specs.States.{SinkState}
use Rattle.replay.specs.node_model.Outcome.{Outcome}
use Rattle.prepared_run.specs.Outcomes as outcomes
use Rattle.prepared_run.specs.Processors.{outcome_head}
use Rattle.prepared_run.specs.Outcomes.{outcome_tail, text_of, IsTextOfOutcome}
use Rattle.text_output.specs.Failures.{IsNever, IsPutFailure}
use Rattle.text_output.proofs.Pieces.{joins, nothing_put, put_fails}
use Rattle.prepared_run.proofs.outcome.put_outcome.Goals as goal

pub returns-in_err-put-clause-failure : goal.returns-in_err-put-clause-failure
returns-in_err-put-clause-failure g c =
    let start : SinkState = g.O.Sink.state c.args.out.now in
    let now : SinkState = g.O.Sink.state c.put.new.out in
    let o : Outcome = record { output = c.args.output.now; ends = c.args.ends.now; counts = c.args.counts.now } in
    let tail = outcome_tail o.ends o.counts in
    let head = outcome_head (length o.output) in
    let piece : c.deref.result.now ≡ head = c.deref.ensures.value ∙ c.in_ok-head.ensures in
    let p = err_from_is_err_and c.from_residual-in_err-put.result c.from_residual-in_err-put.ensures.1 in
    rw (p.1, p.2) (put_fails (IsTextOfOutcome o) IsNever IsNever (text_of o) (outcomes.status_of o) start start now
    [] head (o.output ++ tail) c.in_err-put.field-0.0 (refl, refl) refl (nothing_put start.taken) refl
    (subst (λ t. IsPutFailure start now t c.in_err-put.field-0.0) piece c.in_err-put.ensures.failure))

pub returns-in_err-put-2-clause-failure : goal.returns-in_err-put-2-clause-failure
returns-in_err-put-2-clause-failure g c =
    let start : SinkState = g.O.Sink.state c.args.out.now in
    let middle : SinkState = g.O.Sink.state c.put.new.out in
    let now : SinkState = g.O.Sink.state c.put-2.new.out in
    let o : Outcome = record { output = c.args.output.now; ends = c.args.ends.now; counts = c.args.counts.now } in
    let tail = outcome_tail o.ends o.counts in
    let head = outcome_head (length o.output) in
    let piece : c.deref.result.now ≡ head = c.deref.ensures.value ∙ c.in_ok-head.ensures in
    let first : Appends start.taken middle.taken head =
    subst (Appends start.taken middle.taken) piece c.in_ok-put.ensures.ok in
    let p = err_from_is_err_and c.from_residual-in_err-put-2.result c.from_residual-in_err-put-2.ensures.1 in
    rw (p.1, p.2) (put_fails (IsTextOfOutcome o) IsNever IsNever (text_of o) (outcomes.status_of o) start middle now
    head o.output tail c.in_err-put-2.field-0.0 (refl, refl) refl first c.in_ok-put.ensures.faults
    c.in_err-put-2.ensures.failure)

pub returns-in_err-put-3-clause-failure : goal.returns-in_err-put-3-clause-failure
returns-in_err-put-3-clause-failure g c =
    let start : SinkState = g.O.Sink.state c.args.out.now in
    let middle : SinkState = g.O.Sink.state c.put.new.out in
    let before : SinkState = g.O.Sink.state c.put-2.new.out in
    let now : SinkState = g.O.Sink.state c.put-3.new.out in
    let o : Outcome = record { output = c.args.output.now; ends = c.args.ends.now; counts = c.args.counts.now } in
    let tail = outcome_tail o.ends o.counts in
    let head = outcome_head (length o.output) in
    let piece : c.deref.result.now ≡ head = c.deref.ensures.value ∙ c.in_ok-head.ensures in
    let last : c.deref-2.result.now ≡ tail = c.deref-2.ensures.value ∙ c.in_ok-tail.ensures in
    let first : Appends start.taken middle.taken head =
    subst (Appends start.taken middle.taken) piece c.in_ok-put.ensures.ok in
    let both : Appends start.taken before.taken (head ++ o.output) =
    joins start.taken middle.taken before.taken head o.output first c.in_ok-put-2.ensures.ok in
    let whole : text_of o ≡ (head ++ o.output) ++ (tail ++ []) =
    sym (append_assoc head o.output tail) ∙ ap (λ t. (head ++ o.output) ++ t) (sym (append-nil tail)) in
    let p = err_from_is_err_and c.from_residual-in_err-put-3.result c.from_residual-in_err-put-3.ensures.1 in
    rw (p.1, p.2) (put_fails (IsTextOfOutcome o) IsNever IsNever (text_of o) (outcomes.status_of o) start before now
    (head ++ o.output) tail [] c.in_err-put-3.field-0.0 (refl, refl) whole both
    (c.in_ok-put-2.ensures.faults ∙ c.in_ok-put.ensures.faults)
    (subst (λ t. IsPutFailure before now t c.in_err-put-3.field-0.0) last c.in_err-put-3.ensures.failure))

pub returns-clause-ok : goal.returns-clause-ok
returns-clause-ok g c =
    let start : SinkState = g.O.Sink.state c.args.out.now in
    let middle : SinkState = g.O.Sink.state c.put.new.out in
    let before : SinkState = g.O.Sink.state c.put-2.new.out in
    let now : SinkState = g.O.Sink.state c.put-3.new.out in
    let o : Outcome = record { output = c.args.output.now; ends = c.args.ends.now; counts = c.args.counts.now } in
    let tail = outcome_tail o.ends o.counts in
    let head = outcome_head (length o.output) in
    let piece : c.deref.result.now ≡ head = c.deref.ensures.value ∙ c.in_ok-head.ensures in
    let last : c.deref-2.result.now ≡ tail = c.deref-2.ensures.value ∙ c.in_ok-tail.ensures in
    let first : Appends start.taken middle.taken head =
    subst (Appends start.taken middle.taken) piece c.in_ok-put.ensures.ok in
    let third : Appends before.taken now.taken tail =
    subst (Appends before.taken now.taken) last c.in_ok-put-3.ensures.ok in (
      text_of o,
      (refl, c.status.ensures.value o.output o.counts),
      joins start.taken middle.taken now.taken head (o.output ++ tail) first
          (joins middle.taken before.taken now.taken o.output tail c.in_ok-put-2.ensures.ok third),
    )

pub returns-clause-faults : goal.returns-clause-faults
returns-clause-faults g c =
    c.in_ok-put-3.ensures.faults ∙ c.in_ok-put-2.ensures.faults ∙ c.in_ok-put.ensures.faults
