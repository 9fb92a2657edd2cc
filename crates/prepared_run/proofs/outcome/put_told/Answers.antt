use Rattle.std.proofs.Common.{◌≡◌, ℕ, List, [], sym, ap, ◌∙◌, subst, IfErr, Result}
use Rattle.rv32_program.specs.declared.End.{End}
use Rattle.replay.specs.node_model.declared.NodeCounts.{NodeCounts}
use Rattle.replay.specs.node_model.Outcome.{Outcome}
use Rattle.dsm_io.specs.States.{SinkState}
use Rattle.text_output.specs.declared.failure.Failure.{Failure}
use Rattle.prepared_run.specs.Outcomes.{told, IsTextOfOutcome}
use Rattle.text_output.specs.Failures.{FailsAs, IsNever}
use Rattle.replay.specs.dsm_core.CoreParts.{outcome_of}
use Rattle.prepared_run.proofs.outcome.put_told.Goals as goal

-- an outcome by its parts
abbrev of : List ℕ → List End → List NodeCounts → Outcome
of output ends counts = record { output = output; ends = ends; counts = counts }

-- the text isn't put whole, of an outcome that is the same
fails_as : (one other : Outcome) (before now : SinkState) (r : Result ℕ Failure) → one ≡ other
    → IfErr r (FailsAs (IsTextOfOutcome one) IsNever IsNever before now)
    → IfErr r (FailsAs (IsTextOfOutcome other) IsNever IsNever before now)
fails_as one other before now r same h =
    subst (λ o. IfErr r (FailsAs (IsTextOfOutcome o) IsNever IsNever before now)) same h

pub returns-then-brief-clause-failure : goal.returns-then-brief-clause-failure
returns-then-brief-clause-failure g c =
    let before : SinkState = g.O.Sink.state c.args.out.now in
    let now : SinkState = g.O.Sink.state c.put_outcome.new.out in
    let o : Outcome = outcome_of c.args.outcome.now in
    let same : of c.deref.result.now c.deref-then-brief.result.now [] ≡ told c.args.brief o =
    ap (λ x. of x c.deref-then-brief.result.now []) c.deref.ensures.value
    ∙ ap (λ x. of o.output x []) c.deref-then-brief.ensures.value
    ∙ ap (λ b. told b o) (sym c.if-brief.true) in
    fails_as _ (told c.args.brief o) before now c.put_outcome.result same c.put_outcome.ensures.failure

pub returns-else-brief-clause-failure : goal.returns-else-brief-clause-failure
returns-else-brief-clause-failure g c =
    let before : SinkState = g.O.Sink.state c.args.out.now in
    let now : SinkState = g.O.Sink.state c.put_outcome-else-brief.new.out in
    let o : Outcome = outcome_of c.args.outcome.now in
    let output = c.deref-else-brief.result.now in
    let ends = c.deref-else-brief-2.result.now in
    let counts = c.deref-else-brief-3.result.now in
    let same : of output ends counts ≡ told c.args.brief o =
    ap (λ x. of x ends counts) c.deref-else-brief.ensures.value
    ∙ ap (λ x. of o.output x counts) c.deref-else-brief-2.ensures.value
    ∙ ap (λ x. of o.output o.ends x) c.deref-else-brief-3.ensures.value
    ∙ ap (λ b. told b o) (sym c.if-brief.false) in
    fails_as _ (told c.args.brief o) before now c.put_outcome-else-brief.result same
    c.put_outcome-else-brief.ensures.failure
