-- The text of an outcome, which is put in pieces.
use Rattle.std.proofs.Common.{◌≡◌, ℕ, Bool, true, false, List, refl, ◌∙◌}
use Rattle.text_output.specs.declared.failure.Failure.{Failure}
use Rattle.dsm_io.specs.States.{SinkState}
use Rattle.node_model.specs.Outcome.{Outcome}
use Rattle.prepared_run.specs.Outcomes.{status_of, told, IsTextOfOutcome}
use Rattle.commands.specs.Headline.{IsTextWith}
use Rattle.text_output.specs.Failures.{FailsAs, Puts, IsNever}
use Rattle.std.specs.Prelude.{Result, Ok, Err, IfOk, IfErr}
use Rattle.text_output.proofs.Pieces.{fails_too, never}

-- the text of an outcome with these facts is put, or isn't

told_status : (brief : Bool) (o : Outcome) → status_of (told brief o) ≡ status_of o
told_status true o = refl
told_status false o = refl

text_with : (Is : Outcome → Type 0) (brief : Bool) (o : Outcome) (text : List ℕ) (status : ℕ) → Is o
    → IsTextOfOutcome (told brief o) text status → IsTextWith Is brief text status
text_with Is brief o text status is h =
    record { outcome = o; is = is; text_is = h.0; status_is = h.1 ∙ told_status brief o }

pub outcome_put : (Is : Outcome → Type 0) (brief : Bool) (o : Outcome)
    (before now : SinkState) (r : Result ℕ Failure) → Is o
    → IfOk r (λ status. Puts (IsTextOfOutcome (told brief o)) status before now)
    → IfOk r (λ status. Puts (IsTextWith Is brief) status before now)
outcome_put Is brief o before now (Ok status) is put =
    (put.0, text_with Is brief o put.0 status is put.1, put.2)
outcome_put Is brief o before now (Err f) is put = tt

pub outcome_fails : (Is : Outcome → Type 0) (brief : Bool) (Reason OfLayout : List ℕ → Type 0)
    (o : Outcome) (before now : SinkState) (r : Result ℕ Failure) → Is o
    → IfErr r (FailsAs (IsTextOfOutcome (told brief o)) IsNever IsNever before now)
    → IfErr r (FailsAs (IsTextWith Is brief) Reason OfLayout before now)
outcome_fails Is brief Reason OfLayout o before now (Ok status) is h = tt
outcome_fails Is brief Reason OfLayout o before now (Err f) is h =
    fails_too (IsTextOfOutcome (told brief o)) (IsTextWith Is brief) IsNever IsNever Reason OfLayout
    before now f (λ text status t. (status, text_with Is brief o text status is t)) (never Reason)
    (never OfLayout) h
