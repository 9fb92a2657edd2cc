-- The runs of a plan are runs of its code; and what holds of a rewriting by it.
use Rattle.std.proofs.Common.{◌≡◌, List, Result, Ok, Err, subst, inl, inr}
use Rattle.std.specs.Prelude.{IfOk}
use Rattle.rv32_program.specs.Program.{Program}
use Rattle.templates.specs.declared.code.CodeWord.{CodeWord}
use Rattle.templates.specs.declared.plans.PlanEntry.{PlanEntry}
use Rattle.templates.specs.Code.{code_of}
use Rattle.templates.specs.Plans.{IsAdmissible}
use Rattle.templates.specs.Runs.{IsRun}
use Rattle.jump_map.specs.Image.{HasRunsOf}

pub runs_of : (program : Program) (words : List CodeWord) (plan : List PlanEntry)
    → program.code ≡ code_of words → IsAdmissible program plan → HasRunsOf words plan
runs_of program words plan same h = record {
  each = λ e c some. elim (h.serves e c).run [
    | inl none ↦ absurd (some none.run)
    | inr starts ↦ subst (λ f. IsRun f e.address e.run) same starts.run
  ];
}

-- what follows from two facts on a result
pub in_ok : {A E : Type 0} (r : Result A E) (P Q R : A → Type 0) → IfOk r P → IfOk r Q
    → ((a : A) → P a → Q a → R a) → IfOk r R
in_ok (Ok a) P Q R h g f = f a h g
in_ok (Err e) P Q R h g f = tt
