-- The runs of a plan that a rewriting has.
use Rattle.std.proofs.Common.{◌≢◌, ◌⊎◌, List, inl, inr, subst}
use Rattle.rv32_program.specs.Program.{Program}
use Rattle.templates.specs.declared.code.CodeWord.{CodeWord}
use Rattle.templates.specs.declared.plans.PlanEntry.{PlanEntry}
use Rattle.templates.specs.Code.{HasCode}
use Rattle.templates.specs.Plans.{StartsNoRun, StartsRun}
use Rattle.templates.specs.Runs.{IsRun}
use Rattle.jump_map.specs.Image.{Cell, HasRunsOf, IsRewriting}

run_of : (p : Program) (e : PlanEntry) → StartsNoRun e ⊎ StartsRun p.code e → e.run ≢ 0
    → IsRun p.code e.address e.run
run_of p e (inl none) some = absurd (some none.run)
run_of p e (inr starts) some = starts.run

pub has_runs : (p : Program) (words : List CodeWord) (plan : List PlanEntry) (image : List Cell)
    → HasCode p words → IsRewriting p plan image → HasRunsOf words plan
has_runs p words plan image code h = record {
  each = λ e there some. subst (λ c. IsRun c e.address e.run) code
      (run_of p e (h.admissible.serves e there).run some);
}
