-- What the plan says of a place, as a text: its template, whether it polls, its scratch registers,
-- and the run that starts there.
use Rattle.std.specs.Prelude.{ℕ, zero, suc, Bool, true, false, ◌==◌, if◌then◌else◌, List, [], ◌++◌, codes}
use Rattle.std.specs.Fmt.{decimal}
use Rattle.rv32_text.specs.Listing.{register}
use Rattle.templates.specs.declared.plans.Scratch.{Scratch}
use Rattle.templates.specs.declared.plans.Scratches.{Scratches}
use Rattle.templates.specs.declared.plans.PlanEntry.{PlanEntry}
use Rattle.code_view.specs.Names.{template_name}

abbrev pub spill_mark : Bool → List ℕ
spill_mark true = codes " spilled"
spill_mark false = []

-- a scratch register by its letter; none is used where it would be x0
abbrev pub scratch_text : (letter : List ℕ) → Scratch → List ℕ
scratch_text letter x =
    if x.register == 0 then []
    else codes ", " ++ (letter ++ (codes " " ++ (register x.register ++ spill_mark x.spilled)))

abbrev pub scratches_text : Scratches → List ℕ
scratches_text x =
    scratch_text (codes "s") x.s ++ (scratch_text (codes "t") x.t ++ scratch_text (codes "u") x.u)

abbrev pub poll_text : Bool → List ℕ
poll_text true = codes ", polls"
poll_text false = []

-- the run of so many code words that starts at the place, with its own scratch registers
abbrev pub run_text : (words : ℕ) → Scratches → List ℕ
run_text zero x = []
run_text (suc n) x = codes "; run of " ++ (decimal (suc n) ++ scratches_text x)

abbrev pub plan_text : PlanEntry → List ℕ
plan_text e =
    template_name e.template ++ (poll_text e.polls
    ++ (scratches_text e.single ++ run_text e.run e.batch))
