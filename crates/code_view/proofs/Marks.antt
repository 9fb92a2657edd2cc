-- The mark of a word by the entry whose words these are is that by the whole plan.
use Rattle.std.proofs.Common.{◌≡◌, ℕ, zero, suc, ◌+◌, ◌*◌, ◌<◌, ◌≤◌, Bool, true, false, ◌&&◌, cond, leb, List, [], ◌∷◌, length, get_or, Option, Some, None, refl, sym, ap, ◌∙◌, subst, arith}
use Rattle.std.specs.Prelude.{Contains, find, option_and_then, slice_get}
use Rattle.std.specs.Option.{option_map_or}
use Rattle.std.proofs.lemmas.Bool.{eqb-true, leb-true}
use Rattle.rv32_program.specs.Program.{Program}
use Rattle.templates.specs.declared.commits.CommitKind.{CommitKind}
use Rattle.templates.specs.declared.commits.CommitKind.TheVariants.{Never}
use Rattle.templates.specs.declared.places.Part.{Part}
use Rattle.templates.specs.declared.places.Part.TheVariants.{Single, Head, Fast, Fallback}
use Rattle.templates.specs.declared.places.Place.{Place}
use Rattle.templates.specs.declared.plans.PlanEntry.{PlanEntry}
use Rattle.templates.specs.Commits.{part_items, is_word_by, is_word_of, commit_at}
use Rattle.templates.specs.Plans.{AscendsFrom, IsAdmissible}
use Rattle.templates.specs.Runs.{IsInRun}

-- the only one that passes a test is found
found : (p : PlanEntry → Bool) (xs : List PlanEntry) (e : PlanEntry) (k : ℕ) → k < length xs
    → get_or xs k e ≡ e
    → p e ≡ true → ((f : PlanEntry) → Contains xs f → p f ≡ true → f ≡ e) → find p xs ≡ Some e
found p [] e k low is here only = absurd (omega (arith, low))
found p (x ∷ xs) e zero low is here only =
    let first : x ≡ e = is in
    ap (λ t. cond t (Some x) (find p xs)) (ap p first ∙ here) ∙ (λ t. Some (first t))
found p (x ∷ xs) e (suc k) low is here only =
    by (p x) refl (found p xs e k (omega (arith, low)) is here
    (λ f m. let within = m.1 in only f (suc m.0, omega (arith, within), m.2)))
  where
    by : (b : Bool) → p x ≡ b → find p xs ≡ Some e → find p (x ∷ xs) ≡ Some e
    by true h rest = ap (λ t. cond t (Some x) (find p xs)) h ∙ (λ t. Some (only x (0, omega arith, refl) h t))
    by false h rest = ap (λ t. cond t (Some x) (find p xs)) h ∙ rest

at_least : (low : ℕ) (xs : List PlanEntry) (e : PlanEntry) (k : ℕ) → AscendsFrom low xs
    → k < length xs
    → get_or xs k e ≡ e → low ≤ e.address
at_least low [] e k h lt is = absurd (omega (arith, lt))
at_least low (x ∷ xs) e zero h lt is =
    let first : x ≡ e = is in
    subst (λ (f : PlanEntry). low ≤ f.address) first h.0
at_least low (x ∷ xs) e (suc k) h lt is =
    let more = at_least (x.address + 1) xs e k h.1 (omega (arith, lt)) is in
    let from = h.0 in
    omega (arith, more, from)

-- entries of one address are one
one_address : (low : ℕ) (xs : List PlanEntry) (f e : PlanEntry) (i j : ℕ) → AscendsFrom low xs
    → i < length xs → get_or xs i f ≡ f → j < length xs → get_or xs j e ≡ e
    → f.address ≡ e.address → f ≡ e
one_address low [] f e i j h lt is lu js same = absurd (omega (arith, lt))
one_address low (x ∷ xs) f e zero zero h lt is lu js same =
    let a : x ≡ f = is in
    let b : x ≡ e = js in
    sym a ∙ b
one_address low (x ∷ xs) f e zero (suc j) h lt is lu js same =
    let a : x ≡ f = is in
    let first : x.address ≡ f.address = ap (λ (y : PlanEntry). y.address) a in
    let more = at_least (x.address + 1) xs e j h.1 (omega (arith, lu)) js in
    absurd (omega (arith, first, more, same))
one_address low (x ∷ xs) f e (suc i) zero h lt is lu js same =
    let b : x ≡ e = js in
    let first : x.address ≡ e.address = ap (λ (y : PlanEntry). y.address) b in
    let more = at_least (x.address + 1) xs f i h.1 (omega (arith, lt)) is in
    absurd (omega (arith, first, more, same))
one_address low (x ∷ xs) f e (suc i) (suc j) h lt is lu js same =
    one_address (x.address + 1) xs f e i j h.1 (omega (arith, lt)) is (omega (arith, lu)) js same

both_hold : (s t : Bool) → (s && t) ≡ true → (s ≡ true) × (t ≡ true)
both_hold true t e = (refl, e)
both_hold false t e = let bad : false ≡ true = e in absurd (cc)

in_run : (e : PlanEntry) (a : ℕ) → is_word_by Fast a e ≡ true → IsInRun e a
in_run e a h =
    let tests = both_hold (leb e.address a) (leb (suc a) (e.address + 4 * e.run)) h in
    record {
      from = leb-true e.address a tests.0;
      below = leb-true (suc a) (e.address + 4 * e.run) tests.1;
    }

-- a word is one of no other entry
only_one : (program : Program) (plan : List PlanEntry) (e f : PlanEntry) (part : Part) (a : ℕ)
    → IsAdmissible program plan
    → Contains plan e → Contains plan f → is_word_by part a e ≡ true
    → is_word_by part a f ≡ true → f ≡ e
only_one program plan e f Fast a adm there also mine other =
    adm.apart f e a also there (in_run f a other) (in_run e a mine)
only_one program plan e f Single a adm there also mine other =
    one_address 0 plan f e also.0 there.0 adm.ascends also.1 also.2 there.1 there.2
    (eqb-true f.address a other ∙ sym (eqb-true e.address a mine))
only_one program plan e f Head a adm there also mine other =
    one_address 0 plan f e also.0 there.0 adm.ascends also.1 also.2 there.1 there.2
    (eqb-true f.address a other ∙ sym (eqb-true e.address a mine))
only_one program plan e f Fallback a adm there also mine other =
    one_address 0 plan f e also.0 there.0 adm.ascends also.1 also.2 there.1 there.2
    (eqb-true f.address a other ∙ sym (eqb-true e.address a mine))

pub same_mark : (program : Program) (plan : List PlanEntry) (e : PlanEntry) (p : Place)
    → IsAdmissible program plan
    → Contains plan e → is_word_of p e ≡ true
    → commit_at program (e ∷ []) (Some p) ≡ commit_at program plan (Some p)
same_mark program plan e p adm there mine =
    let mark : Option PlanEntry → CommitKind = λ o. option_map_or (λ i. i.commit)
    (option_and_then (λ x. slice_get (part_items program x p.part) p.word) o) Never in
    ap mark (ap (λ t. cond t (Some e) None) mine
    ∙ sym (found (is_word_of p) plan e there.0 there.1 there.2 mine
    (λ f also other. only_one program plan e f p.part p.address adm there also mine other)))
