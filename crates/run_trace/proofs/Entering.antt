-- The entries of a plan, put one before another.
use Rattle.std.proofs.Common.{◌≡◌, ℕ, ◌<◌, ◌≤◌, Bool, true, false, List, [], ◌∷◌, length, Some, refl, sym, ap, ◌∙◌, subst, inl, inr, arith}
use Rattle.std.specs.Prelude.{find, option_and_then, slice_get, set}
use Rattle.std.specs.Option.{option_map_or}
use Rattle.std.specs.BTreeMap.{BTreeMap, get}
use Rattle.std.specs.Ordering.{nat_cmp}
use Rattle.std.proofs.lemmas.Bool.{cases_Bool}
use Rattle.rv32_program.specs.Program.{Program}
use Rattle.templates.specs.declared.commits.CommitKind.TheVariants.{Never}
use Rattle.templates.specs.declared.places.Place.{Place}
use Rattle.templates.specs.declared.plans.PlanEntry.{PlanEntry}
use Rattle.templates.specs.Commits.{part_items, is_word_of, commit_at}

-- 1. A search of entries

pub found_here : {X : Type 0} (p : X → Bool) (x : X) (xs : List X) → p x ≡ true → find p (x ∷ xs) ≡ Some x
found_here p x xs h = rw h refl

pub found_behind : {X : Type 0} (p : X → Bool) (x : X) (xs : List X) → p x ≡ false → find p (x ∷ xs) ≡ find p xs
found_behind p x xs h = rw h refl

-- what is found passes the test
pub passes : {X : Type 0} (p : X → Bool) (xs : List X) (e : X) → find p xs ≡ Some e → p e ≡ true
passes p [] e h = absurd (cc)
passes p (x ∷ xs) e h = elim (cases_Bool (p x)) [
  | inl t ↦
      let is : x ≡ e = (let found = sym (found_here p x xs t) ∙ h in cc) in
      subst (λ y. p y ≡ true) is t
  | inr f ↦ passes p xs e (sym (found_behind p x xs f) ∙ h)
]

-- 2. The commit of a place's word, by its entry alone

pub commit_one : (program : Program) (plan : List PlanEntry) (p : Place) (e : PlanEntry)
    → find (is_word_of p) plan ≡ Some e → commit_at program (e ∷ []) (Some p) ≡ commit_at program plan (Some p)
commit_one program plan p e h =
    ap (λ o. option_map_or (λ i. i.commit)
    (option_and_then (λ (e : PlanEntry). slice_get (part_items program e p.part) p.word) o) Never)
    (found_here (is_word_of p) e [] (passes (is_word_of p) plan e h) ∙ sym h)

-- a list of one entry, with another in its place
pub set_one : (xs : List PlanEntry) (e : PlanEntry) → length xs ≡ 1 → set xs 0 e ≡ e ∷ []
set_one [] e h = absurd (cc)
set_one (x ∷ []) e h = refl
set_one (x ∷ y ∷ ys) e h = absurd (omega (arith, h))

-- 3. One entry more

-- the runs while an entry is put at quarters from this one on
pub record ArePutTo (old new : BTreeMap ℕ PlanEntry) (e : PlanEntry) (first to : ℕ) : Type 0 where
  pub from : first ≤ to
  pub put : (q : ℕ) → first ≤ q → q < to → get nat_cmp new q ≡ Some e
  pub below : (q : ℕ) → q < first → get nat_cmp new q ≡ get nat_cmp old q
  pub above : (q : ℕ) → to ≤ q → get nat_cmp new q ≡ get nat_cmp old q
