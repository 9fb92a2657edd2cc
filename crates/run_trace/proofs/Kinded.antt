-- The kinds of the words of an image, one after another.
use Rattle.std.proofs.Common.{◌≡◌, ℕ, zero, suc, ◌+◌, ◌-◌, ◌*◌, ◌/◌, ◌%◌, ◌<◌, true, leb, eqb, List, [], ◌∷◌, ◌++◌, length, Option, Some, None, refl, sym, ap, ◌∙◌, inl, inr, arith}
use Rattle.std.specs.Prelude.{slice_get, slice_index_or, option_and_then}
use Rattle.std.specs.Option.{option_map_or}
use Rattle.std.proofs.lemmas.Bool.{cases_lt}
use Rattle.std.proofs.lemmas.Bool.Decides.{nat_tests}
use Rattle.std.proofs.lemmas.List.{get_or_past, length-append}
use Rattle.std.proofs.lemmas.Option.{slice_get_past}
use Rattle.rv32_program.specs.Program.{Program}
use Rattle.templates.specs.Commits.{commit_at}
use Rattle.templates.specs.declared.commits.CommitKind.{CommitKind}
use Rattle.templates.specs.declared.commits.CommitKind.TheVariants.{Never}
use Rattle.templates.specs.declared.places.Place.{Place}
use Rattle.templates.specs.declared.plans.PlanEntry.{PlanEntry}
use Rattle.replay.specs.node_model.jump_map.Image.{Cell, image_base}
use Rattle.replay.specs.node_model.jump_map.Maps.{index_of, old_of}
use Rattle.run_trace.specs.Kinds.{kind_by}

-- the place of the word of a number
abbrev place_in : List Cell → ℕ → Option Place
place_in image k = option_and_then (λ (c : Cell). c.place) (slice_get image k)

-- the kinds of so many of the first words
pub record AreKindsTo (program : Program) (plan : List PlanEntry) (image : List Cell) (kinds : List CommitKind) (n : ℕ) : Type 0 where
  pub len : length kinds ≡ n
  pub each : (k : ℕ) → k < n → slice_index_or kinds k Never ≡ commit_at program plan (place_in image k)

pub index_at : (k : ℕ) → index_of (image_base + 4 * k) ≡ Some k
index_at k =
    let low : leb image_base (image_base + 4 * k) ≡ true = grind (arith, nat_tests) in
    let four : eqb ((image_base + 4 * k) % 4) 0 ≡ true = grind (arith, nat_tests) in
    let here : (image_base + 4 * k - image_base) / 4 ≡ k = omega arith in
    rw (low, four, here) refl

before : (kinds : List CommitKind) (kind : CommitKind) (k : ℕ) → k < length kinds
    → slice_index_or (kinds ++ kind ∷ []) k Never ≡ slice_index_or kinds k Never
before [] kind k lt = absurd (omega (arith, lt))
before (x ∷ xs) kind zero lt = refl
before (x ∷ xs) kind (suc k) lt = before xs kind k (omega (arith, lt))

last : (kinds : List CommitKind) (kind : CommitKind) → slice_index_or (kinds ++ kind ∷ []) (length kinds) Never ≡ kind
last [] kind = refl
last (x ∷ xs) kind = last xs kind

pub one_kind : (program : Program) (plan : List PlanEntry) (image : List Cell) (kinds : List CommitKind) (n : ℕ) (kind : CommitKind) (place : Option Place) → AreKindsTo program plan image kinds n → place ≡ old_of image (image_base + 4 * n) → kind ≡ commit_at program plan place → AreKindsTo program plan image (kinds ++ kind ∷ []) (n + 1)
one_kind program plan image kinds n kind place are at is = record {
  len = omega (arith, are.len, length-append kinds (kind ∷ []));
  each = λ k lt. elim (cases_lt k n) [
    | inl below ↦ before kinds kind k (omega (arith, below, are.len)) ∙ are.each k below
    | inr above ↦
        let here : k ≡ length kinds = omega (arith, lt, above, are.len) in
        let num : n ≡ k = omega (arith, lt, above) in
        ap (λ j. slice_index_or (kinds ++ kind ∷ []) j Never) here ∙ last kinds kind ∙ is
        ∙ ap (commit_at program plan) (at
        ∙ ap (option_and_then (λ (c : Cell). c.place)) (ap (option_and_then (slice_get image)) (index_at n))
        ∙ ap (place_in image) num)
  ];
}

by_number : (program : Program) (plan : List PlanEntry) (image : List Cell) (kinds : List CommitKind) → AreKindsTo program plan image kinds (length image) → (o : Option ℕ) → option_map_or (λ k. slice_index_or kinds k Never) o Never ≡ commit_at program plan (option_and_then (λ (c : Cell). c.place) (option_and_then (slice_get image) o))
by_number program plan image kinds are None = refl
by_number program plan image kinds are (Some k) = elim (cases_lt k (length image)) [
  | inl below ↦ are.each k below
  | inr above ↦
      get_or_past kinds k Never (omega (arith, above, are.len))
      ∙ ap (λ (o : Option Cell). commit_at program plan (option_and_then (λ (c : Cell). c.place) o)) (sym (slice_get_past image k (omega (arith, above))))
]

pub all_kinds : (program : Program) (plan : List PlanEntry) (image : List Cell) (kinds : List CommitKind) (n : ℕ) → AreKindsTo program plan image kinds n → n ≡ length image → (new : ℕ) → kind_by kinds new ≡ commit_at program plan (old_of image new)
all_kinds program plan image kinds n are all new =
    by_number program plan image kinds (record { len = are.len ∙ all; each = λ k lt. are.each k (omega (arith, lt, all)) }) (index_of new)
