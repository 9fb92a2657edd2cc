use Rattle.std.proofs.Common.{ℕ, map, refl, sym, ap, ◌∙◌, subst}
use Rattle.std.specs.Prelude.{position}
use Rattle.elf32_read.specs.Segments.{segment_of}
use Rattle.exec_map.specs.declared.refused.ProgramRule.TheVariants.{TooHigh, Overlap, WritableCode}
use Rattle.exec_map.specs.Refusals.{AreOverlapping, IsFirstOverlap, is_too_high, is_writable_code}
use Rattle.exec_map.specs.Index.{AreApart}
use Rattle.exec_map.proofs.Overlaps.{apart_none, none_apart}
use Rattle.exec_map.proofs.Judging.{refused, below_12, below_13, below_14, below_15}
use Rattle.exec_map.proofs.rules.broken_by_segments.Goals as goal
use Rattle.exec_map.proofs.rules.broken_by_segments.Goals.{then-not-are_apart+in_default-first_overlap, else-not-are_apart}

pub returns-in-Some-clause-some : goal.returns-in-Some-clause-some
returns-in-Some-clause-some c =
    refused c.args.e.now (TooHigh c.in-Some.segment) (ap (position is_too_high) (sym c.segments-all.ensures.value) ∙ sym c.in-Some.ensures) (below_12 c.args.e.now)

pub returns-in-Some-first_overlap-clause-some : goal.returns-in-Some-first_overlap-clause-some
returns-in-Some-first_overlap-clause-some c =
    let e = c.args.e.now in
    let i = c.in-Some-first_overlap.first in
    let j = c.in-Some-first_overlap.second in
    refused e (Overlap i j) (subst (λ xs. IsFirstOverlap xs i j) c.segments-all.ensures.value c.in-Some-first_overlap.ensures.some) (below_13 e (c.in_default.ensures ∙ ap (position is_too_high) c.segments-all.ensures.value))

pub returns-in_err-segment-clause-none : goal.returns-in_err-segment-clause-none
returns-in_err-segment-clause-none c =
    let e = c.args.e.now in
    let sorted = map segment_of c.args.sorted.now in
    let none : (k l : ℕ) → AreOverlapping e.segments k l → ⊥ =
    elim c.if-not-are_apart.branch [
      | then-not-are_apart+in_default-first_overlap w ↦ subst (λ xs. (k l : ℕ) → AreOverlapping xs k l → ⊥) c.segments-all.ensures.value w.in_default-first_overlap.ensures.none
      | else-not-are_apart w ↦ apart_none e.segments sorted c.requires.permutation (w.if-not-are_apart.ensures.yes refl)
    ] in
    rw c.from_residual.ensures
    (below_15 e (below_14 e (below_13 e (c.in_default.ensures ∙ ap (position is_too_high) c.segments-all.ensures.value)) none) (c.in_err-segment.ensures ∙ ap (position is_writable_code) c.segments-all.ensures.value))

pub returns-in_err-segment-clause-searchable : goal.returns-in_err-segment-clause-searchable
returns-in_err-segment-clause-searchable c =
    let e = c.args.e.now in
    let sorted = map segment_of c.args.sorted.now in
    let apart : AreApart sorted =
    elim c.if-not-are_apart.branch [
      | then-not-are_apart+in_default-first_overlap w ↦ none_apart e.segments sorted c.requires (subst (λ xs. (k l : ℕ) → AreOverlapping xs k l → ⊥) c.segments-all.ensures.value w.in_default-first_overlap.ensures.none)
      | else-not-are_apart w ↦ w.if-not-are_apart.ensures.yes refl
    ] in
    rw c.from_residual.ensures (record { placed = c.requires.placed; memory = c.requires.memory; apart = apart })

pub returns-clause-some : goal.returns-clause-some
returns-clause-some c =
    let e = c.args.e.now in
    let sorted = map segment_of c.args.sorted.now in
    let none : (k l : ℕ) → AreOverlapping e.segments k l → ⊥ =
    elim c.if-not-are_apart.branch [
      | then-not-are_apart+in_default-first_overlap w ↦ subst (λ xs. (k l : ℕ) → AreOverlapping xs k l → ⊥) c.segments-all.ensures.value w.in_default-first_overlap.ensures.none
      | else-not-are_apart w ↦ apart_none e.segments sorted c.requires.permutation (w.if-not-are_apart.ensures.yes refl)
    ] in
    refused e (WritableCode c.in_ok-segment.segment) (ap (position is_writable_code) (sym c.segments-all.ensures.value) ∙ sym c.in_ok-segment.ensures)
    (below_14 e (below_13 e (c.in_default.ensures ∙ ap (position is_too_high) c.segments-all.ensures.value)) none)
