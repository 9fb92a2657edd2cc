-- How often turns choose a place.
use Rattle.std.proofs.Common.{◌≡◌, ◌≢◌, ℕ, zero, suc, ◌+◌, ◌<◌, ◌≤◌, ◌==◌, Bool, true, false, if◌then◌else◌, List, length, get_or, set, sym, ap, ◌∙◌, refl, subst, inl, inr, arith}
use Rattle.std.proofs.lemmas.Bool.Decides.{eqb_tells}
use Rattle.std.proofs.lemmas.List.{get_or-set_same, get_or-set_other}
use Rattle.random_order.specs.Orders.{following, choice, after_turns, how_often}

abbrev one_if : Bool → ℕ
one_if b = if b then 1 else 0

-- one where the next turn chooses this place
abbrev pub hit : (place count number : ℕ) → ℕ
hit place count number = one_if (choice count (following number) == place)

turns_next : (turns number : ℕ) → after_turns (suc turns) number ≡ following (after_turns turns number)
turns_next zero number = refl
turns_next (suc turns) number = turns_next turns (following number)

pub turns_more : (turns number : ℕ) → after_turns (turns + 1) number ≡ following (after_turns turns number)
turns_more turns number =
    let next : turns + 1 ≡ suc turns = omega arith in
    ap (λ k. after_turns k number) next ∙ turns_next turns number

often_next : (place count turns number : ℕ)
    → how_often place count (suc turns) number ≡ how_often place count turns number + hit place count (after_turns turns number)
often_next place count zero number = omega arith
often_next place count (suc turns) number =
    let first = hit place count number in
    let here = how_often place count turns (following number) in
    let last = hit place count (after_turns turns (following number)) in
    let around : first + (here + last) ≡ first + here + last = omega arith in
    ap (λ k. first + k) (often_next place count turns (following number)) ∙ around

often_more : (place count turns number : ℕ)
    → how_often place count (turns + 1) number ≡ how_often place count turns number + hit place count (after_turns turns number)
often_more place count turns number =
    let next : turns + 1 ≡ suc turns = omega arith in
    ap (λ k. how_often place count k number) next ∙ often_next place count turns number

hit_few : (b : Bool) → one_if b ≤ 1
hit_few true = omega arith
hit_few false = omega arith

pub often_few : (place count turns number : ℕ) → how_often place count turns number ≤ turns
often_few place count zero number = omega arith
often_few place count (suc turns) number =
    let rest = often_few place count turns (following number) in
    let one = hit_few (choice count (following number) == place) in
    omega (arith, rest, one)

hit_at : (b : Bool) → b ≡ true → one_if b ≡ 1
hit_at true e = refl
hit_at false e = absurd (cc)

hit_not : (b : Bool) → b ≡ false → one_if b ≡ 0
hit_not false e = refl
hit_not true e = absurd (cc)

-- the next turn chooses the place
pub often_hit : (place count turns number chosen : ℕ)
    → chosen ≡ choice count (following (after_turns turns number)) → chosen ≡ place
    → how_often place count (turns + 1) number ≡ how_often place count turns number + 1
often_hit place count turns number chosen is here = elim (eqb_tells (choice count (following (after_turns turns number))) place) [
  | inl e ↦
      (let one = hit_at (choice count (following (after_turns turns number)) == place) e.0 in
      often_more place count turns number ∙ ap (λ k. how_often place count turns number + k) one)
  | inr e ↦ absurd (e.1 (sym is ∙ here))
]

-- it chooses another
pub often_miss : (place count turns number chosen : ℕ)
    → chosen ≡ choice count (following (after_turns turns number)) → chosen ≢ place
    → how_often place count (turns + 1) number ≡ how_often place count turns number
often_miss place count turns number chosen is apart = elim (eqb_tells (choice count (following (after_turns turns number))) place) [
  | inl e ↦ absurd (apart (is ∙ e.1))
  | inr e ↦
      (let none = hit_not (choice count (following (after_turns turns number)) == place) e.0 in
      often_more place count turns number ∙ ap (λ k. how_often place count turns number + k) none
      ∙ omega arith)
]

-- a tally in which the chosen place is counted
pub tally_more : (tally : List ℕ) (count turns number chosen : ℕ) → length tally ≡ 16
    → ((place : ℕ) → place < 16 → get_or tally place 0 ≡ how_often place count turns number)
    → chosen ≡ choice count (following (after_turns turns number)) → chosen < 16
    → (place : ℕ) → place < 16
    → get_or (set tally chosen (get_or tally chosen 0 + 1)) place 0 ≡ how_often place count (turns + 1) number
tally_more tally count turns number chosen len often is low place below = elim (eqb_tells place chosen) [
  | inl e ↦
      (let one = get_or tally chosen 0 + 1 in
      ap (λ k. get_or (set tally chosen one) k 0) e.1
      ∙ get_or-set_same tally chosen one 0 (subst (λ k. chosen < k) (sym len) low)
      ∙ ap (λ k. k + 1) (often chosen low)
      ∙ sym (often_hit chosen count turns number chosen is refl)
      ∙ ap (λ k. how_often k count (turns + 1) number) (sym e.1))
  | inr e ↦
      get_or-set_other tally chosen place (get_or tally chosen 0 + 1) 0 e.1
      ∙ often place below ∙ sym (often_miss place count turns number chosen is (λ same. e.1 (sym same)))
]
