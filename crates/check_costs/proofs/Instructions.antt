-- How many places have a code word.
use Rattle.std.proofs.Common.{◌≡◌, ℕ, zero, suc, ◌+◌, ◌<◌, ◌≤◌, Bool, true, false, cond, eqb, List, [], ◌∷◌, length, get_or, Option, Some, None, refl, sym, ap, ◌∙◌, subst, arith, inl, inr}
use Rattle.std.specs.Prelude.{Contains, IsSome, is_some}
use Rattle.std.specs.List.{count_by, sum_by}
use Rattle.std.proofs.lemmas.Bool.Decides.{eqb_tells}
use Rattle.std.proofs.lemmas.List.{length-map}
use Rattle.std.proofs.lemmas.List.Sums.{sum_by-cons}
use Rattle.rv32_decode.specs.declared.Instr.{Instr}
use Rattle.rv32_program.specs.Program.{Program}
use Rattle.templates.specs.declared.code.CodeWord.{CodeWord}
use Rattle.templates.specs.declared.plans.PlanEntry.{PlanEntry}
use Rattle.templates.specs.Code.{HasCode, Ascends, code_of}
use Rattle.templates.specs.Plans.{AscendsFrom, IsAdmissible, addresses}
use Rattle.check_costs.specs.Counts.{has_code}

-- 1. The entry of an address

-- as a number
abbrev is_at : ℕ → PlanEntry → ℕ
is_at a e = cond (eqb a e.address) 1 0

none_at : (a low : ℕ) (plan : List PlanEntry) → AscendsFrom low plan → a < low → sum_by (is_at a) plan ≡ 0
none_at a low [] h below = refl
none_at a low (e ∷ es) h below =
    let first = h.0 in
    let one = sum_by-cons (is_at a) e es in
    let rest = none_at a (e.address + 1) es h.1 (omega (arith, first, below)) in
    let here : is_at a e ≡ 0 = ap (λ b. cond b 1 0) apart in
    omega (arith, one, rest, here)
  where
    apart : eqb a e.address ≡ false
    apart = elim (eqb_tells a e.address) [
      | inl same ↦ let is = same.1 in let first = h.0 in absurd (omega (arith, is, first, below))
      | inr other ↦ other.0
    ]

one_at : (a low : ℕ) (plan : List PlanEntry) → AscendsFrom low plan → (k : ℕ) → k < length plan
    → get_or (addresses plan) k a ≡ a → sum_by (is_at a) plan ≡ 1
one_at a low [] h k within is = absurd (omega (arith, within))
one_at a low (e ∷ es) h zero within is =
    let here : e.address ≡ a = is in
    let one = sum_by-cons (is_at a) e es in
    let rest = none_at a (e.address + 1) es h.1 (omega (arith, here)) in
    let first : is_at a e ≡ 1 = ap (λ b. cond b 1 0) same in
    omega (arith, one, rest, first)
  where
    same : eqb a e.address ≡ true
    same = elim (eqb_tells a e.address) [
      | inl it ↦ it.0
      | inr other ↦ let no = other.1 in let here : e.address ≡ a = is in absurd (no (sym here))
    ]
one_at a low (e ∷ es) h (suc k) within is =
    let one = sum_by-cons (is_at a) e es in
    let rest = one_at a (e.address + 1) es h.1 k (omega (arith, within)) is in
    let here : is_at a e ≡ 0 = ap (λ b. cond b 1 0) apart in
    omega (arith, one, rest, here)
  where
    at_least : (lo : ℕ) (xs : List PlanEntry) → AscendsFrom lo xs → (n : ℕ) → n < length xs
        → get_or (addresses xs) n a ≡ a → lo ≤ a
    at_least lo xs g n low at = above lo xs g n low at
      where
        above : (l : ℕ) (ys : List PlanEntry) → AscendsFrom l ys → (m : ℕ) → m < length ys
            → get_or (addresses ys) m a ≡ a → l ≤ a
        above l [] g m low at = absurd (omega (arith, low))
        above l (y ∷ ys) g zero low at = let here : y.address ≡ a = at in let first = g.0 in omega (arith, here, first)
        above l (y ∷ ys) g (suc m) low at =
            let first = g.0 in
            let more = above (y.address + 1) ys g.1 m (omega (arith, low)) at in
            omega (arith, first, more)

    apart : eqb a e.address ≡ false
    apart = elim (eqb_tells a e.address) [
      | inl it ↦
          let same = it.1 in
          let more = at_least (e.address + 1) es h.1 k (omega (arith, within)) is in
          absurd (omega (arith, same, more))
      | inr other ↦ other.0
    ]

-- 2. The code words

before : (words : List CodeWord) (low a : ℕ) → Ascends low words → a < low → code_of words a ≡ None
before [] low a h below = refl
before (w ∷ ws) low a h below =
    let first = h.0 in
    (λ j. cond (apart j) (Some w.instruction) (code_of ws a))
    ∙ before ws (w.address + 4) a h.3 (omega (arith, first, below))
  where
    apart : eqb w.address a ≡ false
    apart = elim (eqb_tells w.address a) [
      | inl same ↦ let is = same.1 in let first = h.0 in absurd (omega (arith, is, first, below))
      | inr other ↦ other.0
    ]

-- one word more makes one place more
abbrev coded : List CodeWord → PlanEntry → ℕ
coded words e = cond (is_some (code_of words e.address)) 1 0

word_more : (w : CodeWord) (ws : List CodeWord) (e : PlanEntry) → code_of ws w.address ≡ None
    → coded (w ∷ ws) e ≡ is_at w.address e + coded ws e
word_more w ws e none = elim (eqb_tells w.address e.address) [
  | inl same ↦
      let rest : coded ws e ≡ 0 = ap (λ a. cond (is_some (code_of ws a)) 1 0) (sym same.1)
      ∙ ap (λ o. cond (is_some o) 1 0) none in
      let whole : coded (w ∷ ws) e ≡ 1 =
      ap (λ b. cond (is_some (cond b (Some w.instruction) (code_of ws e.address))) 1 0) same.0 in
      let here : is_at w.address e ≡ 1 = ap (λ b. cond b 1 0) same.0 in
      omega (arith, rest, whole, here)
  | inr other ↦
      let whole : coded (w ∷ ws) e ≡ coded ws e =
      ap (λ b. cond (is_some (cond b (Some w.instruction) (code_of ws e.address))) 1 0) other.0 in
      let here : is_at w.address e ≡ 0 = ap (λ b. cond b 1 0) other.0 in
      omega (arith, whole, here)
]

words_more : (w : CodeWord) (ws : List CodeWord) (plan : List PlanEntry) → code_of ws w.address ≡ None
    → sum_by (coded (w ∷ ws)) plan ≡ sum_by (is_at w.address) plan + sum_by (coded ws) plan
words_more w ws [] none = refl
words_more w ws (e ∷ es) none =
    let all = sum_by-cons (coded (w ∷ ws)) e es in
    let one = sum_by-cons (is_at w.address) e es in
    let two = sum_by-cons (coded ws) e es in
    let here = word_more w ws e none in
    let rest = words_more w ws es none in
    omega (arith, all, one, two, here, rest)

none_coded : (plan : List PlanEntry) → sum_by (coded []) plan ≡ 0
none_coded [] = refl
none_coded (e ∷ es) =
    let one = sum_by-cons (coded []) e es in
    let rest = none_coded es in
    let here : coded [] e ≡ 0 = refl in
    omega (arith, one, rest, here)

still : (w : CodeWord) (ws : List CodeWord) (a : ℕ) → IsSome (code_of ws a) → IsSome (code_of (w ∷ ws) a)
still w ws a some = by (eqb w.address a)
  where
    by : (b : Bool) → IsSome (cond b (Some w.instruction) (code_of ws a))
    by true = refl
    by false = some

first_there : (w : CodeWord) (ws : List CodeWord) → IsSome (code_of (w ∷ ws) w.address)
first_there w ws = elim (eqb_tells w.address w.address) [
  | inl same ↦ subst (λ b. IsSome (cond b (Some w.instruction) (code_of ws w.address))) (sym same.0) refl
  | inr other ↦ let no = other.1 in absurd (no refl)
]

as_many : (words : List CodeWord) (low : ℕ) (plan : List PlanEntry) → Ascends low words → AscendsFrom 0 plan
    → ((a : ℕ) → IsSome (code_of words a) → Contains (addresses plan) a)
    → sum_by (coded words) plan ≡ length words
as_many [] low plan h rises all = none_coded plan
as_many (w ∷ ws) low plan h rises all =
    let none = before ws (w.address + 4) w.address h.3 (omega arith) in
    let there = all w.address (first_there w ws) in
    let long = length-map plan (λ e. e.address) in
    let low_k = there.1 in
    let one = one_at w.address 0 plan rises there.0 (omega (arith, low_k, long)) there.2 in
    let rest = as_many ws (w.address + 4) plan h.3 rises (λ a some. all a (still w ws a some)) in
    let split = words_more w ws plan none in
    omega (arith, split, one, rest)

pub instructions_are : (program : Program) (plan : List PlanEntry) (words : List CodeWord) → HasCode program words
    → IsAdmissible program plan → Ascends 0 words → count_by (has_code (code_of words)) plan ≡ length words
instructions_are program plan words same admissible ascends =
    as_many words 0 plan ascends admissible.ascends
    (λ a some. admissible.complete a (inl (subst (λ (c : ℕ → Option Instr). IsSome (c a)) (sym same) some)))
