-- Registers as a list and as a function.
use Rattle.std.proofs.Common.{◌≡◌, ℕ, ◌<◌, true, false, eqb, ltb, List, length, get_or, set, refl, sym, ◌∙◌, arith, inl, inr}
use Rattle.std.proofs.Math.Path.{fun_ext}
use Rattle.std.proofs.lemmas.List.{get_or-set_same, get_or-set_other, length-set}
use Rattle.std.proofs.lemmas.Bool.Decides.{eqb_tells, nat_tests}
use Rattle.rv32_step.specs.Registers.{registers_of, reg, put}

pub reads : (values : List ℕ) (r : ℕ) → get_or values 0 0 ≡ 0 → get_or values r 0 ≡ reg (registers_of values) r
unfolding reg
reads values r zero_is = elim (eqb_tells r 0) [
  | inl e ↦ rw (e.0, e.1) zero_is
  | inr e ↦ rw e.0 refl
]

pub writes : (values : List ℕ) (r v : ℕ) → get_or values 0 0 ≡ 0 → r < length values → registers_of (set (set values r v) 0 0) ≡ put (registers_of values) r v
unfolding put
writes values r v zero_is within = fun_ext (λ q. elim (eqb_tells q 0) [
  | inl z ↦ elim (eqb_tells r 0) [
    | inl e ↦ rw (z.1, e.1) (get_or-set_same (set values 0 v) 0 0 0 (omega (arith, length-set {A = ℕ})) ∙ sym zero_is)
    | inr e ↦ (let n : eqb 0 r ≡ false = grind (arith, nat_tests) in rw (z.1, n) (get_or-set_same (set values r v) 0 0 0 (omega (arith, length-set {A = ℕ})) ∙ sym zero_is))
  ]
  | inr z ↦ get_or-set_other (set values r v) 0 q 0 0 z.1 ∙ elim (eqb_tells q r) [
    | inl e ↦ (let some : ltb 0 r ≡ true = grind (arith, nat_tests) in rw (e.0, some, e.1) (get_or-set_same values r v 0 within))
    | inr e ↦ rw e.0 (get_or-set_other values r q v 0 e.1)
  ]
])
