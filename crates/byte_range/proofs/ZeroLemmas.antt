-- Ranges of zeros.
use Rattle.std.proofs.Common.{◌≡◌, ℕ, ◌-◌, Bool, true, false, cond, List, zero, suc, replicate, get_or, refl, ap, ◌∙◌}
use Rattle.std.proofs.Math.Path.{fun_ext}
use Rattle.byte_range.specs.Range.{Range, memory_of}

abbrev pub zeros_of : ℕ → List ℕ
zeros_of n = replicate n 0

zeros_get : (n k : ℕ) → get_or (zeros_of n) k 0 ≡ 0
zeros_get zero k = refl
zeros_get (suc n) zero = refl
zeros_get (suc n) (suc k) = zeros_get n k

either_zero : (b : Bool) (x : ℕ) → x ≡ 0 → cond b x 0 ≡ 0
either_zero true x is = is
either_zero false x is = refl

-- a range of zeros among zeros
pub memory_of-zeros : (r : Range) (base n : ℕ) → r ≡ record { base = base; bytes = zeros_of n } → memory_of r (λ _. 0) ≡ (λ _. 0)
unfolding memory_of
memory_of-zeros r base n is = ap (λ (q : Range). memory_of q (λ _. 0)) is ∙ fun_ext (λ x. either_zero _ (get_or (zeros_of n) (x - base) 0) (zeros_get n (x - base)))
