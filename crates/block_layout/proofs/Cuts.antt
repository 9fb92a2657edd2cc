-- Numbers cut at the multiples of a size.
use Rattle.std.proofs.Common.{◌≡◌, ℕ, ◌+◌, ◌-◌, ◌*◌, ◌/◌, ◌<◌, ◌≤◌, sym, ap, ◌∙◌, arith, mul-le-mul_right}
use Rattle.std.proofs.lemmas.Nat.{div-mul-add, div_below, le-div, div-add-mod', mod_below}

-- the multiple at or below a number
abbrev pub cut : ℕ → ℕ → ℕ
cut k x = x / k * k

pub cut_le : (k x : ℕ) → cut k x ≤ x
cut_le k x = omega (arith, div-add-mod' x k)

pub cut_above : (k x : ℕ) → 0 < k → x < cut k x + k
cut_above k x h = omega (arith, div-add-mod' x k, mod_below x k h)

-- the numbers from a multiple on, up to the next, are cut alike
pub cut_same : (k x y : ℕ) → 0 < k → cut k x ≤ y → y < cut k x + k → cut k y ≡ cut k x
cut_same k x y h a b =
    let e : x / k * k + (y - x / k * k) ≡ y = omega arith in
    let d : (x / k * k + (y - x / k * k)) / k ≡ x / k = div-mul-add (x / k) k (y - x / k * k) (omega arith) in
    ap (λ n. n * k) (ap (λ n. n / k) (sym e) ∙ d)

-- a multiple at or below x is at or below the cut of x
pub cut_floor : (k x q : ℕ) → 0 < k → q * k ≤ x → q * k ≤ cut k x
cut_floor k x q h a = mul-le-mul_right k (le-div q x k h a)

-- a multiple above x is at or above the next cut
pub cut_ceiling : (k x q : ℕ) → 0 < k → x < q * k → cut k x + k ≤ q * k
cut_ceiling k x q h a =
    let d : x / k < q = div_below x k q h a in
    let t : (x / k + 1) * k ≤ q * k = mul-le-mul_right k (omega arith) in
    omega arith

pub cut_one : (x : ℕ) → cut 1 x ≡ x
cut_one x = omega arith
