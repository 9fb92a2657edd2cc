-- A division by a multiplication.
use Rattle.std.proofs.Common.{◌≡◌, ℕ, ◌+◌, ◌-◌, ◌*◌, ◌/◌, ◌%◌, ◌<◌, ◌≤◌, sym, ap, ◌∙◌, inl, inr, arith}
use Rattle.std.proofs.Math.Nat.{div-add-mod, mul-le-mul, mul-le-mul_left, mul-le-mul_right, mod-lt, div-eq_of_lt-le, div-eq_of_lt}
use Rattle.std.proofs.lemmas.Bool.Decides.{leb_tells}

-- m c exceeds 2^32 by e, which is so little that q stays the quotient of v by c
quotient_at_least : (v c m e q : ℕ) → q * c ≤ v → m * c ≡ 4294967296 + e → q * 4294967296 ≤ v * m
quotient_at_least v c m e q low whole =
    let around : q * (m * c) ≡ q * c * m = omega arith in
    let more : q * 4294967296 ≤ q * (m * c) = mul-le-mul_left q (omega (arith, whole)) in
    let most : q * c * m ≤ v * m = mul-le-mul_right m low in
    omega (arith, around, more, most)

quotient_at_most : (v c m e q : ℕ) → v + 1 ≤ (q + 1) * c → m * c ≡ 4294967296 + e → v * e < 4294967296
    → v * m < (q + 1) * 4294967296
quotient_at_most v c m e q high whole little = elim (leb_tells ((q + 1) * 4294967296) (v * m)) [
  | inl l ↦
      (let around : v * m * c ≡ v * (m * c) = omega arith in
      let split : v * (m * c) ≡ v * 4294967296 + v * e = ap (λ k. v * k) whole ∙ omega arith in
      let scaled : (q + 1) * 4294967296 * c ≤ v * m * c = mul-le-mul_right c l.1 in
      let turned : (q + 1) * 4294967296 * c ≡ (q + 1) * c * 4294967296 = omega arith in
      let above : (v + 1) * 4294967296 ≤ (q + 1) * c * 4294967296 = mul-le-mul_right 4294967296 high in
      absurd (omega (arith, around, split, scaled, turned, above, little)))
  | inr l ↦ l.1
]

divided : (v c m e : ℕ) → 1 ≤ c → m * c ≡ 4294967296 + e → v * e < 4294967296
    → v * m / 4294967296 ≡ v / c
divided v c m e some whole little =
    let q = v / c in
    let split = div-add-mod v c in
    let small : v % c < c = mod-lt v some in
    let around : c * q ≡ q * c = omega arith in
    let next : (q + 1) * c ≡ q * c + c = omega arith in
    div-eq_of_lt-le 4294967296 (quotient_at_least v c m e q (omega (arith, split, around)) whole)
    (quotient_at_most v c m e q (omega (arith, split, small, around, next)) whole little)

-- the reciprocal exceeds 2^32 / c by no more than one
exceeds : (c Q R : ℕ) → c * Q + R ≡ 4294967296 → R < c → (Q + 1) * c ≡ 4294967296 + (c - R)
exceeds c Q R whole small =
    let next : (Q + 1) * c ≡ c * Q + c = omega arith in
    omega (arith, next, whole, small)

little_of : (v c R : ℕ) → v < 65536 → c ≤ 65536 → v * (c - R) < 4294967296
little_of v c R low few =
    let first : v ≤ 65535 = omega (arith, low) in
    let second : c - R ≤ 65536 = omega (arith, few) in
    let most : v * (c - R) ≤ 65535 * 65536 = mul-le-mul first second in
    omega (arith, most)

-- where c is too many, there is none in v
beyond : (v c Q : ℕ) → v < 65536 → 65536 < c → Q ≤ 65535 → v * (Q + 1) / 4294967296 ≡ v / c
beyond v c Q low many few =
    let first : v ≤ 65535 = omega (arith, low) in
    let second : Q + 1 ≤ 65536 = omega (arith, few) in
    let most : v * (Q + 1) ≤ 65535 * 65536 = mul-le-mul first second in
    let here : v * (Q + 1) < 4294967296 = omega (arith, most) in
    div-eq_of_lt here ∙ sym (div-eq_of_lt (omega (arith, low, many)))

few_parts : (c Q R : ℕ) → 65536 < c → c * Q + R ≡ 4294967296 → Q ≤ 65535
few_parts c Q R many whole = elim (leb_tells Q 65535) [
  | inl l ↦ l.1
  | inr l ↦
      (let first : 65537 ≤ c = omega (arith, many) in
      let second : 65536 ≤ Q = omega (arith, l.1) in
      let more : 65537 * 65536 ≤ c * Q = mul-le-mul first second in
      absurd (omega (arith, more, whole)))
]

pub by_reciprocal : (v c m : ℕ) → v < 65536 → 1 ≤ c → m ≡ 4294967296 / c + 1
    → v * m / 4294967296 ≡ v / c
by_reciprocal v c m low some is =
    let Q = 4294967296 / c in
    let R = 4294967296 % c in
    let whole = div-add-mod 4294967296 c in
    let small : R < c = mod-lt 4294967296 some in
    ap (λ k. v * k / 4294967296) is ∙ (elim (leb_tells c 65536) [
      | inl l ↦ divided v c (Q + 1) (c - R) some (exceeds c Q R whole small) (little_of v c R low l.1)
      | inr l ↦ beyond v c Q low l.1 (few_parts c Q R l.1 whole)
    ])
