-- A field's text ends at what follows it, and tells its value.
use Rattle.std.proofs.Common.{◌≡◌, ◌≢◌, ℕ, ◌/◌, ◌%◌, ◌^◌, ◌<◌, ◌≤◌, false, List, [], ◌∷◌, ◌++◌, refl, ap, arith}
use Rattle.std.proofs.lemmas.Bool.Decides.{nat_tests}
use Rattle.std.proofs.lemmas.Fmt.{decimal_is_IsNumeral, decimal_injective}
use Rattle.std.specs.Fmt.{decimal, digit_glyph}
use Rattle.std.specs.Str.Parse.{AllDigits}
use Rattle.std.specs.Char.{digit_value}
use Rattle.rv32_text.specs.Listing.{nibble, word_digits}

-- the text has no such byte
abbrev pub Without : ℕ → List ℕ → Type 0
Without stop [] = Unit {0}
Without stop (x ∷ xs) = (x ≢ stop) × Without stop xs

-- two texts that end at the same byte
pub cut : (stop : ℕ) (xs ys us vs : List ℕ) → Without stop xs → Without stop ys
    → xs ++ stop ∷ us ≡ ys ++ stop ∷ vs → (xs ≡ ys) × (us ≡ vs)
cut stop [] [] us vs p q e = let rest : us ≡ vs = cc in (refl, rest)
cut stop [] (y ∷ ys) us vs p q e = let same : y ≡ stop = cc in absurd (q.0 same)
cut stop (x ∷ xs) [] us vs p q e = let same : x ≡ stop = cc in absurd (p.0 same)
cut stop (x ∷ xs) (y ∷ ys) us vs p q e =
    let head : x ≡ y = cc in
    let tail : xs ++ stop ∷ us ≡ ys ++ stop ∷ vs = cc in
    let more = cut stop xs ys us vs p.1 q.1 tail in
    let all : x ∷ xs ≡ y ∷ ys = cc (more.0) in
    (all, more.1)

digits_without : (stop : ℕ) (ds : List ℕ) → 10 ≤ digit_value stop → AllDigits 10 ds
    → Without stop ds
digits_without stop [] h all = tt
digits_without stop (d ∷ ds) h all = (
  (λ same. let e = ap digit_value same in absurd (omega (arith, all.0, e))),
  digits_without stop ds h all.1,
)

pub decimal_without : (stop n : ℕ) → 10 ≤ digit_value stop → n < 2 ^ 64 → Without stop (decimal n)
decimal_without stop n h small =
    digits_without stop (decimal n) h (decimal_is_IsNumeral n small).0.1

-- a number, up to a byte that is no digit
pub number_told : (stop m n : ℕ) (us vs : List ℕ) → 10 ≤ digit_value stop → m < 2 ^ 64 → n < 2 ^ 64
    → decimal m ++ stop ∷ us ≡ decimal n ++ stop ∷ vs → (m ≡ n) × (us ≡ vs)
number_told stop m n us vs h p q e =
    let both = cut stop (decimal m) (decimal n) us vs (decimal_without stop m h p)
    (decimal_without stop n h q) e in
    (decimal_injective m n p q both.0, both.1)

no_star : (ds us vs : List ℕ) → Without 42 ds → 42 ∷ us ≡ ds ++ 10 ∷ vs → ⊥
no_star [] us vs p e = let same : ◌≡◌ {A = ℕ} 42 10 = cc in absurd (omega (arith, same))
no_star (d ∷ ds) us vs p e = let same : d ≡ 42 = cc in p.0 same

-- a number isn't a star
pub star_told : (n : ℕ) (us vs : List ℕ) → n < 2 ^ 64 → 42 ∷ us ≡ decimal n ++ 10 ∷ vs → ⊥
star_told n us vs small e = no_star (decimal n) us vs (decimal_without 42 n (omega arith) small) e

-- a digit tells its four bits
glyph_told : (a b : ℕ) → a < 16 → b < 16 → digit_glyph false a ≡ digit_glyph false b → a ≡ b
glyph_told a b p q e = grind (arith, nat_tests)

nibble_told : (m n low : ℕ) → nibble m low ≡ nibble n low → m / 2 ^ low % 16 ≡ n / 2 ^ low % 16
nibble_told m n low e =
    glyph_told (m / 2 ^ low % 16) (n / 2 ^ low % 16) (omega arith) (omega arith) e

from_nibbles : (m n : ℕ) → m < 2 ^ 32 → n < 2 ^ 32 → m / 2 ^ 28 % 16 ≡ n / 2 ^ 28 % 16
    → m / 2 ^ 24 % 16 ≡ n / 2 ^ 24 % 16 → m / 2 ^ 20 % 16 ≡ n / 2 ^ 20 % 16
    → m / 2 ^ 16 % 16 ≡ n / 2 ^ 16 % 16 → m / 2 ^ 12 % 16 ≡ n / 2 ^ 12 % 16
    → m / 2 ^ 8 % 16 ≡ n / 2 ^ 8 % 16 → m / 2 ^ 4 % 16 ≡ n / 2 ^ 4 % 16
    → m / 2 ^ 0 % 16 ≡ n / 2 ^ 0 % 16 → m ≡ n
from_nibbles m n p q h7 h6 h5 h4 h3 h2 h1 h0 = omega arith

-- a word in eight digits
pub word_told : (m n : ℕ) (us vs : List ℕ) → m < 2 ^ 32 → n < 2 ^ 32
    → word_digits m ++ us ≡ word_digits n ++ vs → (m ≡ n) × (us ≡ vs)
unfolding word_digits
word_told m n us vs p q e =
    let g7 : nibble m 28 ≡ nibble n 28 = cc in
    let g6 : nibble m 24 ≡ nibble n 24 = cc in
    let g5 : nibble m 20 ≡ nibble n 20 = cc in
    let g4 : nibble m 16 ≡ nibble n 16 = cc in
    let g3 : nibble m 12 ≡ nibble n 12 = cc in
    let g2 : nibble m 8 ≡ nibble n 8 = cc in
    let g1 : nibble m 4 ≡ nibble n 4 = cc in
    let g0 : nibble m 0 ≡ nibble n 0 = cc in
    let rest : us ≡ vs = cc in (
      from_nibbles m n p q (nibble_told m n 28 g7) (nibble_told m n 24 g6)
          (nibble_told m n 20 g5) (nibble_told m n 16 g4) (nibble_told m n 12 g3)
          (nibble_told m n 8 g2) (nibble_told m n 4 g1) (nibble_told m n 0 g0),
      rest,
    )

pub same_address : (m n : ℕ) → m < 2 ^ 32 → n < 2 ^ 32 → word_digits m ≡ word_digits n → m ≡ n
same_address m n p q e =
    let both = word_told m n [] [] p q (ap (λ ds. ds ++ []) e) in both.0
