-- An operand's text ends at what follows it, and tells its value.
use Rattle.std.proofs.Common.{◌≡◌, ◌≢◌, ℕ, suc, ◌/◌, ◌%◌, ◌^◌, ◌<◌, ◌≤◌, false, List, [], ◌∷◌, ◌++◌, refl, sym, ap, ◌∙◌, arith, ℤ, pos, negsuc, ◌≤ℤ◌}
use Rattle.std.proofs.lemmas.Bool.Decides.{nat_tests}
use Rattle.std.proofs.lemmas.Int.{ints}
use Rattle.std.proofs.lemmas.Fmt.{digits_is_IsNumeral, decimal_is_IsNumeral, decimal_injective, signed_decimal_injective}
use Rattle.std.specs.Fmt.{decimal, signed_decimal, digits, digit_glyph}
use Rattle.std.specs.Str.Parse.{AllDigits, digits_value}
use Rattle.std.specs.Char.{digit_value}
use Rattle.rv32_text.specs.Listing.{register, base, indexed, upper_digits, nibble, word_digits, target_address, target}

-- the text has no such byte
abbrev Without : ℕ → List ℕ → Type 0
Without stop [] = Unit {0}
Without stop (x ∷ xs) = (x ≢ stop) × Without stop xs

-- two texts that end at the same byte
cut : (stop : ℕ) (xs ys us vs : List ℕ) → Without stop xs → Without stop ys → xs ++ stop ∷ us ≡ ys ++ stop ∷ vs → (xs ≡ ys) × (us ≡ vs)
cut stop [] [] us vs p q e = let rest : us ≡ vs = cc in (refl, rest)
cut stop [] (y ∷ ys) us vs p q e = let same : y ≡ stop = cc in absurd (q.0 same)
cut stop (x ∷ xs) [] us vs p q e = let same : x ≡ stop = cc in absurd (p.0 same)
cut stop (x ∷ xs) (y ∷ ys) us vs p q e =
    let head : x ≡ y = cc in
    let tail : xs ++ stop ∷ us ≡ ys ++ stop ∷ vs = cc in
    let more = cut stop xs ys us vs p.1 q.1 tail in
    let all : x ∷ xs ≡ y ∷ ys = cc (more.0) in
    (all, more.1)

digits_without : (stop : ℕ) (ds : List ℕ) → 10 ≤ digit_value stop → AllDigits 10 ds → Without stop ds
digits_without stop [] h all = tt
digits_without stop (d ∷ ds) h all =
    ((λ same. let e = ap digit_value same in absurd (omega (arith, all.0, e))), digits_without stop ds h all.1)

decimal_without : (stop n : ℕ) → 10 ≤ digit_value stop → n < 2 ^ 64 → Without stop (decimal n)
decimal_without stop n h small = digits_without stop (decimal n) h (decimal_is_IsNumeral n small).0.1

-- a register, up to a comma or a bracket
pub register_told : (stop r s : ℕ) (us vs : List ℕ) → 10 ≤ digit_value stop → r < 32 → s < 32
    → register r ++ stop ∷ us ≡ register s ++ stop ∷ vs → (r ≡ s) × (us ≡ vs)
register_told stop r s us vs h p q e =
    let tail : decimal r ++ stop ∷ us ≡ decimal s ++ stop ∷ vs = cc in
    let both = cut stop (decimal r) (decimal s) us vs (decimal_without stop r h (omega arith)) (decimal_without stop s h (omega arith)) tail in
    (decimal_injective r s (omega arith) (omega arith) both.0, both.1)

-- a register at the end
pub register_told_last : (r s : ℕ) → r < 32 → s < 32 → register r ≡ register s → r ≡ s
register_told_last r s p q e =
    let tail : decimal r ≡ decimal s = cc in
    decimal_injective r s (omega arith) (omega arith) tail

pub base_told : (r s : ℕ) → r < 32 → s < 32 → base r ≡ base s → r ≡ s
base_told r s p q e =
    let tail : register r ++ 41 ∷ [] ≡ register s ++ 41 ∷ [] = cc in
    (register_told 41 r s [] [] (omega arith) p q tail).0

signed_without : (stop : ℕ) (z : ℤ) → 10 ≤ digit_value stop → stop ≢ 45 → negsuc 2047 ≤ℤ z → z ≤ℤ pos 2047 → Without stop (signed_decimal z)
signed_without stop (pos n) h other low high = decimal_without stop n h (omega (arith, ints))
signed_without stop (negsuc n) h other low high = ((λ e. other (sym e)), decimal_without stop (suc n) h (omega (arith, ints)))

pub immediate_told : (y z : ℤ) → negsuc 2047 ≤ℤ y → y ≤ℤ pos 2047 → negsuc 2047 ≤ℤ z → z ≤ℤ pos 2047
    → signed_decimal y ≡ signed_decimal z → y ≡ z
immediate_told (pos m) (pos n) a b d f e = signed_decimal_injective (pos m) (pos n) (omega (arith, ints)) (omega (arith, ints)) e
immediate_told (pos m) (negsuc n) a b d f e = signed_decimal_injective (pos m) (negsuc n) (omega (arith, ints)) (omega (arith, ints)) e
immediate_told (negsuc m) (pos n) a b d f e = signed_decimal_injective (negsuc m) (pos n) (omega (arith, ints)) (omega (arith, ints)) e
immediate_told (negsuc m) (negsuc n) a b d f e = signed_decimal_injective (negsuc m) (negsuc n) (omega (arith, ints)) (omega (arith, ints)) e

pub indexed_told : (y z : ℤ) (r s : ℕ) → negsuc 2047 ≤ℤ y → y ≤ℤ pos 2047 → negsuc 2047 ≤ℤ z → z ≤ℤ pos 2047 → r < 32 → s < 32
    → indexed y r ≡ indexed z s → (y ≡ z) × (r ≡ s)
indexed_told y z r s a b d f p q e =
    let both = cut 40 (signed_decimal y) (signed_decimal z) (register r ++ 41 ∷ []) (register s ++ 41 ∷ [])
    (signed_without 40 y (omega arith) (λ x. cc) a b) (signed_without 40 z (omega arith) (λ x. cc) d f) e in
    (immediate_told y z a b d f both.0, (register_told 41 r s [] [] (omega arith) p q both.1).0)

pub upper_told : (m n : ℕ) → m < 2 ^ 20 → n < 2 ^ 20 → upper_digits m ≡ upper_digits n → m ≡ n
upper_told m n p q e =
    let tail : digits 16 false m ≡ digits 16 false n = cc in
    sym (digits_is_IsNumeral 16 false (omega arith) (omega arith) m (omega arith)).1 ∙ ap (digits_value 16) tail
    ∙ (digits_is_IsNumeral 16 false (omega arith) (omega arith) n (omega arith)).1

-- a digit tells its four bits
glyph_told : (a b : ℕ) → a < 16 → b < 16 → digit_glyph false a ≡ digit_glyph false b → a ≡ b
glyph_told a b p q e = grind (arith, nat_tests)

word_from_nibbles : (m n : ℕ) → m < 2 ^ 32 → n < 2 ^ 32 → m / 2 ^ 28 % 16 ≡ n / 2 ^ 28 % 16 → m / 2 ^ 24 % 16 ≡ n / 2 ^ 24 % 16
    → m / 2 ^ 20 % 16 ≡ n / 2 ^ 20 % 16 → m / 2 ^ 16 % 16 ≡ n / 2 ^ 16 % 16 → m / 2 ^ 12 % 16 ≡ n / 2 ^ 12 % 16
    → m / 2 ^ 8 % 16 ≡ n / 2 ^ 8 % 16 → m / 2 ^ 4 % 16 ≡ n / 2 ^ 4 % 16 → m / 2 ^ 0 % 16 ≡ n / 2 ^ 0 % 16 → m ≡ n
word_from_nibbles m n p q h7 h6 h5 h4 h3 h2 h1 h0 = omega arith

word_told : (m n : ℕ) → m < 2 ^ 32 → n < 2 ^ 32 → word_digits m ≡ word_digits n → m ≡ n
unfolding word_digits
word_told m n p q e =
    let g7 : nibble m 28 ≡ nibble n 28 = cc in
    let g6 : nibble m 24 ≡ nibble n 24 = cc in
    let g5 : nibble m 20 ≡ nibble n 20 = cc in
    let g4 : nibble m 16 ≡ nibble n 16 = cc in
    let g3 : nibble m 12 ≡ nibble n 12 = cc in
    let g2 : nibble m 8 ≡ nibble n 8 = cc in
    let g1 : nibble m 4 ≡ nibble n 4 = cc in
    let g0 : nibble m 0 ≡ nibble n 0 = cc in
    let h7 = glyph_told (m / 2 ^ 28 % 16) (n / 2 ^ 28 % 16) (omega arith) (omega arith) g7 in
    let h6 = glyph_told (m / 2 ^ 24 % 16) (n / 2 ^ 24 % 16) (omega arith) (omega arith) g6 in
    let h5 = glyph_told (m / 2 ^ 20 % 16) (n / 2 ^ 20 % 16) (omega arith) (omega arith) g5 in
    let h4 = glyph_told (m / 2 ^ 16 % 16) (n / 2 ^ 16 % 16) (omega arith) (omega arith) g4 in
    let h3 = glyph_told (m / 2 ^ 12 % 16) (n / 2 ^ 12 % 16) (omega arith) (omega arith) g3 in
    let h2 = glyph_told (m / 2 ^ 8 % 16) (n / 2 ^ 8 % 16) (omega arith) (omega arith) g2 in
    let h1 = glyph_told (m / 2 ^ 4 % 16) (n / 2 ^ 4 % 16) (omega arith) (omega arith) g1 in
    let h0 = glyph_told (m / 2 ^ 0 % 16) (n / 2 ^ 0 % 16) (omega arith) (omega arith) g0 in
    word_from_nibbles m n p q h7 h6 h5 h4 h3 h2 h1 h0

-- distances within 2^20 lead from an address to addresses of their own
distance_told : (address : ℕ) (y z : ℤ) → negsuc 1048575 ≤ℤ y → y ≤ℤ pos 1048574 → negsuc 1048575 ≤ℤ z → z ≤ℤ pos 1048574
    → target_address address y ≡ target_address address z → y ≡ z
distance_told address (pos m) (pos n) a b d f e = let same : m ≡ n = omega (arith, ints) in ap pos same
distance_told address (pos m) (negsuc n) a b d f e = absurd (omega (arith, ints))
distance_told address (negsuc m) (pos n) a b d f e = absurd (omega (arith, ints))
distance_told address (negsuc m) (negsuc n) a b d f e = let same : m ≡ n = omega (arith, ints) in ap negsuc same

pub target_told : (address : ℕ) (y z : ℤ) → negsuc 1048575 ≤ℤ y → y ≤ℤ pos 1048574 → negsuc 1048575 ≤ℤ z → z ≤ℤ pos 1048574
    → target address y ≡ target address z → y ≡ z
target_told address y z a b d f e =
    let tail : word_digits (target_address address y) ≡ word_digits (target_address address z) = cc in
    distance_told address y z a b d f (word_told _ _ (omega arith) (omega arith) tail)

-- the distances of branches are such
pub branch_target_told : (address : ℕ) (y z : ℤ) → negsuc 4095 ≤ℤ y → y ≤ℤ pos 4094 → negsuc 4095 ≤ℤ z → z ≤ℤ pos 4094
    → target address y ≡ target address z → y ≡ z
branch_target_told address y z a b d f e =
    target_told address y z (omega (arith, ints)) (omega (arith, ints)) (omega (arith, ints)) (omega (arith, ints)) e
