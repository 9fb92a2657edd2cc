-- Hexadecimal digits with no leading zeros, digit by digit.
use Rattle.std.proofs.Common.{◌≡◌, ℕ, suc, ◌/◌, ◌%◌, ◌<◌, ◌≤◌, false, eqb, cond, List, [], ◌∷◌, refl, sym, ap, ◌∙◌, arith}
use Rattle.std.proofs.lemmas.Bool.Decides.{nat_tests}
use Rattle.std.specs.Fmt.{digits, digits_onto, digit_glyph}
use Rattle.std.specs.Prelude.{drop}
use Rattle.rv32_text.specs.Listing.{nibble, word_digits}

-- the first digit ends the text
first_digit : (k n : ℕ) (acc : List ℕ) → n < 16 → digits_onto (suc k) 16 false n acc ≡ digit_glyph false n ∷ acc
first_digit k n acc h =
    let low : n / 16 ≡ 0 = omega arith in
    let whole : n % 16 ≡ n = omega arith in
    rw (low, whole) refl

-- the last digit of several stands at the end
last_digit : (k n : ℕ) (acc : List ℕ) → 16 ≤ n → digits_onto (suc k) 16 false n acc ≡ digits_onto k 16 false (n / 16) (digit_glyph false (n % 16) ∷ acc)
last_digit k n acc h =
    let more : eqb (n / 16) 0 ≡ false = grind (arith, nat_tests) in
    ap (λ b. cond b (digit_glyph false (n % 16) ∷ acc) (digits_onto k 16 false (n / 16) (digit_glyph false (n % 16) ∷ acc))) more

pub one_digit : (n : ℕ) → n < 16 → drop 7 (word_digits n) ≡ digits 16 false n
unfolding digits word_digits
one_digit n h =
    let a : n ≡ n / 1 % 16 = omega arith in
    sym (first_digit 63 n [] h ∙ ap (λ x. digit_glyph false x ∷ []) a)

pub two_digits : (n : ℕ) → 16 ≤ n → n < 256 → drop 6 (word_digits n) ≡ digits 16 false n
unfolding digits word_digits
two_digits n l h =
    let a : n % 16 ≡ n / 1 % 16 = omega arith in
    let b : n / 16 ≡ n / 16 % 16 = omega arith in
    sym (last_digit 63 n [] l ∙ first_digit 62 (n / 16) _ (omega arith)
    ∙ ap (λ x. digit_glyph false (n / 16) ∷ digit_glyph false x ∷ []) a ∙ ap (λ x. digit_glyph false x ∷ nibble n 0 ∷ []) b)

pub three_digits : (n : ℕ) → 256 ≤ n → n < 4096 → drop 5 (word_digits n) ≡ digits 16 false n
unfolding digits word_digits
three_digits n l h =
    let a : n % 16 ≡ n / 1 % 16 = omega arith in
    let b : n / 16 / 16 ≡ n / 256 % 16 = omega arith in
    sym (last_digit 63 n [] (omega arith) ∙ last_digit 62 (n / 16) _ (omega arith) ∙ first_digit 61 (n / 16 / 16) _ (omega arith)
    ∙ ap (λ x. digit_glyph false (n / 16 / 16) ∷ nibble n 4 ∷ digit_glyph false x ∷ []) a ∙ ap (λ x. digit_glyph false x ∷ nibble n 4 ∷ nibble n 0 ∷ []) b)

pub four_digits : (n : ℕ) → 4096 ≤ n → n < 65536 → drop 4 (word_digits n) ≡ digits 16 false n
unfolding digits word_digits
four_digits n l h =
    let a : n % 16 ≡ n / 1 % 16 = omega arith in
    let b : n / 16 / 16 % 16 ≡ n / 256 % 16 = omega arith in
    let d : n / 16 / 16 / 16 ≡ n / 4096 % 16 = omega arith in
    sym (last_digit 63 n [] (omega arith) ∙ last_digit 62 (n / 16) _ (omega arith) ∙ last_digit 61 (n / 16 / 16) _ (omega arith)
    ∙ first_digit 60 (n / 16 / 16 / 16) _ (omega arith)
    ∙ ap (λ x. digit_glyph false (n / 16 / 16 / 16) ∷ digit_glyph false (n / 16 / 16 % 16) ∷ nibble n 4 ∷ digit_glyph false x ∷ []) a
    ∙ ap (λ x. digit_glyph false (n / 16 / 16 / 16) ∷ digit_glyph false x ∷ nibble n 4 ∷ nibble n 0 ∷ []) b
    ∙ ap (λ x. digit_glyph false x ∷ nibble n 8 ∷ nibble n 4 ∷ nibble n 0 ∷ []) d)

pub five_digits : (n : ℕ) → 65536 ≤ n → n < 1048576 → drop 3 (word_digits n) ≡ digits 16 false n
unfolding digits word_digits
five_digits n l h =
    let a : n % 16 ≡ n / 1 % 16 = omega arith in
    let b : n / 16 / 16 % 16 ≡ n / 256 % 16 = omega arith in
    let d : n / 16 / 16 / 16 % 16 ≡ n / 4096 % 16 = omega arith in
    let e : n / 16 / 16 / 16 / 16 ≡ n / 65536 % 16 = omega arith in
    sym (last_digit 63 n [] (omega arith) ∙ last_digit 62 (n / 16) _ (omega arith) ∙ last_digit 61 (n / 16 / 16) _ (omega arith)
    ∙ last_digit 60 (n / 16 / 16 / 16) _ (omega arith) ∙ first_digit 59 (n / 16 / 16 / 16 / 16) _ (omega arith)
    ∙ ap (λ x. digit_glyph false (n / 16 / 16 / 16 / 16) ∷ digit_glyph false (n / 16 / 16 / 16 % 16) ∷ digit_glyph false (n / 16 / 16 % 16) ∷ nibble n 4 ∷ digit_glyph false x ∷ []) a
    ∙ ap (λ x. digit_glyph false (n / 16 / 16 / 16 / 16) ∷ digit_glyph false (n / 16 / 16 / 16 % 16) ∷ digit_glyph false x ∷ nibble n 4 ∷ nibble n 0 ∷ []) b
    ∙ ap (λ x. digit_glyph false (n / 16 / 16 / 16 / 16) ∷ digit_glyph false x ∷ nibble n 8 ∷ nibble n 4 ∷ nibble n 0 ∷ []) d
    ∙ ap (λ x. digit_glyph false x ∷ nibble n 12 ∷ nibble n 8 ∷ nibble n 4 ∷ nibble n 0 ∷ []) e)

-- a number below a power of 16 by its digits
pub ruleset digit_counts = (one_digit, two_digits, three_digits, four_digits, five_digits)
