-- A word and its eight digits.
use Rattle.std.proofs.Common.{◌≡◌, ℕ, ◌+◌, ◌*◌, ◌/◌, ◌%◌, ◌^◌, ◌<◌, true, false, List, [], ◌∷◌, length, refl, sym, ap, ◌∙◌, arith}
use Rattle.std.specs.List.{list_all}
use Rattle.std.specs.Fmt.{digit_glyph}
use Rattle.std.specs.Char.{digit_value}
use Rattle.std.specs.Str.Parse.{digits_value}
use Rattle.std.proofs.lemmas.Bool.{and_parts, and_from}
use Rattle.rv32_text.specs.Listing.{nibble, word_digits}
use Rattle.rv32_lines.specs.declared.numerals.Base.TheVariants.{Hexadecimal}
use Rattle.rv32_lines.specs.Statements.{is_hexadecimal_digit}
use Rattle.rv32_lines.proofs.Spelling.{glyph_is_digit, value_of_glyph, glyph_of_value, value_low}

pub digits_of_word : (w : ℕ) → list_all is_hexadecimal_digit (word_digits w) ≡ true
unfolding word_digits
digits_of_word w =
    let d : (low : ℕ) → is_hexadecimal_digit (nibble w low) ≡ true =
    λ low. glyph_is_digit Hexadecimal (w / 2 ^ low % 16) (omega arith) in
    and_from _ _ (d 28) (and_from _ _ (d 24)
    (and_from _ _ (d 20) (and_from _ _ (d 16)
    (and_from _ _ (d 12) (and_from _ _ (d 8) (and_from _ _ (d 4) (and_from _ _ (d 0) refl)))))))

pub eight_of_word : (w : ℕ) → length (word_digits w) ≡ 8
unfolding word_digits
eight_of_word w = refl

joined_word : (w a b c d e f g h : ℕ) → w < 2 ^ 32 → a ≡ w / 2 ^ 28 % 16 → b ≡ w / 2 ^ 24 % 16 → c ≡ w / 2 ^ 20 % 16
    → d ≡ w / 2 ^ 16 % 16
    → e ≡ w / 2 ^ 12 % 16 → f ≡ w / 2 ^ 8 % 16 → g ≡ w / 2 ^ 4 % 16 → h ≡ w / 2 ^ 0 % 16
    → (((((((0 * 16 + a) * 16 + b) * 16 + c) * 16 + d) * 16 + e) * 16 + f) * 16 + g) * 16 + h ≡ w
joined_word w a b c d e f g h low p q r s t u v x = omega arith

nibble_value : (w low : ℕ) → digit_value (nibble w low) ≡ w / 2 ^ low % 16
nibble_value w low = value_of_glyph Hexadecimal (w / 2 ^ low % 16) (omega arith)

pub value_of_word : (w : ℕ) → w < 2 ^ 32 → digits_value 16 (word_digits w) ≡ w
unfolding word_digits
value_of_word w low =
    joined_word w (digit_value (nibble w 28)) (digit_value (nibble w 24)) (digit_value (nibble w 20))
    (digit_value (nibble w 16)) (digit_value (nibble w 12))
    (digit_value (nibble w 8)) (digit_value (nibble w 4)) (digit_value (nibble w 0)) low
    (nibble_value w 28) (nibble_value w 24) (nibble_value w 20) (nibble_value w 16) (nibble_value w 12)
    (nibble_value w 8) (nibble_value w 4) (nibble_value w 0)

digit_in : (c v low n : ℕ) → is_hexadecimal_digit c ≡ true → n / 2 ^ low % 16 ≡ digit_value c → c ≡ nibble n low
digit_in c v low n d e = sym (glyph_of_value Hexadecimal c d) ∙ ap (digit_glyph false) (sym e)

cut_a : (a b c d e f g h : ℕ) → a < 16 → b < 16 → c < 16 → d < 16 → e < 16 → f < 16 → g < 16 → h < 16
    → ((((((((0 * 16 + a) * 16 + b) * 16 + c) * 16 + d) * 16 + e) * 16 + f) * 16 + g) * 16 + h) / 2 ^ 28 % 16 ≡ a
cut_a a b c d e f g h la lb lc ld le lf lg lh = omega arith

cut_b : (a b c d e f g h : ℕ) → a < 16 → b < 16 → c < 16 → d < 16 → e < 16 → f < 16 → g < 16 → h < 16
    → ((((((((0 * 16 + a) * 16 + b) * 16 + c) * 16 + d) * 16 + e) * 16 + f) * 16 + g) * 16 + h) / 2 ^ 24 % 16 ≡ b
cut_b a b c d e f g h la lb lc ld le lf lg lh = omega arith

cut_c : (a b c d e f g h : ℕ) → a < 16 → b < 16 → c < 16 → d < 16 → e < 16 → f < 16 → g < 16 → h < 16
    → ((((((((0 * 16 + a) * 16 + b) * 16 + c) * 16 + d) * 16 + e) * 16 + f) * 16 + g) * 16 + h) / 2 ^ 20 % 16 ≡ c
cut_c a b c d e f g h la lb lc ld le lf lg lh = omega arith

cut_d : (a b c d e f g h : ℕ) → a < 16 → b < 16 → c < 16 → d < 16 → e < 16 → f < 16 → g < 16 → h < 16
    → ((((((((0 * 16 + a) * 16 + b) * 16 + c) * 16 + d) * 16 + e) * 16 + f) * 16 + g) * 16 + h) / 2 ^ 16 % 16 ≡ d
cut_d a b c d e f g h la lb lc ld le lf lg lh = omega arith

cut_e : (a b c d e f g h : ℕ) → a < 16 → b < 16 → c < 16 → d < 16 → e < 16 → f < 16 → g < 16 → h < 16
    → ((((((((0 * 16 + a) * 16 + b) * 16 + c) * 16 + d) * 16 + e) * 16 + f) * 16 + g) * 16 + h) / 2 ^ 12 % 16 ≡ e
cut_e a b c d e f g h la lb lc ld le lf lg lh = omega arith

cut_f : (a b c d e f g h : ℕ) → a < 16 → b < 16 → c < 16 → d < 16 → e < 16 → f < 16 → g < 16 → h < 16
    → ((((((((0 * 16 + a) * 16 + b) * 16 + c) * 16 + d) * 16 + e) * 16 + f) * 16 + g) * 16 + h) / 2 ^ 8 % 16 ≡ f
cut_f a b c d e f g h la lb lc ld le lf lg lh = omega arith

cut_g : (a b c d e f g h : ℕ) → a < 16 → b < 16 → c < 16 → d < 16 → e < 16 → f < 16 → g < 16 → h < 16
    → ((((((((0 * 16 + a) * 16 + b) * 16 + c) * 16 + d) * 16 + e) * 16 + f) * 16 + g) * 16 + h) / 2 ^ 4 % 16 ≡ g
cut_g a b c d e f g h la lb lc ld le lf lg lh = omega arith

cut_h : (a b c d e f g h : ℕ) → a < 16 → b < 16 → c < 16 → d < 16 → e < 16 → f < 16 → g < 16 → h < 16
    → ((((((((0 * 16 + a) * 16 + b) * 16 + c) * 16 + d) * 16 + e) * 16 + f) * 16 + g) * 16 + h) / 2 ^ 0 % 16 ≡ h
cut_h a b c d e f g h la lb lc ld le lf lg lh = omega arith

pub word_of_digits : (ds : List ℕ) → length ds ≡ 8 → list_all is_hexadecimal_digit ds ≡ true
    → ds ≡ word_digits (digits_value 16 ds)
unfolding word_digits
word_of_digits (a ∷ b ∷ c ∷ d ∷ e ∷ f ∷ g ∷ h ∷ []) n all =
    let p1 = and_parts (is_hexadecimal_digit a) (list_all is_hexadecimal_digit (b ∷ c ∷ d ∷ e ∷ f ∷ g ∷ h ∷ [])) all in
    let p2 = and_parts (is_hexadecimal_digit b) (list_all is_hexadecimal_digit (c ∷ d ∷ e ∷ f ∷ g ∷ h ∷ [])) p1.1 in
    let p3 = and_parts (is_hexadecimal_digit c) (list_all is_hexadecimal_digit (d ∷ e ∷ f ∷ g ∷ h ∷ [])) p2.1 in
    let p4 = and_parts (is_hexadecimal_digit d) (list_all is_hexadecimal_digit (e ∷ f ∷ g ∷ h ∷ [])) p3.1 in
    let p5 = and_parts (is_hexadecimal_digit e) (list_all is_hexadecimal_digit (f ∷ g ∷ h ∷ [])) p4.1 in
    let p6 = and_parts (is_hexadecimal_digit f) (list_all is_hexadecimal_digit (g ∷ h ∷ [])) p5.1 in
    let p7 = and_parts (is_hexadecimal_digit g) (list_all is_hexadecimal_digit (h ∷ [])) p6.1 in
    let p8 = and_parts (is_hexadecimal_digit h) (list_all is_hexadecimal_digit []) p7.1 in
    let la : digit_value a < 16 = value_low Hexadecimal a p1.0 in
    let lb : digit_value b < 16 = value_low Hexadecimal b p2.0 in
    let lc : digit_value c < 16 = value_low Hexadecimal c p3.0 in
    let ld : digit_value d < 16 = value_low Hexadecimal d p4.0 in
    let le : digit_value e < 16 = value_low Hexadecimal e p5.0 in
    let lf : digit_value f < 16 = value_low Hexadecimal f p6.0 in
    let lg : digit_value g < 16 = value_low Hexadecimal g p7.0 in
    let lh : digit_value h < 16 = value_low Hexadecimal h p8.0 in
    let v : ℕ = digits_value 16 (a ∷ b ∷ c ∷ d ∷ e ∷ f ∷ g ∷ h ∷ []) in
    cc (
      digit_in a 0 28 v p1.0
          (cut_a (digit_value a) (digit_value b) (digit_value c) (digit_value d) (digit_value e) (digit_value f)
          (digit_value g) (digit_value h) la lb lc ld le lf lg lh),
      digit_in b 0 24 v p2.0
          (cut_b (digit_value a) (digit_value b) (digit_value c) (digit_value d) (digit_value e) (digit_value f)
          (digit_value g) (digit_value h) la lb lc ld le lf lg lh),
      digit_in c 0 20 v p3.0
          (cut_c (digit_value a) (digit_value b) (digit_value c) (digit_value d) (digit_value e) (digit_value f)
          (digit_value g) (digit_value h) la lb lc ld le lf lg lh),
      digit_in d 0 16 v p4.0
          (cut_d (digit_value a) (digit_value b) (digit_value c) (digit_value d) (digit_value e) (digit_value f)
          (digit_value g) (digit_value h) la lb lc ld le lf lg lh),
      digit_in e 0 12 v p5.0
          (cut_e (digit_value a) (digit_value b) (digit_value c) (digit_value d) (digit_value e) (digit_value f)
          (digit_value g) (digit_value h) la lb lc ld le lf lg lh),
      digit_in f 0 8 v p6.0
          (cut_f (digit_value a) (digit_value b) (digit_value c) (digit_value d) (digit_value e) (digit_value f)
          (digit_value g) (digit_value h) la lb lc ld le lf lg lh),
      digit_in g 0 4 v p7.0
          (cut_g (digit_value a) (digit_value b) (digit_value c) (digit_value d) (digit_value e) (digit_value f)
          (digit_value g) (digit_value h) la lb lc ld le lf lg lh),
      digit_in h 0 0 v p8.0
          (cut_h (digit_value a) (digit_value b) (digit_value c) (digit_value d) (digit_value e) (digit_value f)
          (digit_value g) (digit_value h) la lb lc ld le lf lg lh),
    )
word_of_digits ([]) n all = absurd (omega (arith, n))
word_of_digits (x0 ∷ []) n all = absurd (omega (arith, n))
word_of_digits (x0 ∷ x1 ∷ []) n all = absurd (omega (arith, n))
word_of_digits (x0 ∷ x1 ∷ x2 ∷ []) n all = absurd (omega (arith, n))
word_of_digits (x0 ∷ x1 ∷ x2 ∷ x3 ∷ []) n all = absurd (omega (arith, n))
word_of_digits (x0 ∷ x1 ∷ x2 ∷ x3 ∷ x4 ∷ []) n all = absurd (omega (arith, n))
word_of_digits (x0 ∷ x1 ∷ x2 ∷ x3 ∷ x4 ∷ x5 ∷ []) n all = absurd (omega (arith, n))
word_of_digits (x0 ∷ x1 ∷ x2 ∷ x3 ∷ x4 ∷ x5 ∷ x6 ∷ []) n all = absurd (omega (arith, n))
word_of_digits (x0 ∷ x1 ∷ x2 ∷ x3 ∷ x4 ∷ x5 ∷ x6 ∷ x7 ∷ x ∷ xs) n all = absurd (omega (arith, n))
