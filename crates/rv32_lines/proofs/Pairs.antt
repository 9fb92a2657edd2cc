-- Bytes and their digits, two each.
use Rattle.std.proofs.Common.{◌≡◌, ℕ, zero, suc, ◌+◌, ◌*◌, ◌/◌, ◌%◌, ◌<◌, ◌≤◌, true, false, List, [], ◌∷◌, ◌++◌, length, take, get_or, refl, sym, ap, ◌∙◌, arith}
use Rattle.std.specs.Prelude.{All}
use Rattle.std.specs.List.{list_all, flat_map}
use Rattle.std.specs.Fmt.{digit_glyph}
use Rattle.std.specs.Char.{digit_value}
use Rattle.std.proofs.lemmas.Bool.{and_parts, and_from}
use Rattle.std.proofs.lemmas.List.{take_all}
use Rattle.rv32_lines.specs.declared.numerals.Base.TheVariants.{Hexadecimal}
use Rattle.rv32_lines.specs.Statements.{is_hexadecimal_digit, byte_digits}
use Rattle.rv32_lines.proofs.Spelling.{glyph_is_digit, glyph_of_value, value_of_glyph, value_low}

-- the bytes of digits
abbrev pub paired : List ℕ → List ℕ
paired [] = []
paired (a ∷ []) = []
paired (a ∷ b ∷ ds) = (digit_value a * 16 + digit_value b) ∷ paired ds

glyphs : (a b : ℕ) → is_hexadecimal_digit a ≡ true → is_hexadecimal_digit b ≡ true
    → (digit_glyph false ((digit_value a * 16 + digit_value b) / 16) ≡ a) × (digit_glyph false
    ((digit_value a * 16 + digit_value b) % 16) ≡ b)
glyphs a b p q =
    let la : digit_value a < 16 = value_low Hexadecimal a p in
    let lb : digit_value b < 16 = value_low Hexadecimal b q in
    let front : (digit_value a * 16 + digit_value b) / 16 ≡ digit_value a = omega (arith, la, lb) in
    let back : (digit_value a * 16 + digit_value b) % 16 ≡ digit_value b = omega (arith, la, lb) in (
      ap (digit_glyph false) front ∙ glyph_of_value Hexadecimal a p,
      ap (digit_glyph false) back ∙ glyph_of_value
          Hexadecimal b q,
    )

pub paired_is : (ds : List ℕ) → length ds % 2 ≡ 0 → list_all is_hexadecimal_digit ds ≡ true
    → ds ≡ flat_map byte_digits (paired ds)
paired_is [] e all = refl
paired_is (a ∷ []) e all = absurd (omega (arith, e))
paired_is (a ∷ b ∷ ds) e all =
    let p = and_parts (is_hexadecimal_digit a) (list_all is_hexadecimal_digit (b ∷ ds)) all in
    let q = and_parts (is_hexadecimal_digit b) (list_all is_hexadecimal_digit ds) p.1 in
    let g = glyphs a b p.0 q.0 in
    let more : ds ≡ flat_map byte_digits (paired ds) = paired_is ds (omega (arith, e)) q.1 in
    ap (λ x. x ∷ b ∷ ds) (sym g.0) ∙ ap (λ y. digit_glyph false ((digit_value a * 16 + digit_value b) / 16) ∷ y ∷ ds)
    (sym g.1)
    ∙ ap (λ t. digit_glyph false ((digit_value a * 16 + digit_value b) / 16) ∷ digit_glyph false
    ((digit_value a * 16 + digit_value b) % 16) ∷ t) more

all_cons : (x : ℕ) (xs : List ℕ) → x < 256 → All (λ b. b < 256) xs → All (λ b. b < 256) (x ∷ xs)
all_cons x xs h all zero d less = h
all_cons x xs h all (suc k) d less = all k d (omega arith)

pub paired_low : (ds : List ℕ) → list_all is_hexadecimal_digit ds ≡ true → All (λ b. b < 256) (paired ds)
paired_low [] all = λ k d less. absurd (omega (arith, less))
paired_low (a ∷ []) all = λ k d less. absurd (omega (arith, less))
paired_low (a ∷ b ∷ ds) all =
    let p = and_parts (is_hexadecimal_digit a) (list_all is_hexadecimal_digit (b ∷ ds)) all in
    let q = and_parts (is_hexadecimal_digit b) (list_all is_hexadecimal_digit ds) p.1 in
    let la : digit_value a < 16 = value_low Hexadecimal a p.0 in
    let lb : digit_value b < 16 = value_low Hexadecimal b q.0 in
    all_cons (digit_value a * 16 + digit_value b) (paired ds) (omega (arith, la, lb)) (paired_low ds q.1)

pub paired_length : (ds : List ℕ) → length (paired ds) ≡ length ds / 2
paired_length [] = omega arith
paired_length (a ∷ []) = omega arith
paired_length (a ∷ b ∷ ds) = let more = paired_length ds in omega (arith, more)

pub bytes_length : (bs : List ℕ) → length (flat_map byte_digits bs) ≡ 2 * length bs
bytes_length [] = omega arith
bytes_length (b ∷ bs) = let more = bytes_length bs in omega (arith, more)

pub bytes_all : (bs : List ℕ) → All (λ b. b < 256) bs → list_all is_hexadecimal_digit (flat_map byte_digits bs) ≡ true
bytes_all [] all = refl
bytes_all (b ∷ bs) all =
    let low : b < 256 = all 0 0 (omega arith) in
    and_from _ _ (glyph_is_digit Hexadecimal (b / 16) (omega (arith, low)))
    (and_from _ _ (glyph_is_digit Hexadecimal (b % 16) (omega arith))
    (bytes_all bs (λ k d less. all (suc k) d (omega (arith, less)))))

pub paired_more : (xs : List ℕ) (i : ℕ) → i + 1 < length xs → i % 2 ≡ 0
    → paired (take (i + 2) xs) ≡ paired
    (take i xs) ++ (16 * digit_value (get_or xs i 0) + digit_value (get_or xs (i + 1) 0)) ∷ []
paired_more [] i h e = absurd (omega (arith, h))
paired_more (a ∷ []) i h e = absurd (omega (arith, h))
paired_more (a ∷ b ∷ ds) zero h e =
    let same : digit_value a * 16 + digit_value b ≡ 16 * digit_value a + digit_value b = omega arith in
    ap (λ v. v ∷ []) same
paired_more (a ∷ b ∷ ds) (suc zero) h e = absurd (omega (arith, e))
paired_more (a ∷ b ∷ ds) (suc (suc i)) h e =
    let count : suc (suc i) + 2 ≡ suc (suc (i + 2)) = omega arith in
    let next : suc (suc i) + 1 ≡ suc (suc (i + 1)) = omega arith in
    ap (λ k. paired (take k (a ∷ b ∷ ds))) count
    ∙ ap (λ t. (digit_value a * 16 + digit_value b) ∷ t) (paired_more ds i (omega (arith, h)) (omega (arith, e)))
    ∙ ap (λ k. (digit_value a * 16 + digit_value b) ∷ (paired
    (take i ds) ++ (16 * digit_value (get_or ds i 0) + digit_value (get_or (a ∷ b ∷ ds) k 0)) ∷ [])) (sym next)

pub paired_bytes : (bs : List ℕ) → All (λ b. b < 256) bs → paired (flat_map byte_digits bs) ≡ bs
paired_bytes [] all = refl
paired_bytes (b ∷ bs) all =
    let low : b < 256 = all 0 0 (omega arith) in
    let high_is : digit_value (digit_glyph false (b / 16)) ≡ b / 16 =
    value_of_glyph Hexadecimal (b / 16) (omega (arith, low)) in
    let low_is : digit_value (digit_glyph false (b % 16)) ≡ b % 16 =
    value_of_glyph Hexadecimal (b % 16) (omega arith) in
    let whole : digit_value (digit_glyph false (b / 16)) * 16 + digit_value (digit_glyph false (b % 16)) ≡ b = omega
    (arith, high_is, low_is) in
    ap (λ v. v ∷ paired (flat_map byte_digits bs)) whole
    ∙ ap (λ t. b ∷ t) (paired_bytes bs (λ k d less. all (suc k) d (omega (arith, less))))

-- all the bytes, where no two digits are left
pub paired_all : (ds bs : List ℕ) (i : ℕ) → ds ≡ flat_map byte_digits bs → All (λ b. b < 256) bs → i ≤ length ds
    → i % 2 ≡ 0 → length ds ≤ i + 1
    → paired (take i ds) ≡ bs
paired_all ds bs i e all within even rest =
    let n : length ds ≡ 2 * length bs = ap length e ∙ bytes_length bs in
    ap paired (take_all i ds (omega (arith, n, within, even, rest)) ∙ e) ∙ paired_bytes bs all
