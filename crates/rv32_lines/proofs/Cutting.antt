-- Texts cut behind their digits.
use Rattle.std.proofs.Common.{◌≡◌, ℕ, zero, suc, ◌+◌, ◌-◌, ◌*◌, ◌/◌, ◌^◌, ◌<◌, ◌≤◌, Bool, true, false, List, [], ◌∷◌, ◌++◌, length, take, drop, get_or, refl, sym, ap, ◌∙◌, arith}
use Rattle.std.specs.Prelude.{min}
use Rattle.std.specs.List.{list_all}
use Rattle.std.specs.Char.{digit_value}
use Rattle.std.specs.Str.Parse.{digits_value, digits_value_after}
use Rattle.std.proofs.lemmas.Bool.{and_parts, and_from, false≢true}
use Rattle.std.proofs.lemmas.List.{take_more}
use Rattle.rv32_lines.specs.declared.numerals.Base.{Base}
use Rattle.rv32_lines.specs.declared.numerals.Base.TheVariants.{Decimal, Hexadecimal}
use Rattle.rv32_lines.proofs.Spelling.{value_low}
use Rattle.rv32_lines.specs.Reading.{radix, is_digit, capped, EndsDigits}

pub all_more : (q : ℕ → Bool) (xs : List ℕ) (i : ℕ) → i < length xs → list_all q (take i xs) ≡ true
    → q (get_or xs i 0) ≡ true → list_all q (take (i + 1) xs) ≡ true
all_more q [] i h all e = absurd (omega arith)
all_more q (x ∷ xs) zero h all e = and_from _ _ e refl
all_more q (x ∷ xs) (suc i) h all e =
    let parts : (q x ≡ true) × (list_all q (take i xs) ≡ true) = and_parts _ _ all in
    let more : list_all q (take (i + 1) xs) ≡ true = all_more q xs i (omega arith) parts.1 e in
    let same : suc i + 1 ≡ suc (i + 1) = omega arith in
    ap (λ n. list_all q (take n (x ∷ xs))) same ∙ and_from _ _ parts.0 more

pub all_at : (q : ℕ → Bool) (xs : List ℕ) (i : ℕ) → i < length xs → list_all q xs ≡ true → q (get_or xs i 0) ≡ true
all_at q [] i h all = absurd (omega arith)
all_at q (x ∷ xs) zero h all = (and_parts _ _ all).0
all_at q (x ∷ xs) (suc i) h all = all_at q xs i (omega arith) (and_parts _ _ all).1

pub ends_at : (b : Base) (xs : List ℕ) (i : ℕ) → is_digit b (get_or xs i 0) ≡ false → EndsDigits b (drop i xs)
ends_at b [] zero e = tt
ends_at b [] (suc i) e = tt
ends_at b (x ∷ xs) zero e = e
ends_at b (x ∷ xs) (suc i) e = ends_at b xs i e

pub ends_last : (b : Base) (xs : List ℕ) (i : ℕ) → length xs ≤ i → EndsDigits b (drop i xs)
ends_last b [] zero e = tt
ends_last b [] (suc i) e = tt
ends_last b (x ∷ xs) zero e = absurd (omega arith)
ends_last b (x ∷ xs) (suc i) e = ends_last b xs i (omega arith)

pub is_hexadecimal : (b : Base) (c : ℕ) → is_digit b c ≡ true → is_digit Hexadecimal c ≡ true
is_hexadecimal Decimal c e = grind arith
is_hexadecimal Hexadecimal c e = e

value_after : (r n : ℕ) (xs : List ℕ) (d : ℕ)
    → digits_value_after r n (xs ++ d ∷ []) ≡ digits_value_after r n xs * r + digit_value d
value_after r n [] d = refl
value_after r n (x ∷ xs) d = value_after r (n * r + digit_value x) xs d

capped_step : (b : Base) (v d : ℕ)
    → min (min (capped v * radix b) (2 ^ 32 - 1) + d) (2 ^ 32 - 1) ≡ capped (v * radix b + d)
capped_step Decimal v d = omega arith
capped_step Hexadecimal v d = omega arith

pub capped_more : (b : Base) (xs : List ℕ) (i value mul add : ℕ) → i < length xs
    → value ≡ capped (digits_value (radix b) (take i xs))
    → mul ≡ min (value * radix b) (2 ^ 32 - 1) → add ≡ min (mul + digit_value (get_or xs i 0)) (2 ^ 32 - 1)
    → add ≡ capped (digits_value (radix b) (take (i + 1) xs))
capped_more b xs i value mul add h e f g =
    let v = digits_value (radix b) (take i xs) in
    let d = digit_value (get_or xs i 0) in
    let more : digits_value (radix b) (take (i + 1) xs) ≡ v * radix b + d
    = ap (digits_value (radix b)) (take_more xs i 0 h) ∙ value_after (radix b) 0 (take i xs) (get_or xs i 0) in
    g ∙ ap (λ m. min (m + d) (2 ^ 32 - 1)) (f ∙ ap (λ n. min (n * radix b) (2 ^ 32 - 1)) e) ∙ capped_step b v d
    ∙ ap capped (sym more)

-- the numbers of at most 8 digits fit 32 bits
abbrev bound : ℕ → ℕ
bound zero = 2 ^ 32
bound (suc k) = bound k / 16

bound_low : (k : ℕ) → bound k ≤ 2 ^ 32
bound_low zero = omega arith
bound_low (suc k) = let low = bound_low k in omega (arith, low)

grown_low : (b : Base) (n d q : ℕ) → n < q / 16 → d < radix b → n * radix b + d < q
grown_low Decimal n d q h l = omega arith
grown_low Hexadecimal n d q h l = omega arith

after_low : (b : Base) (k n : ℕ) (ds : List ℕ) → length ds ≤ k → list_all (is_digit b) ds ≡ true → n < bound k
    → digits_value_after (radix b) n ds < 2 ^ 32
after_low b k n [] h all low = let most = bound_low k in omega (arith, most)
after_low b zero n (d ∷ ds) h all low = absurd (omega arith)
after_low b (suc k) n (d ∷ ds) h all low =
    let parts : (is_digit b d ≡ true) × (list_all (is_digit b) ds ≡ true) = and_parts _ _ all in
    after_low b k (n * radix b + digit_value d) ds (omega arith) parts.1
    (grown_low b n (digit_value d) (bound k) low (value_low b d parts.0))

pub eight_low : (b : Base) (ds : List ℕ) → length ds ≤ 8 → list_all (is_digit b) ds ≡ true
    → digits_value (radix b) ds < 2 ^ 32
eight_low b ds h all = after_low b 8 0 ds h all (omega arith)

pub capped_eight : (b : Base) (ds : List ℕ) → length ds ≤ 8 → list_all (is_digit b) ds ≡ true
    → capped (digits_value (radix b) ds) ≡ digits_value (radix b) ds
capped_eight b ds h all = let low = eight_low b ds h all in omega (arith, low)

-- two cuts behind digits are one
pub cut_once : (b : Base) (xs us ys vs : List ℕ) → list_all (is_digit b) xs ≡ true → list_all (is_digit b) ys ≡ true
    → EndsDigits b us → EndsDigits b vs → xs ++ us ≡ ys ++ vs → (xs ≡ ys) × (us ≡ vs)
cut_once b [] us [] vs p q m n e = (refl, e)
cut_once b [] [] (y ∷ ys) vs p q m n e = let bad : ◌≡◌ {A = List ℕ} [] (y ∷ ys ++ vs) = e in absurd (cc)
cut_once b [] (u ∷ us) (y ∷ ys) vs p q m n e =
    let same : u ≡ y = cc in
    absurd (false≢true (sym m ∙ ap (is_digit b) same ∙ (and_parts _ _ q).0))
cut_once b (x ∷ xs) us [] [] p q m n e = let bad : ◌≡◌ {A = List ℕ} (x ∷ xs ++ us) [] = e in absurd (cc)
cut_once b (x ∷ xs) us [] (v ∷ vs) p q m n e =
    let same : x ≡ v = cc in
    absurd (false≢true (sym n ∙ ap (is_digit b) (sym same) ∙ (and_parts _ _ p).0))
cut_once b (x ∷ xs) us (y ∷ ys) vs p q m n e =
    let head : x ≡ y = cc in
    let tail : xs ++ us ≡ ys ++ vs = cc in
    let more = cut_once b xs us ys vs (and_parts _ _ p).1 (and_parts _ _ q).1 m n tail in
    let all : x ∷ xs ≡ y ∷ ys = cc (more.0) in
    (all, more.1)
