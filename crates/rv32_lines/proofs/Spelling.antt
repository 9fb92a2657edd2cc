-- Numbers and their digits, however many.
use Rattle.std.proofs.Common.{◌≡◌, ℕ, zero, suc, ◌+◌, ◌*◌, ◌/◌, ◌%◌, ◌^◌, ◌<◌, Bool, true, false, not, eqb, cond, List, [], ◌∷◌, refl, sym, ap, ◌∙◌, subst, arith}
use Rattle.std.specs.List.{list_all}
use Rattle.std.specs.Fmt.{digit_glyph, digits_onto, digits}
use Rattle.std.specs.Char.{digit_value}
use Rattle.std.specs.Str.Parse.{digits_value, digits_value_after}
use Rattle.std.proofs.lemmas.Bool.{and_parts, and_from, eqb-true, false≢true}
use Rattle.std.proofs.lemmas.Bool.Decides.{nat_tests}
use Rattle.rv32_lines.specs.declared.numerals.Base.{Base}
use Rattle.rv32_lines.specs.declared.numerals.Base.TheVariants.{Decimal, Hexadecimal}
use Rattle.rv32_lines.specs.Texts.{numeral}
use Rattle.rv32_lines.specs.Reading.{radix, is_digit, has_no_zero}

-- a digit tells its value, and the value its digit
pub glyph_is_digit : (b : Base) (d : ℕ) → d < radix b → is_digit b (digit_glyph false d) ≡ true
glyph_is_digit Decimal d h = grind (arith, nat_tests)
glyph_is_digit Hexadecimal d h = grind (arith, nat_tests)

pub value_of_glyph : (b : Base) (d : ℕ) → d < radix b → digit_value (digit_glyph false d) ≡ d
value_of_glyph Decimal d h = grind (arith, nat_tests)
value_of_glyph Hexadecimal d h = grind (arith, nat_tests)

pub glyph_of_value : (b : Base) (c : ℕ) → is_digit b c ≡ true → digit_glyph false (digit_value c) ≡ c
glyph_of_value Decimal c h = grind (arith, nat_tests)
glyph_of_value Hexadecimal c h = grind (arith, nat_tests)

pub value_low : (b : Base) (c : ℕ) → is_digit b c ≡ true → digit_value c < radix b
value_low Decimal c h = grind (arith, nat_tests)
value_low Hexadecimal c h = grind (arith, nat_tests)

-- quotients
quotient_low : (b : Base) (n k : ℕ) → n < suc k → eqb (n / radix b) 0 ≡ false → n / radix b < k
quotient_low Decimal n k h e = grind (arith, nat_tests)
quotient_low Hexadecimal n k h e = grind (arith, nat_tests)

whole : (b : Base) (n : ℕ) → n / radix b * radix b + n % radix b ≡ n
whole Decimal n = omega arith
whole Hexadecimal n = omega arith

rest_low : (b : Base) (n : ℕ) → n % radix b < radix b
rest_low Decimal n = omega arith
rest_low Hexadecimal n = omega arith

one_digit : (b : Base) (n : ℕ) → eqb (n / radix b) 0 ≡ true → n % radix b ≡ n
one_digit Decimal n e = grind (arith, nat_tests)
one_digit Hexadecimal n e = grind (arith, nat_tests)

behind_quotient : (b : Base) (m d : ℕ) → d < radix b → (m * radix b + d) / radix b ≡ m
behind_quotient Decimal m d h = omega arith
behind_quotient Hexadecimal m d h = omega arith

behind_rest : (b : Base) (m d : ℕ) → d < radix b → (m * radix b + d) % radix b ≡ d
behind_rest Decimal m d h = omega arith
behind_rest Hexadecimal m d h = omega arith

grows : (b : Base) (m d : ℕ) → 0 < m → m < m * radix b + d
grows Decimal m d h = omega arith
grows Hexadecimal m d h = omega arith

-- the digits of a number in front of others, with so many at most
abbrev onto : Base → ℕ → ℕ → List ℕ → List ℕ
onto b k n acc = digits_onto k (radix b) false n acc

abbrev last : Base → ℕ → ℕ
last b n = digit_glyph false (n % radix b)

step : (b : Base) (k n : ℕ) (acc : List ℕ) (t : Bool) → eqb (n / radix b) 0 ≡ t
    → onto b (suc k) n acc ≡ cond t (last b n ∷ acc) (onto b k (n / radix b) (last b n ∷ acc))
step b k n acc t e = ap (λ (t : Bool). cond t (last b n ∷ acc) (onto b k (n / radix b) (last b n ∷ acc))) e

-- enough digits are enough
enough_by : (b : Base) (k j n : ℕ) (acc : List ℕ) (t : Bool) → eqb (n / radix b) 0 ≡ t
    → (t ≡ false → onto b k (n / radix b) (last b n ∷ acc) ≡ onto b j (n / radix b) (last b n ∷ acc))
    → onto b (suc k) n acc ≡ onto b (suc j) n acc
enough_by b k j n acc true e same = step b k n acc true e ∙ sym (step b j n acc true e)
enough_by b k j n acc false e same = step b k n acc false e ∙ same refl ∙ sym (step b j n acc false e)

enough : (b : Base) (k j n : ℕ) (acc : List ℕ) → n < k → n < j → onto b k n acc ≡ onto b j n acc
enough b zero j n acc h l = absurd (omega arith)
enough b (suc k) zero n acc h l = absurd (omega arith)
enough b (suc k) (suc j) n acc h l =
    enough_by b k j n acc (eqb (n / radix b) 0) refl
    (λ e. enough b k j (n / radix b) (last b n ∷ acc) (quotient_low b n k h e) (quotient_low b n j l e))

-- what the digits make
value_by : (b : Base) (k n : ℕ) (acc : List ℕ) (t : Bool) → eqb (n / radix b) 0 ≡ t
    → (t ≡ false → digits_value (radix b) (onto b k (n / radix b) (last b n ∷ acc)) ≡ digits_value_after (radix b)
    (n / radix b) (last b n ∷ acc))
    → digits_value (radix b) (onto b (suc k) n acc) ≡ digits_value_after (radix b) n acc
value_by b k n acc true e more =
    ap (digits_value (radix b)) (step b k n acc true e)
    ∙ ap (λ m. digits_value_after (radix b) m acc)
    (ap (λ v. 0 * radix b + v) (value_of_glyph b (n % radix b) (rest_low b n) ∙ one_digit b n e) ∙ omega arith)
value_by b k n acc false e more =
    ap (digits_value (radix b)) (step b k n acc false e) ∙ more refl
    ∙ ap (λ m. digits_value_after (radix b) m acc)
    (ap (λ v. n / radix b * radix b + v) (value_of_glyph b (n % radix b) (rest_low b n)) ∙ whole b n)

value_onto : (b : Base) (k n : ℕ) (acc : List ℕ) → n < k
    → digits_value (radix b) (onto b k n acc) ≡ digits_value_after (radix b) n acc
value_onto b zero n acc h = absurd (omega arith)
value_onto b (suc k) n acc h =
    value_by b k n acc (eqb (n / radix b) 0) refl
    (λ e. value_onto b k (n / radix b) (last b n ∷ acc) (quotient_low b n k h e))

pub value_of_numeral : (b : Base) (n : ℕ) → digits_value (radix b) (numeral (radix b) n) ≡ n
unfolding numeral
value_of_numeral b n = value_onto b (suc n) n [] (omega arith)

-- they are digits
all_by : (b : Base) (k n : ℕ) (acc : List ℕ) (t : Bool) → eqb (n / radix b) 0 ≡ t → list_all (is_digit b) acc ≡ true
    → (t ≡ false → list_all (is_digit b) (onto b k (n / radix b) (last b n ∷ acc)) ≡ true)
    → list_all (is_digit b) (onto b (suc k) n acc) ≡ true
all_by b k n acc true e all more =
    ap (list_all (is_digit b)) (step b k n acc true e)
    ∙ and_from _ _ (glyph_is_digit b (n % radix b) (rest_low b n)) all
all_by b k n acc false e all more = ap (list_all (is_digit b)) (step b k n acc false e) ∙ more refl

all_onto : (b : Base) (k n : ℕ) (acc : List ℕ) → n < k → list_all (is_digit b) acc ≡ true
    → list_all (is_digit b) (onto b k n acc) ≡ true
all_onto b zero n acc h all = absurd (omega arith)
all_onto b (suc k) n acc h all =
    all_by b k n acc (eqb (n / radix b) 0) refl all
    (λ e. all_onto b k (n / radix b) (last b n ∷ acc) (quotient_low b n k h e)
    (and_from _ _ (glyph_is_digit b (n % radix b) (rest_low b n)) all))

pub digits_of_numeral : (b : Base) (n : ℕ) → list_all (is_digit b) (numeral (radix b) n) ≡ true
unfolding numeral
digits_of_numeral b n = all_onto b (suc n) n [] (omega arith) refl

-- the first isn't a zero, where there are more
abbrev StartsAboveZero : List ℕ → Type 0
StartsAboveZero [] = ⊥
StartsAboveZero (c ∷ cs) = c ≡ 48 → ⊥

above_zero : (b : Base) (n : ℕ) → 0 < n → n < radix b → digit_glyph false n ≡ 48 → ⊥
above_zero Decimal n s h e = omega (arith, sym (value_of_glyph Decimal n h) ∙ ap digit_value e)
above_zero Hexadecimal n s h e = omega (arith, sym (value_of_glyph Hexadecimal n h) ∙ ap digit_value e)

starts_by : (b : Base) (k n : ℕ) (acc : List ℕ) (t : Bool) → eqb (n / radix b) 0 ≡ t → 0 < n
    → (t ≡ false → StartsAboveZero (onto b k (n / radix b) (last b n ∷ acc))) → StartsAboveZero (onto b (suc k) n acc)
starts_by b k n acc true e some more =
    let same : n % radix b ≡ n = one_digit b n e in
    let low : n < radix b = subst (λ (m : ℕ). m < radix b) same (rest_low b n) in
    subst StartsAboveZero (sym (step b k n acc true e))
    (λ z. above_zero b n some low (ap (digit_glyph false) (sym same) ∙ z))
starts_by b k n acc false e some more = subst StartsAboveZero (sym (step b k n acc false e)) (more refl)

some_quotient : (n : ℕ) → eqb n 0 ≡ false → 0 < n
some_quotient n e = grind (arith, nat_tests)

starts_onto : (b : Base) (k n : ℕ) (acc : List ℕ) → n < k → 0 < n → StartsAboveZero (onto b k n acc)
starts_onto b zero n acc h some = absurd (omega arith)
starts_onto b (suc k) n acc h some =
    starts_by b k n acc (eqb (n / radix b) 0) refl some
    (λ e. starts_onto b k (n / radix b) (last b n ∷ acc) (quotient_low b n k h e) (some_quotient (n / radix b) e))

no_zero : (ds : List ℕ) → StartsAboveZero ds → has_no_zero ds ≡ true
no_zero [] h = absurd h
no_zero (c ∷ []) h = refl
no_zero (c ∷ d ∷ ds) h = grind (arith, nat_tests, h)

numeral_by : (b : Base) (n : ℕ) → 0 < n → has_no_zero (numeral (radix b) n) ≡ true
unfolding numeral
numeral_by b n some = no_zero (onto b (suc n) n []) (starts_onto b (suc n) n [] (omega arith) some)

pub no_zero_of_numeral : (b : Base) (n : ℕ) → has_no_zero (numeral (radix b) n) ≡ true
unfolding numeral
no_zero_of_numeral Decimal zero = refl
no_zero_of_numeral Hexadecimal zero = refl
no_zero_of_numeral b (suc n) = numeral_by b (suc n) (omega arith)

-- digits without a leading zero are those of their number
joined_by : (b : Base) (k j m c : ℕ) (acc : List ℕ) (t : Bool) → eqb ((m * radix b + digit_value c) / radix b) 0 ≡ t
    → 0 < m → m < k → is_digit b c ≡ true
    → onto b (suc k) (m * radix b + digit_value c) acc ≡ onto b k m (c ∷ acc)
joined_by b k j m c acc true e some h d =
    absurd (omega (arith, sym (behind_quotient b m (digit_value c) (value_low b c d)) ∙ eqb-true _ 0 e))
joined_by b k j m c acc false e some h d =
    let front = behind_quotient b m (digit_value c) (value_low b c d) in
    let back : last b (m * radix b + digit_value c) ≡ c =
    ap (digit_glyph false) (behind_rest b m (digit_value c) (value_low b c d)) ∙ glyph_of_value b c d in
    step b k (m * radix b + digit_value c) acc false e
    ∙ ap (λ q. onto b k q (last b (m * radix b + digit_value c) ∷ acc)) front ∙ ap (λ g. onto b k m (g ∷ acc)) back

joined : (b : Base) (k m c : ℕ) (acc : List ℕ) → 0 < m → m < k → is_digit b c ≡ true
    → onto b (suc k) (m * radix b + digit_value c) acc ≡ onto b k m (c ∷ acc)
joined b k m c acc some h d = joined_by b k 0 m c acc (eqb ((m * radix b + digit_value c) / radix b) 0) refl some h d

-- all digits of a number and then others
spelled : (b : Base) (m : ℕ) (xs : List ℕ) → 0 < m → list_all (is_digit b) xs ≡ true
    → onto b (suc (digits_value_after (radix b) m xs)) (digits_value_after (radix b) m xs) [] ≡ onto b (suc m) m xs
spelled b m [] some all = refl
spelled b m (x ∷ xs) some all =
    let parts : (is_digit b x ≡ true) × (list_all (is_digit b) xs ≡ true) = and_parts _ _ all in
    let more : m < m * radix b + digit_value x = grows b m (digit_value x) some in
    spelled b (m * radix b + digit_value x) xs (omega (arith, more)) parts.1
    ∙ joined b (m * radix b + digit_value x) m x xs some more parts.0
    ∙ enough b (m * radix b + digit_value x) (suc m) m (x ∷ xs) more (omega arith)

no_quotient : (b : Base) (m : ℕ) → m < radix b → eqb (m / radix b) 0 ≡ true
no_quotient Decimal m h = grind (arith, nat_tests)
no_quotient Hexadecimal m h = grind (arith, nat_tests)

itself : (b : Base) (m : ℕ) → m < radix b → m % radix b ≡ m
itself Decimal m h = omega arith
itself Hexadecimal m h = omega arith

begun : (b : Base) (m c : ℕ) (xs : List ℕ) → is_digit b c ≡ true → m ≡ digit_value c → onto b (suc m) m xs ≡ c ∷ xs
begun b m c xs d e =
    let low : m < radix b = subst (λ (n : ℕ). n < radix b) (sym e) (value_low b c d) in
    step b m m xs true (no_quotient b m low)
    ∙ ap (λ g. g ∷ xs) (ap (digit_glyph false) (itself b m low ∙ e) ∙ glyph_of_value b c d)

nonzero : (b : Base) (c : ℕ) → is_digit b c ≡ true → not (eqb c 48) ≡ true → 0 < digit_value c
nonzero Decimal c d e = grind (arith, nat_tests)
nonzero Hexadecimal c d e = grind (arith, nat_tests)

pub numeral_of_digits : (b : Base) (ds : List ℕ) → list_all (is_digit b) ds ≡ true → has_no_zero ds ≡ true
    → numeral (radix b) (digits_value (radix b) ds) ≡ ds
unfolding numeral
numeral_of_digits b [] all h = absurd (false≢true h)
numeral_of_digits b (c ∷ []) all h = begun b (0 * radix b + digit_value c) c [] (and_parts _ _ all).0 (omega arith)
numeral_of_digits b (c ∷ d ∷ ds) all h =
    let parts : (is_digit b c ≡ true) × (list_all (is_digit b) (d ∷ ds) ≡ true) = and_parts _ _ all in
    let some : 0 < digit_value c = nonzero b c parts.0 h in
    spelled b (0 * radix b + digit_value c) (d ∷ ds) (omega (arith, some)) parts.1
    ∙ begun b (0 * radix b + digit_value c) c (d ∷ ds) parts.0 (omega arith)

-- so many digits at most as there are below a power of the base
power : Base → ℕ → ℕ
power b zero = radix b
power b (suc k) = radix b * power b k

below_power : (b : Base) (k n : ℕ) → n < radix b * power b k → n / radix b < power b k
below_power Decimal k n h = omega (arith, h)
below_power Hexadecimal k n h = omega (arith, h)

no_more : (b : Base) (n : ℕ) → n < radix b → eqb (n / radix b) 0 ≡ false → ⊥
no_more Decimal n h e = grind (arith, nat_tests)
no_more Hexadecimal n h e = grind (arith, nat_tests)

few : (b : Base) (n : ℕ) → n < 1 → n < radix b
few Decimal n h = omega (arith, h)
few Hexadecimal n h = omega (arith, h)

high : (b : Base) (n : ℕ) → n < 2 ^ 32 → n < power b 63
unfolding power
high Decimal n h = omega (arith, h)
high Hexadecimal n h = omega (arith, h)

few_enough : (b : Base) (k j n : ℕ) (acc : List ℕ) → n < power b k → n < suc j
    → onto b (suc k) n acc ≡ onto b (suc j) n acc
unfolding power
few_enough b zero j n acc h l = enough_by b zero j n acc (eqb (n / radix b) 0) refl (λ e. absurd (no_more b n h e))
few_enough b (suc k) zero n acc h l =
    enough_by b (suc k) zero n acc (eqb (n / radix b) 0) refl (λ e. absurd (no_more b n (few b n l) e))
few_enough b (suc k) (suc j) n acc h l =
    enough_by b (suc k) (suc j) n acc (eqb (n / radix b) 0) refl
    (λ e. few_enough b k j (n / radix b) (last b n ∷ acc) (below_power b k n h) (quotient_low b n (suc j) l e))

digits_same : (b : Base) (n : ℕ) → n < 2 ^ 32 → digits (radix b) false n ≡ numeral (radix b) n
unfolding digits numeral
digits_same b n h = few_enough b 63 n n [] (high b n h) (omega arith)

pub decimal_same : (n : ℕ) → n < 2 ^ 32 → digits 10 false n ≡ numeral 10 n
decimal_same n h = digits_same Decimal n h

pub hexadecimal_same : (n : ℕ) → n < 2 ^ 32 → digits 16 false n ≡ numeral 16 n
hexadecimal_same n h = digits_same Hexadecimal n h
