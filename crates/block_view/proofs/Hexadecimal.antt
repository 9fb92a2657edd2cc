-- The digits of a number in hexadecimal, one after another.
use Rattle.std.proofs.Common.{◌≡◌, ℕ, zero, suc, ◌/◌, ◌%◌, ◌^◌, ◌<◌, ◌≤◌, Bool, true, false, cond, eqb, List, [], ◌∷◌, ◌++◌, refl, sym, ap, ◌∙◌, arith}
use Rattle.std.proofs.lemmas.Bool.Decides.{nat_tests}
use Rattle.std.proofs.lemmas.List.{append_assoc}
use Rattle.std.proofs.Math.Nat.{pow-suc}
use Rattle.std.specs.Fmt.{digits, digits_onto, digit_glyph}

-- the digits before some others
onto : (k n : ℕ) (acc : List ℕ) → digits_onto k 16 false n acc ≡ digits_onto k 16 false n [] ++ acc
onto zero n acc = refl
onto (suc k) n acc =
    by (digit_glyph false (n % 16)) (eqb (n / 16) 0)
    (onto k (n / 16) (digit_glyph false (n % 16) ∷ acc)) (onto k (n / 16) (digit_glyph false (n % 16) ∷ []))
  where
    by : (d : ℕ) (t : Bool)
        → digits_onto k 16 false (n / 16) (d ∷ acc) ≡ digits_onto k 16 false (n / 16) [] ++ d ∷ acc
        → digits_onto k 16 false (n / 16) (d ∷ []) ≡ digits_onto k 16 false (n / 16) [] ++ d ∷ []
        → cond t (d ∷ acc) (digits_onto k 16 false (n / 16) (d ∷ acc))
        ≡ cond t (d ∷ []) (digits_onto k 16 false (n / 16) (d ∷ [])) ++ acc
    by d true all own = refl
    by d false all own =
        all ∙ sym (append_assoc (digits_onto k 16 false (n / 16) []) (d ∷ []) acc)
        ∙ ap (λ x. x ++ acc) (sym own)

-- digits to spare change nothing
spare : (k n : ℕ) (acc : List ℕ) → n < 2 ^ suc k
    → digits_onto (suc (suc k)) 16 false n acc ≡ digits_onto (suc k) 16 false n acc
spare zero n acc small =
    let none : eqb (n / 16) 0 ≡ true = grind (arith, nat_tests, small) in
    let d = digit_glyph false (n % 16) in
    (λ t. cond (none t) (d ∷ acc) (digits_onto (suc zero) 16 false (n / 16) (d ∷ acc)))
    ∙ sym (λ t. cond (none t) (d ∷ acc) (digits_onto zero 16 false (n / 16) (d ∷ acc)))
spare (suc k) n acc small =
    let twice = pow-suc 2 (suc k) in
    let d = digit_glyph false (n % 16) in
    ap (λ x. cond (eqb (n / 16) 0) (d ∷ acc) x) (spare k (n / 16) (d ∷ acc) (omega (arith, small, twice)))

pub one_digit : (n : ℕ) → n < 16 → digits 16 false n ≡ digit_glyph false (n % 16) ∷ []
unfolding digits
one_digit n small =
    let none : eqb (n / 16) 0 ≡ true = grind (arith, nat_tests, small) in
    let d = digit_glyph false (n % 16) in
    λ t. cond (none t) (d ∷ []) (digits_onto 63 16 false (n / 16) (d ∷ []))

pub last_digit : (n : ℕ) → 16 ≤ n → n < 2 ^ 32
    → digits 16 false n ≡ digits 16 false (n / 16) ++ digit_glyph false (n % 16) ∷ []
unfolding digits
last_digit n large small =
    let more : eqb (n / 16) 0 ≡ false = grind (arith, nat_tests, large) in
    let d = digit_glyph false (n % 16) in
    (λ t. cond (more t) (d ∷ []) (digits_onto 63 16 false (n / 16) (d ∷ [])))
    ∙ onto 63 (n / 16) (d ∷ [])
    ∙ ap (λ x. x ++ d ∷ []) (sym (spare 62 (n / 16) [] (omega (arith, small))))
