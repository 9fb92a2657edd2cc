-- Numbers with a sign, and where a text ends.
use Rattle.std.proofs.Common.{◌≡◌, ◌≢◌, ℕ, zero, suc, ◌<◌, ℤ, pos, negsuc, ◌≤ℤ◌, Bool, true, false, eqb, List, [], ◌∷◌, ◌++◌, length, Option, Some, None, refl, sym, ap, ◌∙◌, subst, arith}
use denote.Ref.{Bor}
use Rattle.std.specs.Prelude.{MatchOption, IfSome, codes, ◌-ℤ◌}
use Rattle.std.specs.List.{list_all}
use Rattle.std.proofs.lemmas.Bool.{and_parts, false≢true}
use Rattle.std.proofs.lemmas.Int.{ints}
use Rattle.rv32_lines.specs.declared.numerals.Base.{Base}
use Rattle.rv32_lines.specs.declared.numerals.Base.TheVariants.{Decimal}
use Rattle.rv32_lines.specs.Texts.{numeral, shift_by}
use Rattle.rv32_lines.specs.Reading.{radix, is_digit, has_no_zero, capped, clipped, IsNumeralThen, IsSignedThen, IsReadCommand}
use Rattle.rv32_lines.specs.declared.commands.WrittenInstruction.TheVariants as command
use Rattle.rv32_decode.specs.declared.Instr.TheVariants.{ShiftImm}
use Rattle.rv32_decode.specs.declared.ShiftOp.{ShiftOp}
use Rattle.rv32_lines.proofs.Spelling.{digits_of_numeral, no_zero_of_numeral}

begins_by : (b : Base) (ds rest us : List ℕ) (c : ℕ) → list_all (is_digit b) ds ≡ true → has_no_zero ds ≡ true
    → is_digit b c ≡ false → c ∷ us ≡ ds ++ rest → ⊥
begins_by b [] rest us c all h other e = false≢true h
begins_by b (d ∷ ds) rest us c all h other e =
    let same : c ≡ d = cc in
    false≢true (sym other ∙ ap (is_digit b) same ∙ (and_parts _ _ all).0)

-- a number begins with a digit
pub begins : (b : Base) (n : ℕ) (rest us : List ℕ) (c : ℕ) → is_digit b c ≡ false → c ∷ us ≡ numeral (radix b) n ++ rest
    → ⊥
begins b n rest us c other e =
    begins_by b (numeral (radix b) n) rest us c (digits_of_numeral b n) (no_zero_of_numeral b n) other e

pub negated : (number n : ℕ) (i : ℤ) (text rest : List ℕ) → number ≡ capped n → number ≢ 0
    → IsNumeralThen Decimal text n rest → i ≡ pos 0 -ℤ pos number
    → (m : ℕ) × (i ≡ clipped (negsuc m)) × IsNumeralThen Decimal text (suc m) rest
negated number zero i text rest e some h v = absurd (some e)
negated number (suc m) i text rest e some h v = (m, omega (arith, ints, e, v), h)

pub negative_some : (text digits : List ℕ) (r : Option (ℤ × Bor (List ℕ))) → text ≡ codes "-" ++ digits
    → IfSome r (λ p. (n : ℕ) × (p.0 ≡ clipped (negsuc n)) × IsNumeralThen Decimal digits (suc n) p.1.now)
    → IfSome r (λ p. (z : ℤ) × (p.0 ≡ clipped z) × IsSignedThen text z p.1.now)
negative_some text digits None e h = tt
negative_some text digits (Some p) e h =
    (negsuc h.0, h.1, record { text_is = e ∙ ap (λ t. 45 ∷ t) h.2.text_is; ends = h.2.ends })

pub negative_only : (text digits : List ℕ) (r : Option (ℤ × Bor (List ℕ))) → text ≡ codes "-" ++ digits
    → ((n : ℕ) (rest : List ℕ) → IsNumeralThen Decimal digits (suc n) rest
    → MatchOption r ⊥ (λ p. (p.0 ≡ clipped (negsuc n)) × (p.1.now ≡ rest)))
    → (z : ℤ) (rest : List ℕ) → IsSignedThen text z rest → MatchOption r ⊥ (λ p. (p.0 ≡ clipped z) × (p.1.now ≡ rest))
negative_only text digits r e h (pos n) rest s = absurd (begins Decimal n rest digits 45 refl (sym e ∙ s.text_is))
negative_only text digits r e h (negsuc n) rest s =
    let same : digits ≡ numeral 10 (suc n) ++ rest = cc (sym e ∙ s.text_is) in
    h n rest (record { text_is = same; ends = s.ends })

-- a shift by a number of either sign: one of its numbers doesn't fit, or it is an instruction
pub shift_far : (o : ShiftOp) (rd r : ℕ) (z : ℤ) → (rd < 32 → r < 32 → pos 0 ≤ℤ z → z ≤ℤ pos 31 → ⊥)
    → IsReadCommand command.OutOfRange (shift_by o rd r z)
shift_far o rd r (pos n) h = λ range. h range.0 range.1 (omega (arith, ints)) (omega (arith, ints, range.2))
shift_far o rd r (negsuc n) h = tt

pub shift_is : (o : ShiftOp) (rd r a : ℕ) (z : ℤ) → pos a ≡ z
    → IsReadCommand (command.Plain (ShiftImm o rd r a)) (shift_by o rd r z)
shift_is o rd r a z e = subst (λ (z : ℤ). IsReadCommand (command.Plain (ShiftImm o rd r a)) (shift_by o rd r z)) e refl

-- nothing stands behind
pub not_empty : (xs : List ℕ) (b : Bool) → b ≡ eqb (length xs) 0 → b ≡ false → xs ≡ [] → ⊥
not_empty xs b e f g = false≢true (sym f ∙ e ∙ ap (λ ys. eqb (length ys) 0) g)
