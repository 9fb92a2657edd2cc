-- What is given says of an option one address, or none.
use Rattle.std.proofs.Common.{◌≡◌, ℕ, ◌^◌, ◌<◌, ◌≤◌, false, cond, ◌==◌, List, [], ◌∷◌, ◌++◌, length, codes, slice_index, sym, ap, ◌∙◌, subst, arith, Option, Some}
use Rattle.std.specs.Prelude.{drop}
use Rattle.std.specs.Str.Parse.{IsNumeral, digits_value, without_leading_plus}
use Rattle.std.proofs.lemmas.Int.Digits.{digits_value-lt}
use Rattle.std.proofs.Math.Nat.{pow-le-pow_right}
use Rattle.command_line.specs.Tasks.{MaybeAddress}
use Rattle.command_line.specs.Asks.{IsAddress, IsSaid}

address_one : (word : List ℕ) (a b : ℕ) → IsAddress word a → IsAddress word b → a ≡ b
address_one word a b h k =
    let same : h.digits ≡ k.digits = ap (drop 2) (sym h.word_is ∙ k.word_is) in
    sym h.value ∙ ap (digits_value 16) same ∙ k.value

pub no_address : (text digits : List ℕ) → text ≡ codes "0x" ++ digits
    → (slice_index digits 0 == 43) ≡ false
    → ((IsNumeral 16 (without_leading_plus digits) × (digits_value 16 (without_leading_plus digits) < 2 ^ 32)) → ⊥)
    → (a : ℕ) → IsAddress text a → ⊥
no_address text digits e no_plus none a h =
    let plain : without_leading_plus digits ≡ digits = ap (λ b. drop (cond b 1 0) digits) no_plus in
    let same : h.digits ≡ digits = ap (drop 2) (sym h.word_is ∙ e) in
    let few : length digits ≤ 8 = subst (λ ds. length ds ≤ 8) same h.few in
    let numeral : IsNumeral 16 digits = subst (IsNumeral 16) same h.numeral in
    let small = digits_value-lt 16 digits numeral.1 in
    let most = pow-le-pow_right {n = 16} (omega arith) few in
    let low : digits_value 16 digits < 2 ^ 32 = omega (arith, small, most) in
    none (subst (λ ds. IsNumeral 16 ds × (digits_value 16 ds < 2 ^ 32)) (sym plain) (numeral, low))

pub at_one : (values : List (List ℕ)) (n m : Option ℕ) → IsSaid (MaybeAddress n) values
    → IsSaid (MaybeAddress m) values → n ≡ m
at_one [] n m h k = h ∙ sym k
at_one (x ∷ []) n m h k = h.2 ∙ ap (λ a. Some a) (address_one x h.0 k.0 h.1 k.1) ∙ sym k.2
at_one (x ∷ y ∷ more) n m h k = absurd h

pub at_unread : (values : List (List ℕ)) (word : List ℕ) (n : Option ℕ) → values ≡ word ∷ []
    → ((a : ℕ) → IsAddress word a → ⊥) → IsSaid (MaybeAddress n) values → ⊥
at_unread values word n e none says =
    let given = subst (IsSaid (MaybeAddress n)) e says in none given.0 given.1
