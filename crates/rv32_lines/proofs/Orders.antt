-- The order of an atomic is told by the end of its mnemonic.
use Rattle.std.proofs.Common.{◌≡◌, ℕ, Bool, true, false, List, [], ◌++◌, get_or, refl, sym, ap, ◌∙◌, arith}
use mathlib.Core.List.{reverse}
use Rattle.std.proofs.lemmas.List.{append_cancel_right, reverse-append}
use Rattle.std.specs.Prelude.{codes}
use Rattle.rv32_decode.specs.declared.AmoOp.{AmoOp}
use Rattle.rv32_decode.specs.declared.AmoOp.TheVariants as amo_op
use Rattle.rv32_text.specs.Listing.{amo_name, order_suffix}
use Rattle.rv32_lines.specs.declared.mnemonics.Mnemonic.{Mnemonic}
use Rattle.rv32_lines.specs.declared.mnemonics.Mnemonic.TheVariants.{Lr, Sc, Amo}
use Rattle.rv32_lines.specs.Reading.{mnemonic_text, IsAtomic}

-- the byte so many places before the end
from_end : ℕ → List ℕ → ℕ
from_end k xs = get_or (reverse xs) k 0

backwards : (a b c d : List ℕ) → a ++ b ≡ c ++ d → reverse b ++ reverse a ≡ reverse d ++ reverse c
backwards a b c d e = sym (reverse-append a b) ∙ ap reverse e ∙ reverse-append c d

backwards_three : (a b c d e : List ℕ) → a ++ b ≡ (c ++ d) ++ e
    → reverse b ++ reverse a ≡ reverse e ++ (reverse d ++ reverse c)
backwards_three a b c d e f = backwards a b (c ++ d) e f ∙ ap (λ t. reverse e ++ t) (reverse-append c d)

pub both_told : (bare front : List ℕ) (aq rl : Bool)
    → bare ++ codes ".aqrl" ≡ (front ++ codes ".w") ++ order_suffix aq rl
    → (bare ≡ front ++ codes ".w") × (true ≡ aq) × (true ≡ rl)
both_told bare front true true e = (append_cancel_right bare (front ++ codes ".w") (codes ".aqrl") e, refl, refl)
both_told bare front true false e =
    let h = backwards_three bare (codes ".aqrl") front (codes ".w") (codes ".aq") e in
    let bad : ◌≡◌ {A = ℕ} 108 113 = ap (λ t. get_or t 0 0) h in absurd (omega (arith, bad))
both_told bare front false true e =
    let h = backwards_three bare (codes ".aqrl") front (codes ".w") (codes ".rl") e in
    let bad : ◌≡◌ {A = ℕ} 113 46 = ap (λ t. get_or t 2 0) h in absurd (omega (arith, bad))
both_told bare front false false e =
    let h = backwards_three bare (codes ".aqrl") front (codes ".w") [] e in
    let bad : ◌≡◌ {A = ℕ} 108 119 = ap (λ t. get_or t 0 0) h in absurd (omega (arith, bad))

pub acquire_told : (bare front : List ℕ) (aq rl : Bool)
    → bare ++ codes ".aq" ≡ (front ++ codes ".w") ++ order_suffix aq rl
    → (bare ≡ front ++ codes ".w") × (true ≡ aq) × (false ≡ rl)
acquire_told bare front true true e =
    let h = backwards_three bare (codes ".aq") front (codes ".w") (codes ".aqrl") e in
    let bad : ◌≡◌ {A = ℕ} 113 108 = ap (λ t. get_or t 0 0) h in absurd (omega (arith, bad))
acquire_told bare front true false e = (append_cancel_right bare (front ++ codes ".w") (codes ".aq") e, refl, refl)
acquire_told bare front false true e =
    let h = backwards_three bare (codes ".aq") front (codes ".w") (codes ".rl") e in
    let bad : ◌≡◌ {A = ℕ} 113 108 = ap (λ t. get_or t 0 0) h in absurd (omega (arith, bad))
acquire_told bare front false false e =
    let h = backwards_three bare (codes ".aq") front (codes ".w") [] e in
    let bad : ◌≡◌ {A = ℕ} 113 119 = ap (λ t. get_or t 0 0) h in absurd (omega (arith, bad))

pub release_told : (name bare front : List ℕ) (aq rl : Bool) → ((front : List ℕ) → name ≡ front ++ codes ".aqrl" → ⊥)
    → name ≡ bare ++ codes ".rl" → name ≡ (front ++ codes ".w") ++ order_suffix aq rl
    → (bare ≡ front ++ codes ".w") × (false ≡ aq) × (true ≡ rl)
release_told name bare front true true other n e = absurd (other (front ++ codes ".w") e)
release_told name bare front true false other n e =
    let h = backwards_three bare (codes ".rl") front (codes ".w") (codes ".aq") (sym n ∙ e) in
    let bad : ◌≡◌ {A = ℕ} 108 113 = ap (λ t. get_or t 0 0) h in absurd (omega (arith, bad))
release_told name bare front false true other n e =
    (append_cancel_right bare (front ++ codes ".w") (codes ".rl") (sym n ∙ e), refl, refl)
release_told name bare front false false other n e =
    let h = backwards_three bare (codes ".rl") front (codes ".w") [] (sym n ∙ e) in
    let bad : ◌≡◌ {A = ℕ} 108 119 = ap (λ t. get_or t 0 0) h in absurd (omega (arith, bad))

-- what stands before the width of a read-modify-write
pub before_width : (o : AmoOp) → (front : List ℕ) × (amo_name o ≡ front ++ codes ".w")
before_width amo_op.Swap = (codes "amoswap", refl)
before_width amo_op.Add = (codes "amoadd", refl)
before_width amo_op.Xor = (codes "amoxor", refl)
before_width amo_op.And = (codes "amoand", refl)
before_width amo_op.Or = (codes "amoor", refl)
before_width amo_op.Min = (codes "amomin", refl)
before_width amo_op.Max = (codes "amomax", refl)
before_width amo_op.Minu = (codes "amominu", refl)
before_width amo_op.Maxu = (codes "amomaxu", refl)

-- a name is no atomic's where its bare mnemonic isn't
pub no_atomic : (name bare : List ℕ) (a r : Bool)
    → ((front : List ℕ) (aq rl : Bool) → name ≡ (front ++ codes ".w") ++ order_suffix aq rl
    → (bare ≡ front ++ codes ".w") × (a ≡ aq) × (r ≡ rl))
    → (bare ≡ codes "lr.w" → ⊥) → (bare ≡ codes "sc.w" → ⊥) → ((o : AmoOp) → bare ≡ amo_name o → ⊥)
    → (m : Mnemonic) → IsAtomic m → name ≡ mnemonic_text m → ⊥
no_atomic name bare a r only lr sc amo (Lr aq rl) h e = lr (only (codes "lr") aq rl e).0
no_atomic name bare a r only lr sc amo (Sc aq rl) h e = sc (only (codes "sc") aq rl e).0
no_atomic name bare a r only lr sc amo (Amo o aq rl) h e =
    let front = before_width o in
    amo o ((only front.0 aq rl (e ∙ ap (λ t. t ++ order_suffix aq rl) front.1)).0 ∙ sym front.1)
no_atomic name bare a r only lr sc amo m h e = absurd h
