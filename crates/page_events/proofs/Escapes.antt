-- What isn't in an escaped text.
use Rattle.std.proofs.Common.{◌≡◌, ℕ, zero, suc, ◌<◌, ◌==◌, ◌||◌, Bool, true, false, List, [], ◌∷◌, ◌++◌, length, slice_index_or, refl, sym, ap, ◌∙◌, arith, eq-eqb}
use Rattle.std.specs.Prelude.{Contains, codes, if◌then◌else◌}
use Rattle.std.proofs.lemmas.Bool.{true≢false}
use Rattle.page_events.specs.Escape.{escape_of, escaped}

-- the characters that are in no escaped text
pub data Mark : Type 0 where
  less : Mark
  greater : Mark
  quote : Mark
  apostrophe : Mark

abbrev pub code_of : Mark → ℕ
code_of less = 60
code_of greater = 62
code_of quote = 34
code_of apostrophe = 39

abbrev has : ℕ → List ℕ → Bool
has k [] = false
has k (c ∷ cs) = (c == k) || has k cs

or_true : (a : Bool) → (a || true) ≡ true
or_true true = refl
or_true false = refl

has_of : (k : ℕ) (text : List ℕ) (n : ℕ) → n < length text → slice_index_or text n k ≡ k → has k text ≡ true
has_of k [] n lt is = absurd (omega (arith, lt))
has_of k (c ∷ cs) zero lt is = ap (λ b. b || has k cs) (eq-eqb c k is)
has_of k (c ∷ cs) (suc n) lt is =
    let low : n < length cs = omega (arith, lt) in
    ap (λ b. (c == k) || b) (has_of k cs n low is) ∙ or_true (c == k)

has_both : (k : ℕ) (a b : List ℕ) → has k a ≡ false → has k b ≡ false → has k (a ++ b) ≡ false
has_both k [] b h g = g
has_both k (c ∷ cs) b h g = or_both (c == k) (has k cs) (has k (cs ++ b)) h (λ tail. has_both k cs b tail g)
  where
    or_both : (x y z : Bool) → (x || y) ≡ false → ((y ≡ false) → z ≡ false) → (x || z) ≡ false
    or_both true y z h f = h
    or_both false y z h f = f h

-- the names of characters have none of them, nor has another character
clean : (m : Mark) (c : ℕ) (a b d e f : Bool) → (c == 60) ≡ b → (c == 62) ≡ d → (c == 34) ≡ e → (c == 39) ≡ f
    → has (code_of m) (if a then codes "&amp;" else if b then codes "&lt;" else if d then codes "&gt;"
    else if e then codes "&quot;" else if f then codes "&#39;" else c ∷ []) ≡ false
clean less c true b d e f p q r s = refl
clean greater c true b d e f p q r s = refl
clean quote c true b d e f p q r s = refl
clean apostrophe c true b d e f p q r s = refl
clean less c false true d e f p q r s = refl
clean greater c false true d e f p q r s = refl
clean quote c false true d e f p q r s = refl
clean apostrophe c false true d e f p q r s = refl
clean less c false false true e f p q r s = refl
clean greater c false false true e f p q r s = refl
clean quote c false false true e f p q r s = refl
clean apostrophe c false false true e f p q r s = refl
clean less c false false false true f p q r s = refl
clean greater c false false false true f p q r s = refl
clean quote c false false false true f p q r s = refl
clean apostrophe c false false false true f p q r s = refl
clean less c false false false false true p q r s = refl
clean greater c false false false false true p q r s = refl
clean quote c false false false false true p q r s = refl
clean apostrophe c false false false false true p q r s = refl
clean less c false false false false false p q r s = ap (λ x. x || false) p
clean greater c false false false false false p q r s = ap (λ x. x || false) q
clean quote c false false false false false p q r s = ap (λ x. x || false) r
clean apostrophe c false false false false false p q r s = ap (λ x. x || false) s

all_clean : (m : Mark) (text : List ℕ) → has (code_of m) (escaped text) ≡ false
all_clean m [] = refl
all_clean m (c ∷ cs) =
    has_both (code_of m) (escape_of c) (escaped cs)
    (clean m c (c == 38) (c == 60) (c == 62) (c == 34) (c == 39) refl refl refl refl) (all_clean m cs)

pub none_in : (m : Mark) (text : List ℕ) → Contains (escaped text) (code_of m) → ⊥
none_in m text h =
    let yes : has (code_of m) (escaped text) ≡ true = has_of (code_of m) (escaped text) h.0 h.1 h.2 in
    true≢false (sym yes ∙ all_clean m text)
