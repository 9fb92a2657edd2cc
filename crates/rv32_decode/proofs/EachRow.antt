-- What holds of each row of a list.
use Rattle.std.proofs.Common.{◌≡◌, Bool, true, false, cond, map, ◌++◌, List, [], ◌∷◌, refl, subst}
use Rattle.std.specs.Prelude.{Some, find}
use Rattle.std.specs.List.{list_all}
use Rattle.rv32_decode.specs.Rows.{Row}
use Rattle.rv32_decode.proofs.Fitting.{and_parts}

abbrev pub Each : (Row → Type 0) → List Row → Type 0
Each P [] = Unit {0}
Each P (r ∷ rs) = P r × Each P rs

pub Each-append : (P : Row → Type 0) (rs ts : List Row) → Each P rs → Each P ts → Each P (rs ++ ts)
Each-append P [] ts a b = b
Each-append P (r ∷ rs) ts a b = (a.0, Each-append P rs ts a.1 b)

pub Each-map : {A : Type 0} (P : Row → Type 0) (ok : A → Bool) (f : A → Row) → ((t : A) → ok t ≡ true → P (f t)) → (ts : List A) → list_all ok ts ≡ true
    → Each P (map f ts)
Each-map P ok f each [] all = tt
Each-map P ok f each (t ∷ ts) all =
    let both = and_parts (ok t) (list_all ok ts) all in (each t both.0, Each-map P ok f each ts both.1)

-- what holds of each row holds of the row that is found
found_case : (P : Row → Type 0) (test : Row → Bool) (s : Row) (rs : List Row) (r : Row) (b : Bool) → P s × Each P rs → test s ≡ b
    → cond b (Some s) (find test rs) ≡ Some r → ((r : Row) → find test rs ≡ Some r → P r × (test r ≡ true)) → P r × (test r ≡ true)
found_case P test s rs r true each passes found more =
    let same : s ≡ r = cc in
    let both : P s × (test s ≡ true) = (each.0, passes) in
    subst (λ (x : Row). P x × (test x ≡ true)) same both
found_case P test s rs r false each passes found more = more r found

pub found_row : (P : Row → Type 0) (test : Row → Bool) (rs : List Row) (r : Row) → Each P rs → find test rs ≡ Some r → P r × (test r ≡ true)
found_row P test [] r each found = cc
found_row P test (s ∷ rs) r each found = found_case P test s rs r (test s) each refl found (λ r. found_row P test rs r each.1)
