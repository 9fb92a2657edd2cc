-- The words of an image, as they are stored and as contracts see them.
use Rattle.std.proofs.Common.{◌≡◌, ℕ, zero, suc, ◌<◌, ◌≤◌, List, [], ◌∷◌, length, get_or, map, Option, Some, None, refl, sym, ap, ◌∙◌, arith}
use Rattle.std.specs.Prelude.{slice_get}
use Rattle.std.specs.Option.{option_map}
use Rattle.std.proofs.lemmas.Option.{slice_get-map, same_Some}
use Rattle.jump_map.specs.declared.cells.StoredCell.{StoredCell}
use Rattle.jump_map.specs.Image.{ImageWord, read_cell}
use Rattle.jump_map.specs.Storage.{shown, reading, stored}

reads_as : (cs : List StoredCell) (k : ℕ) (c : StoredCell) → map reading cs ≡ map stored cs
    → slice_get cs k ≡ Some c → reading c ≡ stored c
reads_as cs k c e h =
    let both : option_map reading (slice_get cs k) ≡ option_map stored (slice_get cs k) = sym (slice_get-map reading cs k) ∙ ap (λ xs. slice_get xs k) e ∙ slice_get-map stored cs k in
    same_Some (reading c) (stored c) (ap (option_map reading) (sym h) ∙ both ∙ ap (option_map stored) h)

pub read_some : (cs : List StoredCell) (k : ℕ) (c : StoredCell) → map reading cs ≡ map stored cs
    → slice_get cs k ≡ Some c
    → ◌≡◌ {A = Option ImageWord} (Some (record { what = c.what; place = c.place })) (option_map read_cell (slice_get (map shown cs) k))
read_some cs k c e h =
    (λ t. Some (record { what = sym (reads_as cs k c e h) t; place = c.place }))
    ∙ sym (ap (option_map read_cell) (slice_get-map shown cs k ∙ ap (option_map shown) h))

pub read_none : (cs : List StoredCell) (k : ℕ) → slice_get cs k ≡ None
    → ◌≡◌ {A = Option ImageWord} None (option_map read_cell (slice_get (map shown cs) k))
read_none cs k h = sym (ap (option_map read_cell) (slice_get-map shown cs k ∙ ap (option_map shown) h))

pub there : {X : Type 0} (xs : List X) (k : ℕ) (x : X) → k < length xs → x ≡ get_or xs k x → slice_get xs k ≡ Some x
there [] k x lt h = absurd (omega arith)
there (y ∷ ys) zero x lt h = ap (λ z. Some z) (sym h)
there (y ∷ ys) (suc k) x lt h = there ys k x (omega arith) h

pub past : {X : Type 0} (xs : List X) (k : ℕ) → length xs ≤ k → slice_get xs k ≡ None
past [] k le = refl
past (y ∷ ys) zero le = absurd (omega arith)
past (y ∷ ys) (suc k) le = past ys k (omega arith)
