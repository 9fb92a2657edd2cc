-- The names of a file, and of another that may be left out.
use Rattle.std.proofs.Common.{◌≡◌, ℕ, List, [], ◌∷◌, Option, Some, None, refl, sym, ap, ◌∙◌}
use Rattle.command_line.specs.Tasks.{Read}
use Rattle.command_line.specs.Asks.{ArePlaced}
use Rattle.command_line.specs.Views.{place_of}
use Rattle.command_line.specs.Reading.{AreOneOrTwo, AreTwo, IsOne}
use Rattle.command_line.proofs.Rows.{one_file, same_file, same_read, two_read}

abbrev pub Placed : (x : List ℕ) (y : Option (List ℕ)) → List (List ℕ) → Type 0
Placed x y = ArePlaced (Read (Some x) ∷ place_of y)

pub one_or_two : (x : List ℕ) (y : Option (List ℕ)) (words : List (List ℕ)) → Placed x y words
    → AreOneOrTwo x y words
one_or_two x None words h = one_file x words h
one_or_two x (Some y) words h = two_read x y words h

apart : (x v w : List ℕ) (words : List (List ℕ)) → IsOne x words → AreTwo v w words → ⊥
apart x v w words h k = let e : x ∷ [] ≡ v ∷ w ∷ [] = sym h.0 ∙ k.0 in cc

pub same_one_or_two : (x v : List ℕ) (y w : Option (List ℕ)) (words : List (List ℕ))
    → Placed x y words → Placed v w words → (x ≡ v) × (y ≡ w)
same_one_or_two x v None None words h k = (same_file x v words h k, refl)
same_one_or_two x v None (Some w) words h k =
    absurd (apart x v w words (one_file x words h) (two_read v w words k))
same_one_or_two x v (Some y) None words h k =
    absurd (apart v x y words (one_file v words k) (two_read x y words h))
same_one_or_two x v (Some y) (Some w) words h k =
    let same = same_read x y v w words h k in (same.0, ap (λ n. Some n) same.1)
