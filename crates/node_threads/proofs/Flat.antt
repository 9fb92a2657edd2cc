-- Rows, one after another.
use Rattle.std.proofs.Common.{◌≡◌, ℕ, List, [], ◌∷◌, ◌++◌, map, length, ◌<◌, get_or, remove, ap, ap₂, ◌∙◌, sym, append_assoc, append-nil, lt_irrefl, Vec, Global}
use Rattle.std.specs.declared.collections.VecDeque.{VecDeque}
use Rattle.dsm_messages.specs.declared.messages.Wire.{Wire}
use Rattle.node_threads.specs.Crew.{RowsOf, flat}

abbrev Q : VecDeque Wire Global → List Wire
Q o = o.items

pub flat_snoc : (rows : List (Vec (VecDeque Wire Global) Global))
    (r : Vec (VecDeque Wire Global) Global) (rest : List (List Wire))
    → flat (rows ++ r ∷ []) ++ rest ≡ flat rows ++ (map Q r.items ++ rest)
flat_snoc [] r rest = ap (λ l. l ++ rest) (append-nil (map Q r.items))
flat_snoc (x ∷ xs) r rest =
    append_assoc (map Q x.items) (flat (xs ++ r ∷ [])) rest
    ∙ ap (λ l. map Q x.items ++ l) (flat_snoc xs r rest)
    ∙ sym (append_assoc (map Q x.items) (flat xs) (map Q r.items ++ rest))

pub rows_snoc : (n : ℕ) (rows : List (Vec (VecDeque Wire Global) Global))
    (r : Vec (VecDeque Wire Global) Global) → RowsOf n rows → length r.items ≡ n
    → RowsOf n (rows ++ r ∷ [])
rows_snoc n [] r h len = (len, tt)
rows_snoc n (x ∷ xs) r h len = (h.0, rows_snoc n xs r h.1 len)

pub flat_first : (rows rest : List (Vec (VecDeque Wire Global) Global))
    (r : Vec (VecDeque Wire Global) Global) → 0 < length rows → r ≡ get_or rows 0 r
    → rest ≡ remove rows 0 → flat rows ≡ map Q r.items ++ flat rest
flat_first [] rest r some is left = absurd (lt_irrefl _ some)
flat_first (x ∷ xs) rest r some is left =
    ap₂ (λ (a : Vec (VecDeque Wire Global) Global) b. map Q a.items ++ flat b) (sym is) (sym left)
