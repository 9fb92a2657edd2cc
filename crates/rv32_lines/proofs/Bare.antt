-- Lines without the spaces at their ends.
use Rattle.std.proofs.Common.{◌≡◌, ℕ, zero, suc, ◌+◌, ◌-◌, ◌<◌, ◌≤◌, Bool, true, false, not, eqb, cond, List, [], ◌∷◌, ◌++◌, length, take, drop, get_or, refl, sym, ap, ◌∙◌, arith}
use mathlib.Core.List.{reverse}
use Rattle.std.specs.Prelude.{replicate}
use Rattle.std.proofs.lemmas.Bool.Decides.{nat_tests}
use Rattle.std.proofs.lemmas.List.{take_more, drop_more, replicate_more, reverse-append, reverse-reverse}
use Rattle.rv32_lines.specs.Statements.{begins_bare, IsBare}

drop_spaces : List ℕ → List ℕ
drop_spaces [] = []
drop_spaces (c ∷ cs) = cond (eqb c 32) (drop_spaces cs) (c ∷ cs)

trimmed : List ℕ → List ℕ
trimmed line = reverse (drop_spaces (reverse (drop_spaces line)))

dropped : (n : ℕ) (t : List ℕ) → drop_spaces (replicate n 32 ++ t) ≡ drop_spaces t
unfolding drop_spaces
dropped zero t = refl
dropped (suc n) t = dropped n t

all_dropped : (n : ℕ) → drop_spaces (replicate n 32) ≡ []
unfolding drop_spaces
all_dropped zero = refl
all_dropped (suc n) = all_dropped n

no_space : (c : ℕ) → not (eqb c 32) ≡ true → eqb c 32 ≡ false
no_space c e = grind (arith, nat_tests)

kept : (m : List ℕ) → begins_bare m ≡ true → drop_spaces m ≡ m
unfolding drop_spaces
kept [] e = refl
kept (c ∷ cs) e = ap (λ (b : Bool). cond b (drop_spaces cs) (c ∷ cs)) (no_space c e)

reverse_replicate : (n x : ℕ) → reverse (replicate n x) ≡ replicate n x
reverse_replicate zero x = refl
reverse_replicate (suc n) x =
    let same : n + 1 ≡ suc n = omega arith in
    reverse-append (x ∷ []) (replicate n x) ∙ ap (λ t. t ++ x ∷ []) (reverse_replicate n x) ∙ replicate_more n x
    ∙ ap (λ k. replicate k x) same

cut_back : (m : List ℕ) (n : ℕ) → begins_bare (reverse m) ≡ true
    → reverse (drop_spaces (reverse (m ++ replicate n 32))) ≡ m
cut_back m n e =
    ap (λ t. reverse (drop_spaces t))
    (reverse-append m (replicate n 32) ∙ ap (λ t. t ++ reverse m) (reverse_replicate n 32))
    ∙ ap reverse (dropped n (reverse m) ∙ kept (reverse m) e) ∙ reverse-reverse m

trimmed_is : (m : List ℕ) (n k : ℕ) → begins_bare m ≡ true → begins_bare (reverse m) ≡ true
    → trimmed (replicate n 32 ++ (m ++ replicate k 32)) ≡ m
unfolding trimmed
trimmed_is [] n k b e =
    ap (λ t. reverse (drop_spaces (reverse t))) (dropped n (replicate k 32) ∙ all_dropped k) ∙ cut_back [] 0 refl
trimmed_is (c ∷ cs) n k b e =
    ap (λ t. reverse (drop_spaces (reverse t)))
    (dropped n (c ∷ cs ++ replicate k 32) ∙ kept (c ∷ cs ++ replicate k 32) b)
    ∙ cut_back (c ∷ cs) k e

pub bare_once : (line a b : List ℕ) → IsBare line a → IsBare line b → a ≡ b
bare_once line a b p q =
    sym (ap trimmed p.line_is ∙ trimmed_is a p.before p.behind p.begins p.ends)
    ∙ ap trimmed q.line_is ∙ trimmed_is b q.before q.behind q.begins q.ends

front_begins : (m t : List ℕ) → begins_bare (m ++ t) ≡ true → begins_bare m ≡ true
front_begins [] t e = refl
front_begins (c ∷ cs) t e = e

pub is_bare : (line middle m : List ℕ) → (n : ℕ) × (line ≡ replicate n 32 ++ middle) → begins_bare middle ≡ true
    → (k : ℕ) × (middle ≡ m ++ replicate k 32) → begins_bare (reverse m) ≡ true → IsBare line m
is_bare line middle m h begins t ends = record {
  before = h.0;
  behind = t.0;
  line_is = h.1 ∙ ap (λ x. replicate h.0 32 ++ x) t.1;
  begins = front_begins m (replicate t.0 32) (sym (ap begins_bare t.1) ∙ begins);
  ends = ends;
}

-- spaces at the head
pub space_more : (xs : List ℕ) (i : ℕ) → i < length xs → take i xs ≡ replicate i 32 → get_or xs i 0 ≡ 32
    → take (i + 1) xs ≡ replicate (i + 1) 32
space_more xs i h e s =
    take_more xs i 0 h ∙ ap (λ t. t ++ get_or xs i 0 ∷ []) e ∙ ap (λ c. replicate i 32 ++ c ∷ []) s
    ∙ replicate_more i 32

begins_other : (c : ℕ) → eqb c 32 ≡ false → not (eqb c 32) ≡ true
begins_other c e = ap not e

pub begins_at : (xs : List ℕ) (i : ℕ) → eqb (get_or xs i 0) 32 ≡ false → begins_bare (drop i xs) ≡ true
begins_at [] zero e = refl
begins_at [] (suc i) e = refl
begins_at (x ∷ xs) zero e = begins_other x e
begins_at (x ∷ xs) (suc i) e = begins_at xs i e

pub begins_last : (xs : List ℕ) (i : ℕ) → length xs ≤ i → begins_bare (drop i xs) ≡ true
begins_last [] zero e = refl
begins_last [] (suc i) e = refl
begins_last (x ∷ xs) zero e = absurd (omega arith)
begins_last (x ∷ xs) (suc i) e = begins_last xs i (omega arith)

-- spaces at the end
pub space_before : (xs : List ℕ) (i : ℕ) → 0 < i → i ≤ length xs → drop i xs ≡ replicate (length xs - i) 32
    → get_or xs (i - 1) 0 ≡ 32
    → drop (i - 1) xs ≡ replicate (length xs - (i - 1)) 32
space_before xs zero some h e s = absurd (omega arith)
space_before xs (suc i) some h e s =
    let same : i + 1 ≡ suc i = omega arith in
    let back : suc i - 1 ≡ i = omega arith in
    let count : suc (length xs - suc i) ≡ length xs - (suc i - 1) = omega arith in
    ap (λ k. drop k xs) back ∙ drop_more xs i 0 (omega arith)
    ∙ ap (λ c. c ∷ drop (i + 1) xs) (ap (λ k. get_or xs k 0) (sym back) ∙ s) ∙ ap (λ k. 32 ∷ drop k xs) same
    ∙ ap (λ t. 32 ∷ t) e ∙ ap (λ k. replicate k 32) count

pub ends_at : (xs : List ℕ) (i : ℕ) → 0 < i → i ≤ length xs → eqb (get_or xs (i - 1) 0) 32 ≡ false
    → begins_bare (reverse (take i xs)) ≡ true
ends_at xs zero some h e = absurd (omega arith)
ends_at xs (suc i) some h e =
    let same : i + 1 ≡ suc i = omega arith in
    let back : suc i - 1 ≡ i = omega arith in
    ap (λ k. begins_bare (reverse (take k xs))) (sym same)
    ∙ ap (λ t. begins_bare (reverse t)) (take_more xs i 0 (omega arith))
    ∙ ap begins_bare (reverse-append (take i xs) (get_or xs i 0 ∷ []))
    ∙ begins_other (get_or xs i 0) (ap (λ k. eqb (get_or xs k 0) 32) (sym back) ∙ e)
