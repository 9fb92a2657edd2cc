-- The functions of a table, one after another.
use Rattle.std.proofs.Common.{◌≡◌, ℕ, zero, suc, ◌+◌, List, ◌++◌, sym, ap, ◌∙◌, arith}
use Rattle.std.specs.List.{range_with_len, flat_map}
use Rattle.std.proofs.lemmas.List.{append-nil, append_assoc}
use Rattle.elf_symbols.specs.Symbols.{Symbol}

more : (f : ℕ → List Symbol) (n a : ℕ)
    → flat_map f (range_with_len a (n + 1)) ≡ flat_map f (range_with_len a n) ++ f (a + n)
more f zero a = append-nil (f a) ∙ ap f (omega arith)
more f (suc n) a =
    let count : suc n + 1 ≡ suc (n + 1) = omega arith in
    ap (λ k. flat_map f (range_with_len a k)) count
    ∙ ap (λ x. f a ++ x) (more f n (a + 1))
    ∙ sym (append_assoc (f a) (flat_map f (range_with_len (a + 1) n)) (f (a + 1 + n)))
    ∙ ap (λ k. (f a ++ flat_map f (range_with_len (a + 1) n)) ++ f k) (omega arith)

-- a symbol more
pub one_more : (f : ℕ → List Symbol) (n : ℕ) (old new : List Symbol) → old ≡ flat_map f (range_with_len 0 n)
    → new ≡ old ++ f n → new ≡ flat_map f (range_with_len 0 (n + 1))
one_more f n old new before h =
    h ∙ ap (λ x. x ++ f n) before
    ∙ sym (more f n 0 ∙ ap (λ k. flat_map f (range_with_len 0 n) ++ f k) (omega arith))
