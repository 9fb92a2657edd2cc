-- One more of what is told one after another.
use Rattle.std.proofs.Common.{◌≡◌, ℕ, zero, suc, ◌+◌, ◌-◌, ◌<◌, ◌≤◌, List, [], ◌∷◌, ◌++◌, length, Some, None, refl, sym, ap, ◌∙◌, append_assoc, arith, add-one, le-ltb}
use Rattle.std.proofs.lemmas.Grind.{common_steps}
use Rattle.std.proofs.lemmas.List.{drop_all}
use Rattle.gdb_remote.specs.Hexadecimal.{bytes_digits}
use Rattle.gdb_session.specs.Views.{View}
use Rattle.gdb_session.specs.Sessions.{register_line, register_lines_below, registers_below, register_digits, threads_below, separator, thread_digits, byte_at, mapped_front, if_mapped, piece}

pub lines_more : (n : ℕ) → register_lines_below (n + 1) ≡ register_lines_below n ++ register_line n
lines_more n = ap register_lines_below (add-one n)

pub registers_more : (v : View) (p n : ℕ) → registers_below v p (n + 1) ≡ registers_below v p n ++ register_digits v p n
registers_more v p n = ap (registers_below v p) (add-one n)

pub threads_more : (p : ℕ) → threads_below (p + 1) ≡ threads_below p ++ separator p ∷ thread_digits p
threads_more p = ap threads_below (add-one p)

-- a byte that is mapped, and one that isn't
pub front_more : (v : View) (p a n b : ℕ) → 0 < n → byte_at v p a ≡ Some b
    → mapped_front v p a n ≡ b ∷ mapped_front v p (a + 1) (n - 1)
front_more v p a zero b some e = absurd (omega arith)
front_more v p a (suc n) b some e =
    let less : n ≡ suc n - 1 = omega arith in
    ap (λ o. if_mapped o (mapped_front v p (a + 1) n)) e ∙ ap (λ k. b ∷ mapped_front v p (a + 1) k) less

pub front_end : (v : View) (p a n : ℕ) → byte_at v p a ≡ None → mapped_front v p a n ≡ []
front_end v p a zero e = refl
front_end v p a (suc n) e = ap (λ o. if_mapped o (mapped_front v p (a + 1) n)) e

-- a byte more was told, of those that are mapped
pub front_step : (v : View) (p a n i b : ℕ) (out all : List ℕ) → i < n → byte_at v p (a + i) ≡ Some b
    → out ++ bytes_digits (mapped_front v p (a + i) (n - i)) ≡ all
    → (out ++ bytes_digits (b ∷ [])) ++ bytes_digits (mapped_front v p (a + (i + 1)) (n - (i + 1))) ≡ all
front_step v p a n i b out all below is whole =
    let e : a + (i + 1) ≡ a + i + 1 = omega arith in
    let f : n - (i + 1) ≡ n - i - 1 = omega arith in
    let more : mapped_front v p (a + i) (n - i) ≡ b ∷ mapped_front v p (a + i + 1) (n - i - 1) =
    front_more v p (a + i) (n - i) b (omega arith) is in
    append_assoc out (bytes_digits (b ∷ [])) (bytes_digits (mapped_front v p (a + (i + 1)) (n - (i + 1))))
    ∙ ap (λ k. out ++ (bytes_digits (b ∷ []) ++ bytes_digits (mapped_front v p k (n - (i + 1))))) e
    ∙ ap (λ k. out ++ (bytes_digits (b ∷ []) ++ bytes_digits (mapped_front v p (a + i + 1) k))) f
    ∙ ap (λ bs. out ++ bytes_digits bs) (sym more) ∙ whole

-- no byte is mapped any more
pub front_none : (v : View) (p a n i : ℕ) (out all : List ℕ) → byte_at v p (a + i) ≡ None
    → out ++ bytes_digits (mapped_front v p (a + i) (n - i)) ≡ all → out ≡ all
front_none v p a n i out all is whole =
    let e : out ≡ out ++ [] = grind (arith, common_steps) in
    e ∙ ap (λ bs. out ++ bytes_digits bs) (sym (front_end v p (a + i) (n - i) is)) ∙ whole

pub piece_end : (offset n : ℕ) (text : List ℕ) → length text ≤ offset → piece offset n text ≡ 108 ∷ []
piece_end offset n text h = rw (drop_all offset text h, le-ltb n 0 (omega arith)) refl
